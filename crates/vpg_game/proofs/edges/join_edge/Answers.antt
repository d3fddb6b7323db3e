use Rattle.std.proofs.Common.{◌≡◌, ℕ, List, ◌<◌, ◌++◌, ◌∷◌, [], length, get_or, set, sym, ap, subst, ◌∙◌, arith}
use Rattle.std.proofs.lemmas.Grind.{common_steps}
use Rattle.std.proofs.lemmas.List.{get_or_read}
use Rattle.vpg_guards.specs.Formula.{Formula}
use Rattle.vpg_guards.specs.Grammar.{either}
use Rattle.vpg_guards.specs.View.{formula_of}
use Rattle.vpg_game.specs.Edges.{GuardedEdge, no_edge, ArePlaces}
use Rattle.vpg_game.proofs.Joining.{join_there, join_behind, places_behind, set_twice, edge_same}
use Rattle.vpg_game.proofs.edges.join_edge.Goals as goal
use Rattle.vpg_game.proofs.edges.join_edge.Goals.{else-at-len-via-then-at-len+else-index-to_vertex, else-at-len-via-else-at-len}

pub returns-then-index-to_vertex-clause-edges : goal.returns-then-index-to_vertex-clause-edges
returns-then-index-to_vertex-clause-edges c =
    let es : List (GuardedEdge Formula) = c.args.edges.now.items in
    let at : ℕ = get_or c.args.places.now c.args.to 0 in
    let within : at < length es = omega (arith, c.if-at-len.true, c.len.ensures, c.args.edges.now.ok.0) in
    let seen : c.index.result.now ≡ get_or es at no_edge = get_or_read es at c.index.result.now within c.index.ensures no_edge in
    let old : c.index_mut.result.now ≡ get_or es at no_edge = get_or_read es at c.index_mut.result.now within c.index_mut.ensures.value no_edge in
    let same : (get_or es at no_edge).to ≡ c.args.to = ap (λ (e : GuardedEdge Formula). e.to) (sym seen) ∙ sym (ap (λ (e : GuardedEdge Formula). e.to) c.behind-edges.view_is) ∙ c.if-index-to_vertex.true in
    let was : c.replace-edge.result ≡ get_or es at no_edge = c.replace-edge.ensures.value ∙ old in
    set_twice es at _ _
    ∙ ap (set es at) (edge_same (c.in_ok-edges.ensures.0 ∙ ap (λ (e : GuardedEdge Formula). e.to) was ∙ same) (c.in_ok-edges.ensures.1 ∙ ap (λ (e : GuardedEdge Formula). either e.guard (formula_of c.args.guard)) was))
    ∙ sym (join_there c.args.places.now es (record { to = c.args.to; guard = formula_of c.args.guard }) c.requires.places within same)

-- no edge has the target
none : (c : goal.In_ok-push) → get_or c.args.places.now c.args.to 0 < length c.args.edges.now.items → (get_or c.args.edges.now.items (get_or c.args.places.now c.args.to 0) no_edge).to ≡ c.args.to → ⊥
none c within same =
    let es : List (GuardedEdge Formula) = c.args.edges.now.items in
    let at : ℕ = get_or c.args.places.now c.args.to 0 in
    elim c.else-at-len.branch [
      | else-at-len-via-then-at-len+else-index-to_vertex w ↦ (
          let seen : w.index.result.now ≡ get_or es at no_edge = get_or_read es at w.index.result.now within w.index.ensures no_edge in
          w.if-index-to_vertex.false (ap (λ (e : GuardedEdge Formula). e.to) w.behind-edges.view_is ∙ ap (λ (e : GuardedEdge Formula). e.to) seen ∙ same))
      | else-at-len-via-else-at-len w ↦ omega (arith, w.if-at-len.false, c.len.ensures, c.args.edges.now.ok.0)
    ]

pub returns-clause-edges : goal.returns-clause-edges
returns-clause-edges c =
    c.in_ok-push.ensures.items ∙ sym (join_behind c.args.places.now c.args.edges.now.items (record { to = c.args.to; guard = formula_of c.args.guard }) c.requires.places (none c))

pub returns-clause-places : goal.returns-clause-places
returns-clause-places c =
    let len : c.len-2.result ≡ length c.args.edges.now.items = omega (arith, c.len-2.ensures, c.args.edges.now.ok.0) in
    let more : List (GuardedEdge Formula) = c.args.edges.now.items ++ record { to = c.args.to; guard = formula_of c.args.guard } ∷ [] in
    let made = places_behind c.args.places.now c.args.edges.now.items (record { to = c.args.to; guard = formula_of c.args.guard }) c.requires.places c.requires.within (none c) in
    subst (λ (es : List (GuardedEdge Formula)). ArePlaces (set c.args.places.now c.args.to c.len-2.result) es) (sym c.in_ok-push.ensures.items) (subst (λ (n : ℕ). ArePlaces (set c.args.places.now c.args.to n) more) (sym len) made)

pub returns-then-index-to_vertex-clause-places : goal.returns-then-index-to_vertex-clause-places
returns-then-index-to_vertex-clause-places c = grind (arith, common_steps)
