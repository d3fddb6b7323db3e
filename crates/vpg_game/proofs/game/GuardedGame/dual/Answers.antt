use Rattle.std.proofs.Common.{arith, ◌≡◌, List, ◌<◌, All, Contains, IsTrue, length, map, sym, ap, subst, ◌∙◌}
use Rattle.std.proofs.lemmas.Grind.{common_steps}
use Rattle.vpg_game.specs.Game.{NamedVertex, IsGame, IsAtLimit, dual_vertex, vertex_ids, priorities_of, top_in, dual_top_in}
use Rattle.vpg_game.specs.Naming.{features_named, IsNaming}
use Rattle.vpg_game.proofs.NamingSteps.{vertices_below}
use Rattle.vpg_game.proofs.DualGames.{all_below, is_dual, dual_ids, dual_top, dual_of_dual_top}
use Rattle.vpg_game.proofs.game.GuardedGame.dual.Goals as goal

none : (c : goal.After-deref) → Contains (priorities_of c.self.inside.vertices.items) 65536 → ⊥
none c has = let yes = subst IsTrue c.if-is_at_limit.false (c.is_at_limit.ensures.1 (subst IsAtLimit c.self.view_is has)) in absurd cc

pub dual_vertices-requires : goal.dual_vertices-requires
dual_vertices-requires c =
    let vs : List NamedVertex = c.self.inside.vertices.items in
    subst (λ (xs : List NamedVertex). All (λ p. p < 65536) (priorities_of xs)) (sym c.deref.ensures.value)
    (all_below (length vs) c.self.inside.features vs c.self.invariant.0.each (none c))

pub naming_of-requires : goal.naming_of-requires
naming_of-requires c =
    let vs : List NamedVertex = c.self.inside.vertices.items in
    let are : c.in-Ok.vertices.items ≡ map dual_vertex vs = c.in-Ok.ensures ∙ ap (map dual_vertex) c.deref.ensures.value in
    let has : Contains (priorities_of vs) 65536 → ⊥ = λ h. let yes = subst IsTrue c.if-is_at_limit.false (c.is_at_limit.ensures.1 (subst IsAtLimit c.self.view_is h)) in absurd cc in
    let is : IsGame (record { vertices = c.in-Ok.vertices.items; features = c.self.inside.features }) =
    subst (λ (xs : List NamedVertex). IsGame (record { vertices = xs; features = c.self.inside.features })) (sym are)
    (is_dual (record { vertices = vs; features = c.self.inside.features }) c.self.invariant.0 has) in
    subst (λ (xs : List NamedVertex). All (λ v. All (λ f. f < c.self.inside.features) (features_named v.edges)) xs) (sym c.deref-3.ensures.value)
    (vertices_below (length c.in-Ok.vertices.items) c.self.inside.features c.in-Ok.vertices.items is.each)

pub invariant_of-result : goal.invariant_of-result
invariant_of-result c =
    let vs : List NamedVertex = c.self.inside.vertices.items in
    let are : c.in-Ok.vertices.items ≡ map dual_vertex vs = c.in-Ok.ensures ∙ ap (map dual_vertex) c.deref.ensures.value in
    let has : Contains (priorities_of vs) 65536 → ⊥ = λ h. let yes = subst IsTrue c.if-is_at_limit.false (c.is_at_limit.ensures.1 (subst IsAtLimit c.self.view_is h)) in absurd cc in
    let ids = c.in-Ok-identifiers.ensures ∙ ap vertex_ids c.deref-2.ensures.value ∙ sym (dual_ids vs) ∙ sym (ap vertex_ids are) in (
      subst (λ (xs : List NamedVertex). IsGame (record { vertices = xs; features = c.self.inside.features })) (sym are)
          (is_dual (record { vertices = vs; features = c.self.inside.features }) c.self.invariant.0 has),
      ids,
      c.self.invariant.3 ∙ sym (dual_top vs) ∙ ap (λ (xs : List NamedVertex). top_in (priorities_of xs)) (sym are),
      c.self.invariant.2 ∙ sym (dual_of_dual_top vs) ∙ ap (λ (xs : List NamedVertex). dual_top_in (priorities_of xs)) (sym are),
      subst (λ (xs : List NamedVertex). IsNaming c.self.inside.features xs c.in-Ok-naming_of.naming) c.deref-3.ensures.value c.in-Ok-naming_of.ensures,
    )

pub returns-in_default-clause-at_limit : goal.returns-in_default-clause-at_limit
returns-in_default-clause-at_limit c = grind (arith, common_steps)

pub returns-clause-dual : goal.returns-clause-dual
returns-clause-dual c = grind (arith, common_steps)

pub returns-in_default-identifiers-clause-at_limit : goal.returns-in_default-identifiers-clause-at_limit
returns-in_default-identifiers-clause-at_limit c = grind (arith, common_steps)

pub returns-clause-at_limit : goal.returns-clause-at_limit
returns-clause-at_limit c = grind (arith, common_steps)

pub returns-in_default-naming_of-clause-at_limit : goal.returns-in_default-naming_of-clause-at_limit
returns-in_default-naming_of-clause-at_limit c = grind (arith, common_steps)
