use Rattle.std.proofs.lemmas.Grind.{common_steps}
use Rattle.std.proofs.Common.{◌≡◌, ℕ, ◌-◌, ◌<◌, length, drop, All, sym, ap, subst, ◌∙◌, arith}
use Rattle.std.proofs.lemmas.List.{length-map}
use Rattle.std.proofs.lemmas.List.Elements.{All-take, All-drop}
use Rattle.std.specs.Arc.{arc_slice_items}
use Rattle.vpg_hope.specs.Arena.{row_vertex}
use Rattle.vpg_hope.proofs.arena.Arena.kept.Goals.{then-row, else-row}
use Rattle.vpg_hope.proofs.arena.Arena.kept.Goals as goal

pub returns-clause-closed : goal.returns-clause-closed
returns-clause-closed c =
    let a = c.self.inside in
    let row = c.index-row.result.now in
    let inside : ℕ → Type 0 = λ w. w < length c.args.self.now in
    let same : length a.rows.items ≡ length c.args.self.now = sym (length-map a.rows.items (row_vertex (arc_slice_items a.shared) a.own.items)) ∙ ap length c.self.view_is in
    let closed : All inside c.if-row.list.now = elim c.if-row.branch [
      | then-row w ↦ subst (All inside) (sym (ap (λ l. l.now) w.list-is ∙ w.deref-list.ensures.value)) (subst (λ (n : ℕ). All (λ w. w < n) a.own.items) same c.self.invariant.own_closed)
      | else-row w ↦ subst (All inside) (sym (ap (λ l. l.now) w.list-is ∙ w.deref-list-else-row.ensures.value)) (subst (λ (n : ℕ). All (λ w. w < n) (arc_slice_items a.shared)) same c.self.invariant.closed)
    ] in
    All-take inside (row.end - row.start) (drop row.start c.if-row.list.now) (All-drop inside row.start c.if-row.list.now closed)

pub slice_bounds-result-end : goal.slice_bounds-result-end
slice_bounds-result-end c = grind (arith, common_steps)

pub slice_bounds-result-count : goal.slice_bounds-result-count
slice_bounds-result-count c = grind (arith, common_steps)

pub slice_bounds-result-start : goal.slice_bounds-result-start
slice_bounds-result-start c = grind (arith, common_steps)

pub returns-clause-kept : goal.returns-clause-kept
returns-clause-kept c = grind (arith, common_steps)

pub index-row-requires : goal.index-row-requires
index-row-requires c = grind (arith, common_steps)
