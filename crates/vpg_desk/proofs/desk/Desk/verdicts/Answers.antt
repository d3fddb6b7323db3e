use Rattle.std.proofs.Common.{◌≡◌, ◌<◌, ℕ, List, length, slice_index, sym, ◌∙◌, ap, subst}
use Rattle.std.specs.Arc.{arc_value}
use lib.ListN.{get_elem?}
use mathlib.Core.Option.{some}
use Rattle.vpg_game.proofs.Graphs.{same_count}
use Rattle.vpg_trail.specs.Page.{Hopeful, Dual}
use Rattle.vpg_trail.proofs.PageLemmas.{length-table_of}
use Rattle.vpg_sides.specs.declared.verdict.Verdict.{Verdict as Said}
use Rattle.vpg_desk.specs.Book.{Verdict, VerdictIs}
use Rattle.vpg_desk.specs.DeskFields.{desk_of}
use Rattle.vpg_desk.specs.State.{DeskState, Replies}
use Rattle.vpg_desk.proofs.Answering.{verdict_replies, table_told}
use Rattle.vpg_desk.proofs.Places.{at_below, count_by, each_by}
use Rattle.vpg_desk.proofs.desk.Desk.verdicts.Goals as goal
use Rattle.vpg_desk.proofs.desk.Desk.verdicts.Goals.{In_ok-said}

-- both tables are of one length
same : (c : In_ok-said) → length c.values.result.now ≡ length c.values-2.result.now
same c =
    let entries = c.self.inside.trail.entries in
    let vertices = c.self.inside.trail.vertices in
    ap length (c.values.ensures ∙ c.hopeful-hopeful.ensures) ∙ length-table_of Hopeful entries vertices
    ∙ sym (ap length (c.values-2.ensures ∙ c.dual-dual.ensures) ∙ length-table_of Dual entries vertices)

-- there are as many as vertices
counted : (c : In_ok-said) → length c.in_ok-said.said.items ≡ length (arc_value c.self.inside.game).vertices
counted c =
    ap length c.in_ok-said.ensures
    ∙ count_by c.top-top.result c.top-dual_top.result c.values.result.now c.values-2.result.now (same c)
    ∙ ap length (c.values.ensures ∙ c.hopeful-hopeful.ensures)
    ∙ length-table_of Hopeful c.self.inside.trail.entries c.self.inside.trail.vertices ∙ c.self.invariant.vertices
    ∙ same_count (arc_value c.self.inside.game)

pub returns-clause-count : goal.returns-clause-count
returns-clause-count c = subst (λ (s : DeskState). length c.in_ok-said.said.items ≡ length s.game.vertices) c.self.view_is (counted c)

pub returns-clause-each : goal.returns-clause-each
returns-clause-each c v one at =
    let inside : v < length (arc_value c.self.inside.game).vertices = subst (λ (n : ℕ). v < n) (counted c) (at_below c.in_ok-said.said.items v one at) in
    let first = table_told c.self.inside c.self.invariant Hopeful c.deref.result.now c.deref.ensures c.shape.result.now c.shape.ensures c.values.result.now (c.values.ensures ∙ c.hopeful-hopeful.ensures) v c.top-top.result inside c.top-top.ensures.top in
    let second = table_told c.self.inside c.self.invariant Dual c.deref-2.result.now c.deref-2.ensures c.shape-2.result.now c.shape-2.ensures c.values-2.result.now (c.values-2.ensures ∙ c.dual-dual.ensures) v c.top-dual_top.result inside c.top-dual_top.ensures.top in
    let by = each_by c.top-top.result c.top-dual_top.result c.values.result.now c.values-2.result.now v one (subst (λ (l : List Said). get_elem? l v ≡ some one) c.in_ok-said.ensures at) in
    let is = sym by in
    subst (λ (s : DeskState). Replies s (Verdict v) (VerdictIs one.hopeless one.sure)) c.self.view_is
    (coe 0 1 (k. Replies (desk_of c.self.inside) (Verdict v) (VerdictIs (is k).hopeless (is k).sure))
    (verdict_replies c.self.inside v (slice_index c.values.result.now v) (slice_index c.values-2.result.now v) c.top-top.result c.top-dual_top.result first.1.0 first.1.1 second.1.0 second.1.1))
