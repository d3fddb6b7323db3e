use Rattle.std.proofs.lemmas.Grind.{common_steps}
use Rattle.std.proofs.Common.{◌∙◌, ◌++◌, ℕ, List, All, length, sym, ap, subst, arith}
use Rattle.std.proofs.lemmas.List.Elements.{All-append}
use Rattle.vpg_trail.specs.Page.{Hopeful, Dual}
use Rattle.vpg_trail.specs.Shown.{entry_of, VertexBelow}
use Rattle.vpg_trail.specs.declared.entry.Entry.{Entry}
use Rattle.vpg_trail.proofs.PageLemmas.{length-table_of}
use Rattle.vpg_desk.proofs.Committed.{harvest_length}
use Rattle.vpg_desk.proofs.commit.raise.Goals as goal

pub lifts-requires-clause-present : goal.lifts-requires-clause-present
lifts-requires-clause-present c = ap length c.hopeful.ensures ∙ length-table_of Hopeful c.args.trail.now.entries c.args.trail.now.vertices ∙ sym c.vertices-vertices.ensures

pub lifts-requires-clause-values : goal.lifts-requires-clause-values
lifts-requires-clause-values c = ap length c.table.ensures.table ∙ harvest_length c.args.harvest.now Hopeful c.table.ensures.harvest ∙ c.requires ∙ sym c.vertices-vertices.ensures

pub lifts-requires-2-clause-present : goal.lifts-requires-2-clause-present
lifts-requires-2-clause-present c = ap length c.dual.ensures ∙ length-table_of Dual c.args.trail.now.entries c.args.trail.now.vertices ∙ sym c.vertices-vertices.ensures

pub lifts-requires-2-clause-values : goal.lifts-requires-2-clause-values
lifts-requires-2-clause-values c = ap length c.table-2.ensures.table ∙ harvest_length c.args.harvest.now Dual c.table-2.ensures.harvest ∙ c.requires ∙ sym c.vertices-vertices.ensures

pub returns-clause-below : goal.returns-clause-below
returns-clause-below c =
    subst (λ (l : List Entry). All (λ e. VertexBelow c.args.trail.now.vertices (entry_of e)) l) (sym c.in_ok-append.ensures.items)
    (subst (λ (n : ℕ). All (λ (e : Entry). VertexBelow n (entry_of e)) (c.in_ok-raised.raised.items ++ c.in_ok-dual.dual.items)) c.vertices-vertices.ensures
    (All-append (λ (e : Entry). VertexBelow c.vertices-vertices.result (entry_of e)) c.in_ok-raised.raised.items c.in_ok-dual.dual.items c.in_ok-raised.ensures.vertices c.in_ok-dual.ensures.vertices))

pub returns-clause-lifts : goal.returns-clause-lifts
returns-clause-lifts c = grind (arith, common_steps)
