use Rattle.std.proofs.Common.{List, ℕ, sym, ap, subst, ◌∙◌}
use Rattle.vpg_guards.specs.declared.tri.Tri.{Tri}
use Rattle.vpg_guards.specs.Known.{IsFiner}
use Rattle.vpg_measure.specs.Games.{GamesView, games_arena, games_levels}
use Rattle.vpg_measure.specs.Least.{IsBelowProgressTables}
use Rattle.vpg_partial.specs.TableLaws.{IsKnownTable}
use Rattle.vpg_why.specs.Explained.{choices}
use Rattle.vpg_why.proofs.Starts.{page_below}
use Rattle.vpg_why.proofs.asking.first_table.Goals as goal

pub returns-then-refines-clause-below : goal.returns-then-refines-clause-below
returns-then-refines-clause-below c = subst (λ (t : List ℕ). IsBelowProgressTables (games_levels c.args.which c.args.games.now) (games_arena c.args.which c.args.games.now) t)
    (sym (c.in_ok-table.ensures ∙ c.table.ensures.table))
    (page_below c.args.order.now c.table.ensures.order c.args.games.now c.requires.0 c.requires.1 c.known.result.now
    (subst (λ (k : List Tri). IsKnownTable c.args.order.now.diagram.lines (choices c.args.order.now.decisions) k) (sym (c.known.ensures ∙ ap (λ (g : GamesView). g.known) c.deref-2.ensures)) c.games.ensures.known)
    (subst (λ (k : List Tri). IsFiner c.known.result.now k) c.known-2.ensures (c.refines.ensures c.if-refines.true)) c.args.which)
