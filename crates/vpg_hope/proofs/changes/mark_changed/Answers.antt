use Rattle.std.proofs.lemmas.Grind.{common_steps}
use Rattle.std.proofs.Common.{◌<◌, ℕ, All, sym, subst, arith}
use Rattle.vpg_game.specs.Game.{graph_of}
use Rattle.vpg_hope.proofs.ChangeSteps.{all_within}
use Rattle.vpg_hope.proofs.changes.mark_changed.Goals as goal

pub mark_each-requires : goal.mark_each-requires
mark_each-requires c =
    subst (λ (n : ℕ). All (λ v. v < n) c.naming.result.now) (sym c.requires) (all_within (graph_of c.args.game.now) c.args.feature c.naming.result.now c.naming.ensures)

pub returns-clause-marked : goal.returns-clause-marked
returns-clause-marked c = λ differ v h. c.mark_each.ensures.marked v ((c.naming.ensures v).1 h)

pub returns-then-eq-clause-marked : goal.returns-then-eq-clause-marked
returns-then-eq-clause-marked c = grind (arith, common_steps)

pub returns-clause-count : goal.returns-clause-count
returns-clause-count c = grind (arith, common_steps)
