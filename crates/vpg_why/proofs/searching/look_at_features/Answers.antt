use Rattle.std.proofs.lemmas.Grind.{common_steps}
use Rattle.std.proofs.Common.{refl, arith}
use Rattle.vpg_why.specs.Explained.{choices}
use Rattle.vpg_why.specs.declared.question.Aim.TheVariants as aims
use Rattle.vpg_why.proofs.Splits.{conflict_lost}
use Rattle.vpg_why.proofs.searching.look_at_features.Goals as goal

pub returns-in-None : goal.returns-in-None
returns-in-None c = record {
  outlook = conflict_lost c.args.order.now.game c.args.order.now.diagram aims.Any (choices c.args.decisions.now) c.game-order.ensures.order.diagram ((rw c.in-None.is at c.in_ok-known.ensures.conflict) refl);
  exact = tt;
}

pub returns-in_ok-found-in-Some-clause-exact : goal.returns-in_ok-found-in-Some-clause-exact
returns-in_ok-found-in-Some-clause-exact c = grind (arith, common_steps)
