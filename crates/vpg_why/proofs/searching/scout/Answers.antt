use Rattle.std.specs.Prelude.{IfOk}
use Rattle.std.proofs.Common.{sym, subst}
use Rattle.vpg_why.specs.Explained.{choices}
use Rattle.vpg_why.specs.Found.{IsOutlookExact}
use Rattle.vpg_why.specs.Suffices.{AimSettlesUnder}
use Rattle.vpg_why.specs.declared.question.Aim.{Aim}
use Rattle.vpg_why.proofs.searching.scout.Goals as goal

pub returns-in-Won-clause-settled : goal.returns-in-Won-clause-settled
returns-in-Won-clause-settled c =
    subst (λ (a : Aim). IfOk c.scout_game.result (λ seen. AimSettlesUnder c.args.limits.rounds c.args.order.now.game c.args.order.now.diagram a (choices c.args.decisions.now) → IsOutlookExact seen.outlook))
    (sym c.in-Won.is) c.scout_game.ensures.settled
