use Rattle.std.proofs.Common.{◌++◌, ◌∷◌, []}
use Rattle.vpg_why.specs.Explained.{choices}
use Rattle.vpg_why.proofs.Beside.{named_one}
use Rattle.vpg_why.proofs.Ahead.{barred}
use Rattle.vpg_why.proofs.foreseeing.seek_by_verdict.Goals as goal

pub returns-in-Yes-clause-found : goal.returns-in-Yes-clause-found
returns-in-Yes-clause-found c =
    let order = c.args.order.now in
    let is = c.game-order.ensures.order in
    barred order.game order.diagram c.args.limits c.args.vertex c.args.which (choices order.decisions ++ c.args.choice ∷ []) is.game is.diagram
    (named_one order.diagram.lines (choices order.decisions) c.args.choice is.named c.requires.feature) c.requires.vertex c.args.verdict c.in-Yes.is c.requires.verdict
