use Rattle.std.proofs.Common.{sym, subst}
use Rattle.vpg_family.specs.Emptiness.{TellsProduct}
use Rattle.vpg_family.proofs.Inhabited.{counted}
use Rattle.vpg_family.proofs.emptiness.has_counted.Goals as goal

pub returns-clause-exact : goal.returns-clause-exact
returns-clause-exact c =
    let lines = c.args.diagram.now.lines in
    subst (TellsProduct lines) (sym c.in_ok-any.ensures) (counted lines c.in_ok-count.count c.in_ok-count.ensures.number)
