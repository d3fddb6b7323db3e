use Rattle.vpg_why.specs.Explained.{choices}
use Rattle.vpg_why.proofs.Together.{more_spared}
use Rattle.vpg_why.proofs.sparing.spare_all.Goals as goal

pub returns-in-No-clause-spared : goal.returns-in-No-clause-spared
returns-in-No-clause-spared c =
    let order = c.args.order.now in
    let is = c.decisions.ensures.order in
    more_spared order.game order.diagram c.args.which c.args.vertex (choices order.decisions)
    c.args.spared.now.items c.args.literals.now c.extend_from_slice.new.self.items is.diagram.diagram is.named
    c.requires.literals c.in_ok-extend_from_slice.ensures.items c.requires.spared
    ((rw (c.deref.ensures.value, c.in_ok-more.ensures, c.decisions.ensures.decisions) at c.in_ok-shown.ensures.no)
    c.in-No.is)
