use Rattle.vpg_products.proofs.Growth.{grows_none, grows_more, none_before}
use Rattle.vpg_products.proofs.growing.visit_each.Goals as goal

pub loop-number-init : goal.loop-number-init
loop-number-init c = grows_none c.args.diagram.now.lines c.args.known.now

pub returns-in_err-visit-clause-grows : goal.returns-in_err-visit-clause-grows
returns-in_err-visit-clause-grows c = grows_more c.args.diagram.now.lines c.args.known.now c.loop-number.known c.visit.new.known c.loop-number.invariant c.visit.ensures.grows

pub returns-then-branch-clause-grows : goal.returns-then-branch-clause-grows
returns-then-branch-clause-grows c = grows_more c.args.diagram.now.lines c.args.known.now c.loop-number.known c.visit.new.known c.loop-number.invariant c.visit.ensures.grows

pub returns-then-branch-clause-fails : goal.returns-then-branch-clause-fails
returns-then-branch-clause-fails c = λ t. none_before c.args.diagram.now.lines c.args.known.now c.loop-number.known c.loop-number.invariant (c.in_ok-visit.ensures.fails c.if-branch.true)

pub loop-number-preserved : goal.loop-number-preserved
loop-number-preserved c = grows_more c.args.diagram.now.lines c.args.known.now c.loop-number.known c.visit.new.known c.loop-number.invariant c.visit.ensures.grows

pub returns-clause-grows : goal.returns-clause-grows
returns-clause-grows c = c.loop-number.invariant
