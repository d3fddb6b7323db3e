use Rattle.std.proofs.Common.{sym, ◌∙◌}
use Rattle.vpg_products.proofs.Growth.{grows_none, grows_more, none_before}
use Rattle.vpg_products.proofs.growing.grow_on.Goals as goal

pub loop-init : goal.loop-init
loop-init c = grows_none c.args.diagram.now.lines c.args.known.now

pub returns-in_default-clause-grows : goal.returns-in_default-clause-grows
returns-in_default-clause-grows c = c.loop.invariant

pub returns-in_err-failed-clause-grows : goal.returns-in_err-failed-clause-grows
returns-in_err-failed-clause-grows c = grows_more c.args.diagram.now.lines c.args.known.now c.loop.known c.visit_each.new.known c.loop.invariant c.visit_each.ensures.grows

pub returns-then-is_some-clause-grows : goal.returns-then-is_some-clause-grows
returns-then-is_some-clause-grows c = grows_more c.args.diagram.now.lines c.args.known.now c.loop.known c.visit_each.new.known c.loop.invariant c.visit_each.ensures.grows

pub returns-then-is_some-clause-fails : goal.returns-then-is_some-clause-fails
returns-then-is_some-clause-fails c = λ t. none_before c.args.diagram.now.lines c.args.known.now c.loop.known c.loop.invariant (c.in_ok-failed.ensures.fails t)

pub loop-preserved : goal.loop-preserved
loop-preserved c = grows_more c.args.diagram.now.lines c.args.known.now c.loop.known c.visit_each.new.known c.loop.invariant c.visit_each.ensures.grows

pub returns-clause-grows : goal.returns-clause-grows
returns-clause-grows c = c.loop.invariant
