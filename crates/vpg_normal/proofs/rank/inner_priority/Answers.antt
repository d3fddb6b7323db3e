use Rattle.std.proofs.Common.{◌≡◌, ◌+◌, ◌-◌, ◌<◌, length, reverse, arith, take_all}
use Rattle.vpg_normal.proofs.Nearest.{along_whole, along_step, along_stop}
use Rattle.vpg_normal.proofs.rank.inner_priority.Goals as goal

pub loop-left-init : goal.loop-left-init
loop-left-init c = rw (take_all (length c.args.variables.now) c.args.variables.now (omega arith)) (omega arith)

pub loop-left-preserved : goal.loop-left-preserved
loop-left-preserved c =
    let l = c.loop-left in
    let next : l.left ≡ l.left - 1 + 1 = omega (arith, c.loop-left-test.true) in
    let inside : l.left - 1 < length c.args.variables.now = omega (arith, l.auto.left, c.loop-left-test.true) in
    let step = along_step c.args.scopes.now c.args.fixpoints.now c.args.priorities.now c.args.fixpoint (c.args.fixpoint + 1 + c.args.size) c.args.variables.now l.left (l.left - 1) next inside c.if-variable-end.false in
    rw (c.max-greatest.ensures, c.share.ensures) (omega (arith, l.invariant, step))

pub returns-then-variable-end : goal.returns-then-variable-end
returns-then-variable-end c =
    let l = c.loop-left in
    let next : l.left ≡ l.left - 1 + 1 = omega (arith, c.loop-left-test.true) in
    let inside : l.left - 1 < length c.args.variables.now = omega (arith, l.auto.left, c.loop-left-test.true) in
    omega (
      arith,
      l.invariant,
      along_stop c.args.scopes.now c.args.fixpoints.now c.args.priorities.now c.args.fixpoint (c.args.fixpoint + 1 + c.args.size) c.args.variables.now l.left (l.left - 1) next inside c.if-variable-end.true,
      along_whole c.args.scopes.now c.args.fixpoints.now c.args.priorities.now c.args.fixpoint (c.args.fixpoint + 1 + c.args.size) (c.args.fixpoint + 1) (length c.args.fixpoints.now - (c.args.fixpoint + 1)) c.args.size (reverse c.args.variables.now) c.requires.variables (omega arith) (omega (arith, c.requires.fits)),
    )

pub returns : goal.returns
returns c =
    let l = c.loop-left in
    let none : l.left ≡ 0 = omega (arith, c.loop-left-test.false) in
    let whole = along_whole c.args.scopes.now c.args.fixpoints.now c.args.priorities.now c.args.fixpoint (c.args.fixpoint + 1 + c.args.size) (c.args.fixpoint + 1) (length c.args.fixpoints.now - (c.args.fixpoint + 1)) c.args.size (reverse c.args.variables.now) c.requires.variables (omega arith) (omega (arith, c.requires.fits)) in
    omega (arith, rw none at l.invariant, whole)
