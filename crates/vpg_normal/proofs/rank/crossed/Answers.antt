use Rattle.std.proofs.Common.{◌≡◌, ◌-◌, ◌+◌, suc, arith}
use Rattle.vpg_normal.proofs.Passes.{crossed_step, crossed_low_place, crossed_none}
use Rattle.vpg_normal.proofs.rank.crossed.Goals as goal

pub returns-in_default : goal.returns-in_default
returns-in_default c =
    let l = c.loop in
    omega (arith, l.invariant, crossed_none c.args.scopes.now c.args.priorities.now c.args.low (c.args.most - l.counter) l.at c.in_default.not-Some)

pub returns-then-place-low : goal.returns-then-place-low
returns-then-place-low c =
    let l = c.loop in
    omega (arith, l.invariant, crossed_low_place c.args.scopes.now c.args.priorities.now c.args.low (c.args.most - l.counter) c.in-Some.place l.at c.in-Some.is c.if-place-low.true)

pub loop-preserved : goal.loop-preserved
loop-preserved c =
    let l = c.loop in
    let more : c.args.most - l.counter ≡ suc (c.args.most - (l.counter + 1)) = omega (arith, c.loop-test.true) in
    let step = crossed_step c.args.scopes.now c.args.priorities.now c.args.low (c.args.most - l.counter) (c.args.most - (l.counter + 1)) c.in-Some.place l.at more c.in-Some.is c.if-place-low.false in
    rw (c.link_at-at.ensures, c.max-greatest.ensures, c.number_at.ensures) (omega (arith, l.invariant, step))
