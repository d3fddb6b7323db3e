use Rattle.std.proofs.Common.{◌≡◌, ◌-◌, ◌+◌, ◌∙◌, suc, sym, arith}
use Rattle.vpg_normal.proofs.Passes.{walked_step}
use Rattle.vpg_normal.proofs.scope.outer.Goals as goal

pub loop-preserved : goal.loop-preserved
loop-preserved c =
    let l = c.loop in
    let more : c.args.between - l.counter ≡ suc (c.args.between - (l.counter + 1)) = omega (arith, c.loop-test.true) in
    rw c.link_at-at.ensures (sym (walked_step c.args.scopes.now (c.args.between - l.counter) (c.args.between - (l.counter + 1)) c.in_ok-place.place l.at more c.in_ok-place.was) ∙ l.invariant)
