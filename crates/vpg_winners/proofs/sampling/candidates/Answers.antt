use Rattle.std.proofs.Common.{◌≡◌, length}
use Rattle.std.specs.Global.{Vec}
use Rattle.std.specs.Prelude.{Bool}
use Rattle.vpg_winners.proofs.Samples.{one_more}
use Rattle.vpg_winners.proofs.sampling.candidates.Goals as goal

pub loop-number-preserved : goal.loop-number-preserved
loop-number-preserved c =
    one_more (λ (p : Vec Bool). length p.items ≡ c.args.sets.now.features) c.loop-number.list.items
    c.push.new.self.items c.in_ok-product.product c.in_ok-push.ensures.items c.loop-number.invariant
    c.in_ok-product.ensures
