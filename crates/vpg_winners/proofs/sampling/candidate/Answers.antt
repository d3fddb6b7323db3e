use Rattle.std.proofs.Common.{arith}
use Rattle.vpg_winners.proofs.Samples.{longer}
use Rattle.vpg_winners.proofs.sampling.candidate.Goals as goal
use Rattle.vpg_winners.proofs.sampling.candidate.Goals.{then-chosen, else-chosen}

pub loop-feature-preserved : goal.loop-feature-preserved
loop-feature-preserved c =
    let l = c.loop-feature in
    let halved = c.halves-halves.ensures in
    let long = longer l.product.items c.push.new.self.items _ l.feature c.in_ok-push.ensures.items l.invariant.long in
    elim c.if-chosen.branch [
      | then-chosen w ↦ record {
        inside = rw w.left-is halved.high_inside;
        later = rw w.left-is (omega (arith, halved.high_later));
        long = long;
      }
      | else-chosen w ↦ record {
        inside = rw w.left-is halved.low_inside;
        later = rw w.left-is (omega (arith, halved.low_later));
        long = long;
      }
    ]
