use Rattle.vpg_looks.proofs.retracting.effect_of.Goals as goal
use Rattle.vpg_looks.proofs.retracting.effect_of.Goals.{in-Product, in-Nothing, in-Unsettled}

pub cautious_effect-requires-clause-lost : goal.cautious_effect-requires-clause-lost
cautious_effect-requires-clause-lost c = rw c.in-Nothing.is at c.in_ok-found.ensures.found

pub returns : goal.returns
returns c = elim c.match-found.branch [
  | in-Product w ↦
      let found = rw w.in-Product.is at c.in_ok-found.ensures.found in
      rw w.result-is (_, found.0, found.1)
  | in-Nothing w ↦ rw w.result-is w.cautious_effect.ensures
  | in-Unsettled w ↦ rw w.result-is (λ s. c.in_ok-found.ensures.settled (s.0, s.1) w.in-Unsettled.is)
]
