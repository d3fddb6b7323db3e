use Rattle.std.proofs.Common.{refl}
use Rattle.vpg_why.proofs.Distinct.{yes_no, yes_unsettled, no_unsettled, unsettled_no}
use Rattle.vpg_why.proofs.answering.lost_shown.Goals as goal
use Rattle.vpg_why.proofs.answering.lost_shown.Goals.{in-Product, in-Nothing, in-Unsettled}

pub returns-clause-no : goal.returns-clause-no
returns-clause-no c = elim c.match-found.branch [
  | in-Product w ↦
      let found = rw w.in-Product.is at c.in_ok-found.ensures.found in
      rw w.result-is (λ e none. none _ found.0 found.1)
  | in-Nothing w ↦ rw w.result-is (λ e. absurd (yes_no e))
  | in-Unsettled w ↦ rw w.result-is (λ e. absurd (unsettled_no e))
]

pub returns-clause-settled : goal.returns-clause-settled
returns-clause-settled c = elim c.match-found.branch [
  | in-Product w ↦ rw w.result-is (λ small s e. no_unsettled e)
  | in-Nothing w ↦ rw w.result-is (λ small s e. yes_unsettled e)
  | in-Unsettled w ↦ rw w.result-is (λ small s e. (rw w.in-Unsettled.is at c.in_ok-found.ensures.settled) small s refl)
]
