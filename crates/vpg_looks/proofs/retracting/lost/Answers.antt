use Rattle.vpg_why.proofs.Distinct.{yes_no, yes_unsettled, no_unsettled, no_yes, unsettled_no, unsettled_yes}
use Rattle.vpg_why.specs.Explained.{choices}
use Rattle.vpg_looks.proofs.Trying.{lost_stays}
use Rattle.vpg_looks.proofs.retracting.lost.Goals as goal
use Rattle.vpg_looks.proofs.retracting.lost.Goals.{in-Product, in-Nothing, in-Unsettled}

pub returns-then-are_among-clause-yes : goal.returns-then-are_among-clause-yes
returns-then-are_among-clause-yes c e =
    let order = c.args.order.now in
    lost_stays order.game order.diagram c.args.vertex (choices c.args.reason.now) (choices c.args.decisions.now) c.game-order.ensures.order.diagram c.requires.named
    (c.are_among.ensures.0 c.if-are_among.true) c.requires.reason

pub returns-then-are_among-clause-no : goal.returns-then-are_among-clause-no
returns-then-are_among-clause-no c e = absurd (yes_no e)

pub returns-then-are_among-clause-settled : goal.returns-then-are_among-clause-settled
returns-then-are_among-clause-settled c s e = yes_unsettled e

pub returns-clause-yes : goal.returns-clause-yes
returns-clause-yes c = elim c.match-found.branch [
  | in-Product w ↦ rw w.result-is (λ e. absurd (no_yes e))
  | in-Nothing w ↦ rw w.result-is (λ e. rw w.in-Nothing.is at c.in_ok-found.ensures.found)
  | in-Unsettled w ↦ rw w.result-is (λ e. absurd (unsettled_yes e))
]

pub returns-clause-no : goal.returns-clause-no
returns-clause-no c = elim c.match-found.branch [
  | in-Product w ↦
      let found = rw w.in-Product.is at c.in_ok-found.ensures.found in
      rw w.result-is (λ e none. none _ found.0 found.1)
  | in-Nothing w ↦ rw w.result-is (λ e. absurd (yes_no e))
  | in-Unsettled w ↦ rw w.result-is (λ e. absurd (unsettled_no e))
]

pub returns-clause-settled : goal.returns-clause-settled
returns-clause-settled c = elim c.match-found.branch [
  | in-Product w ↦ rw w.result-is (λ s e. no_unsettled e)
  | in-Nothing w ↦ rw w.result-is (λ s e. yes_unsettled e)
  | in-Unsettled w ↦ rw w.result-is (λ s e. c.in_ok-found.ensures.settled (s.0, s.1) w.in-Unsettled.is)
]
