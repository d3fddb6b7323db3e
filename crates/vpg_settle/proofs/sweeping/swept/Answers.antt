use Rattle.std.proofs.Common.{◌≡◌, ◌+◌, ◌-◌, ◌≤◌, ℕ, ◌⊎◌, inl, inr, subst, sym, arith}
use Rattle.std.specs.Prelude.{Option, IfSome, sum}
use Rattle.vpg_measure.specs.Orders.{OrderView, HarvestView, IsSettledHarvest}
use Rattle.vpg_settle.specs.Sweeping.{IsSweptOrder, IsSweptTo, Leave, HasEnded, swept_of}
use Rattle.vpg_settle.proofs.Often.{guessed_then, alone_are}
use Rattle.vpg_settle.proofs.Repeated.{settled_early, swept_to, swept_first}
use Rattle.vpg_settle.proofs.Settled.{settles_all, ended_by, ended_later}
use Rattle.vpg_settle.proofs.sweeping.swept.Goals as goal

-- behind one sweep that was left
swept_later : (lifters : ℕ) (order last : OrderView) (harvest : HarvestView) (sweeps left : ℕ) (goal : Option ℕ) → left + 1 ≡ sweeps → IfSome goal (λ g. sum order.hopeful + sum order.dual + sweeps ≤ g) → Leave lifters 1 order last →
    IsSweptTo last left goal harvest → IsSweptOrder order sweeps harvest
swept_later lifters order last harvest sweeps left goal all far (first, again, (by, unsettled, is_again, same)) further =
    swept_first order again first harvest sweeps left goal all far (swept_of lifters order first by).swept unsettled is_again
    (subst (λ (o : OrderView). IsSweptTo o left goal harvest) (sym same) further)

-- all sweeps were made
ended_here : (sweeps made : ℕ) (harvest : HarvestView) → IsSettledHarvest harvest ⊎ (made ≡ sweeps) → HasEnded sweeps made harvest
ended_here sweeps made harvest (inl settled) = inl settled
ended_here sweeps made harvest (inr all) = inr (inl all)

pub returns-then-check-clause-swept : goal.returns-then-check-clause-swept
returns-then-check-clause-swept g c = c.as_it_stands.ensures.swept c.args.sweeps

pub returns-then-check-clause-ended : goal.returns-then-check-clause-ended
returns-then-check-clause-ended g c = inl c.as_it_stands.ensures.settled

pub returns-then-check-clause-rounds : goal.returns-then-check-clause-rounds
returns-then-check-clause-rounds g c = λ k few bound settle. c.as_it_stands.ensures.settled

pub returns-then-sweeps-le-FEW_SWEEPS-clause-swept : goal.returns-then-sweeps-le-FEW_SWEEPS-clause-swept
returns-then-sweeps-le-FEW_SWEEPS-clause-swept g c = c.by_sweeps.ensures.swept

pub returns-then-sweeps-le-FEW_SWEEPS-clause-ended : goal.returns-then-sweeps-le-FEW_SWEEPS-clause-ended
returns-then-sweeps-le-FEW_SWEEPS-clause-ended g c = ended_here c.args.sweeps c.by_sweeps.result.sweeps c.by_sweeps.result.harvest c.by_sweeps.ensures.ended

pub returns-then-sweeps-le-FEW_SWEEPS-clause-rounds : goal.returns-then-sweeps-le-FEW_SWEEPS-clause-rounds
returns-then-sweeps-le-FEW_SWEEPS-clause-rounds g c = λ k few bound settle.
    settles_all c.args.lifters c.by_sweeps.result.sweeps c.args.sweeps k c.args.order c.by_sweeps.result.harvest c.game-game.ensures.order c.by_sweeps.ensures.swept
    (inl (alone_are c.args.lifters c.by_sweeps.result.sweeps c.args.order c.by_sweeps.result.harvest c.by_sweeps.ensures.made))
    (ended_here c.args.sweeps c.by_sweeps.result.sweeps c.by_sweeps.result.harvest c.by_sweeps.ensures.ended) few bound settle

pub returns-in-Ok-clause-swept : goal.returns-in-Ok-clause-swept
returns-in-Ok-clause-swept g c = settled_early c.args.order c.in-Ok.swept.harvest 1 c.args.sweeps c.in-Ok.ensures.swept c.in-Ok.ensures.settled

pub returns-in-Ok-clause-ended : goal.returns-in-Ok-clause-ended
returns-in-Ok-clause-ended g c = inl c.in-Ok.ensures.settled

pub returns-in-Ok-clause-rounds : goal.returns-in-Ok-clause-rounds
returns-in-Ok-clause-rounds g c = λ k few bound settle. c.in-Ok.ensures.settled

pub returns-then-has_risen-clause-swept : goal.returns-then-has_risen-clause-swept
returns-then-has_risen-clause-swept g c =
    swept_to c.args.order c.by_guesses.result.harvest c.args.sweeps c.goal_of-goal.result c.goal_of-goal.ensures.goal c.by_guesses.ensures.swept

pub returns-then-has_risen-clause-ended : goal.returns-then-has_risen-clause-ended
returns-then-has_risen-clause-ended g c =
    ended_by c.goal_of-goal.result c.args.sweeps c.by_guesses.result.sweeps c.by_guesses.result.harvest c.goal_of-goal.ensures.many c.by_guesses.ensures.ended

pub returns-then-has_risen-clause-rounds : goal.returns-then-has_risen-clause-rounds
returns-then-has_risen-clause-rounds g c = λ k few bound settle.
    let harvest = c.by_guesses.result.harvest in
    let goal_is = c.goal_of-goal.result in
    settles_all c.args.lifters c.by_guesses.result.sweeps c.args.sweeps k c.args.order harvest c.game-game.ensures.order
    (swept_to c.args.order harvest c.args.sweeps goal_is c.goal_of-goal.ensures.goal c.by_guesses.ensures.swept) c.by_guesses.ensures.made
    (ended_by goal_is c.args.sweeps c.by_guesses.result.sweeps harvest c.goal_of-goal.ensures.many c.by_guesses.ensures.ended) few bound settle

pub returns-clause-swept : goal.returns-clause-swept
returns-clause-swept g c =
    swept_later c.args.lifters c.args.order c.in-Err.order c.by_guesses-more.result.harvest c.args.sweeps (c.args.sweeps - 1) c.goal_of-goal.result (omega (arith, c.if-sweeps-le-FEW_SWEEPS.false)) c.goal_of-goal.ensures.goal
    c.in-Err.ensures.left c.by_guesses-more.ensures.swept

pub returns-clause-made : goal.returns-clause-made
returns-clause-made g c =
    guessed_then c.args.lifters 1 c.by_guesses-more.result.sweeps c.args.order c.in-Err.order c.by_guesses-more.result.harvest c.in-Err.ensures.left c.by_guesses-more.ensures.made

pub returns-clause-ended : goal.returns-clause-ended
returns-clause-ended g c =
    ended_later c.goal_of-goal.result c.args.sweeps (c.args.sweeps - 1) c.by_guesses-more.result.sweeps c.by_guesses-more.result.harvest (omega (arith, c.if-sweeps-le-FEW_SWEEPS.false)) c.goal_of-goal.ensures.many
    c.by_guesses-more.ensures.ended

pub returns-clause-rounds : goal.returns-clause-rounds
returns-clause-rounds g c = λ k few bound settle.
    let harvest = c.by_guesses-more.result.harvest in
    let goal_is = c.goal_of-goal.result in
    let more = c.by_guesses-more.result.sweeps in
    let all : c.args.sweeps - 1 + 1 ≡ c.args.sweeps = omega (arith, c.if-sweeps-le-FEW_SWEEPS.false) in
    settles_all c.args.lifters (1 + more) c.args.sweeps k c.args.order harvest c.game-game.ensures.order
    (swept_later c.args.lifters c.args.order c.in-Err.order harvest c.args.sweeps (c.args.sweeps - 1) goal_is all c.goal_of-goal.ensures.goal c.in-Err.ensures.left c.by_guesses-more.ensures.swept)
    (guessed_then c.args.lifters 1 more c.args.order c.in-Err.order harvest c.in-Err.ensures.left c.by_guesses-more.ensures.made)
    (ended_later goal_is c.args.sweeps (c.args.sweeps - 1) more harvest all c.goal_of-goal.ensures.many c.by_guesses-more.ensures.ended) few bound settle

pub returns-then-sweeps-le-FEW_SWEEPS-clause-made : goal.returns-then-sweeps-le-FEW_SWEEPS-clause-made
returns-then-sweeps-le-FEW_SWEEPS-clause-made g c = inl (alone_are c.args.lifters c.by_sweeps.result.sweeps c.args.order c.by_sweeps.result.harvest c.by_sweeps.ensures.made)

pub returns-in-Ok-clause-made : goal.returns-in-Ok-clause-made
returns-in-Ok-clause-made g c = inl (alone_are c.args.lifters c.in-Ok.swept.sweeps c.args.order c.in-Ok.swept.harvest c.in-Ok.ensures.made)
