use Rattle.std.proofs.Common.{inl, inr, refl, subst, sym}
use Rattle.vpg_measure.specs.Orders.{HarvestView, IsSettledHarvest}
use Rattle.vpg_settle.specs.Sweeping.{IsSweptTo, Settles, EndsBy}
use Rattle.vpg_settle.proofs.Often.{guess_then}
use Rattle.vpg_settle.proofs.Repeated.{settled_sweeps, raised_to, swept_all}
use Rattle.vpg_settle.proofs.sweeping.by_guesses.Goals as goal

pub returns-then-check-clause-swept : goal.returns-then-check-clause-swept
returns-then-check-clause-swept g c =
    subst (IsSweptTo c.args.order c.args.sweeps c.args.goal) (sym c.noted-harvest.ensures)
    (swept_all c.args.order c.guess-harvest.result c.args.sweeps c.args.goal
    (settled_sweeps c.args.order c.guess-harvest.result c.args.sweeps c.guess-harvest.ensures.harvest c.guess-harvest.ensures.order (c.check.ensures.0 c.if-check.true)))

pub returns-then-check-clause-made : goal.returns-then-check-clause-made
returns-then-check-clause-made g c =
    let made : Settles c.args.lifters 0 c.args.order c.guess-harvest.result = inr (c.guess-harvest.result, (c.guess-harvest.ensures.guessed, inl (refl, c.check.ensures.0 c.if-check.true, refl))) in
    subst (λ (h : HarvestView). Settles c.args.lifters 0 c.args.order h) (sym c.noted-harvest.ensures) made

pub returns-then-check-clause-ended : goal.returns-then-check-clause-ended
returns-then-check-clause-ended g c = inl (subst IsSettledHarvest (sym c.noted-harvest.ensures) (c.check.ensures.0 c.if-check.true))

pub returns-clause-swept : goal.returns-clause-swept
returns-clause-swept g c =
    raised_to c.args.order c.again.result c.guess-harvest.result c.by_hints.result.harvest c.args.sweeps c.args.goal c.again.ensures c.by_hints.ensures.swept
    c.guess-harvest.ensures.harvest c.guess-harvest.ensures.order

pub returns-clause-made : goal.returns-clause-made
returns-clause-made g c =
    guess_then c.args.lifters c.by_hints.result.sweeps c.args.order c.again.result c.guess-harvest.result c.by_hints.result.harvest c.guess-harvest.ensures.guessed c.again.ensures c.by_hints.ensures.made
