use Rattle.std.proofs.Common.{ℕ, subst, sym}
use Rattle.std.specs.Prelude.{Option}
use Rattle.vpg_settle.specs.Sweeping.{EndsBy}
use Rattle.vpg_settle.proofs.Often.{alone_are}
use Rattle.vpg_settle.proofs.Repeated.{swept_all}
use Rattle.vpg_settle.proofs.Settled.{ends_anyhow}
use Rattle.vpg_settle.proofs.sweeping.by_hints.Goals as goal

pub returns-clause-swept : goal.returns-clause-swept
returns-clause-swept g c = swept_all c.args.order c.by_sweeps.result.harvest c.args.sweeps c.args.goal c.by_sweeps.ensures.swept

pub returns-clause-ended : goal.returns-clause-ended
returns-clause-ended g c = ends_anyhow c.args.goal c.args.sweeps c.by_sweeps.result.sweeps c.by_sweeps.result.harvest c.by_sweeps.ensures.ended

pub returns-in-Some-clause-ended : goal.returns-in-Some-clause-ended
returns-in-Some-clause-ended g c =
    subst (λ (o : Option ℕ). EndsBy o c.args.sweeps c.by_sweeps_to.result.sweeps c.by_sweeps_to.result.harvest) (sym c.in-Some.is) c.by_sweeps_to.ensures.ended

pub returns-clause-made : goal.returns-clause-made
returns-clause-made g c = alone_are c.args.lifters c.by_sweeps.result.sweeps c.args.order c.by_sweeps.result.harvest c.by_sweeps.ensures.made
