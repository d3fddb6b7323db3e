use Rattle.vpg_hope.proofs.Reach.{reaches_trans}
use Rattle.vpg_measure.proofs.Cycles.{simple_cycle, cycle_walk}
use Rattle.vpg_measure.proofs.laws.measures.simple_cycles_decide.Goals as goal

pub returns : goal.returns
returns c = λ game player strategy v. (λ h u m vs r q. h u m r (cycle_walk game player strategy m u vs q), λ h u m r q. let s = simple_cycle game player strategy m q in h s.at_vertex m s.vertices (reaches_trans game player strategy r s.reached) s.cycle)
