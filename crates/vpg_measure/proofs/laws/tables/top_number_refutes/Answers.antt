use Rattle.vpg_measure.proofs.NumberVerdicts.{top_number_refutes}
use Rattle.vpg_measure.proofs.laws.tables.top_number_refutes.Goals as goal

pub returns : goal.returns
returns c = top_number_refutes
