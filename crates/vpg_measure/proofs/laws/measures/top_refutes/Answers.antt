use Rattle.vpg_hope.proofs.Edges.{edges_inside}
use Rattle.vpg_measure.proofs.Signature.{top_refutes}
use Rattle.vpg_measure.proofs.laws.measures.top_refutes.Goals as goal

pub returns : goal.returns
returns c = λ shape game table closed is_shape below v inside e strategy wins. top_refutes game strategy v wins (edges_inside game closed) inside shape is_shape table below e
