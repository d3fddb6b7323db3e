use Rattle.std.proofs.Common.{refl}
use Rattle.vpg_texts.proofs.Pieces.{unwritten}
use Rattle.vpg_texts.proofs.showing.vertices.vertices_over.Goals as goal

pub returns-clause-unchanged : goal.returns-clause-unchanged
returns-clause-unchanged c = unwritten c.extend_from_slice.result _ _ _ _ c.extend_from_slice.ensures.items refl
