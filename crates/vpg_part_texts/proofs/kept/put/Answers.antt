use Rattle.std.proofs.Common.{◌∙◌, arith}
use Rattle.vpg_part_texts.proofs.Keeping.{within}
use Rattle.vpg_part_texts.proofs.kept.put.Goals as goal

pub returns-clause-put : goal.returns-clause-put
returns-clause-put c = c.in_ok-extend_from_slice.ensures.items ∙ within 61 c.min-count.result c.args.out.now.items c.args.bytes.now c.requires (omega (arith, c.min-count.ensures, c.len-room.ensures))
