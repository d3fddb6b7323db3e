use Rattle.std.proofs.Common.{sym, ◌∙◌}
use Rattle.vpg_xml.proofs.Turns.{comment_ends}
use Rattle.vpg_xml.proofs.tags.comment_end.Goals as goal

pub returns-clause-rest : goal.returns-clause-rest
returns-clause-rest c = comment_ends c.loop-rest.rest.now c.in_default.len_below ∙ sym c.loop-rest.invariant.reads
