use Rattle.std.proofs.Common.{sym}
use Rattle.vpg_formula.proofs.Lengths.{action_some}
use Rattle.vpg_formula.proofs.words.name_len.Goals as goal

pub returns-clause-some : goal.returns-clause-some
returns-clause-some c = action_some c.args.text.now c.action_len.result c.requires (sym c.action_len.ensures.len)
