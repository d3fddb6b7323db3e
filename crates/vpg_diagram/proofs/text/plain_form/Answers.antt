use Rattle.std.proofs.lemmas.Grind.{common_steps}
use Rattle.std.proofs.Common.{arith}
use Rattle.vpg_diagram.proofs.FormCode.{plain_short, plain_long}
use Rattle.vpg_diagram.proofs.text.plain_form.Goals as goal

pub returns-in-empty : goal.returns-in-empty
returns-in-empty c = plain_short c.args.words.now c.in-empty.len_below

pub returns-in-len4-up : goal.returns-in-len4-up
returns-in-len4-up c = plain_long c.args.words.now c.in-len4-up.len_at_least

pub returns-in-len3 : goal.returns-in-len3
returns-in-len3 c = grind (arith, common_steps)

pub returns-in-len2 : goal.returns-in-len2
returns-in-len2 c = grind (arith, common_steps)
