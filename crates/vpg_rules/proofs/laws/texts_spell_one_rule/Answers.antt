use Rattle.std.proofs.Common.{sym, ◌∙◌}
use Rattle.vpg_rules.proofs.Levels.{rule_again}
use Rattle.vpg_rules.proofs.Marks.{some_is}
use Rattle.vpg_rules.proofs.laws.texts_spell_one_rule.Goals as goal

pub returns : goal.returns
returns c text d e s t = some_is d e (sym (rule_again text d s) ∙ rule_again text e t)
