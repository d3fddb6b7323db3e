use Rattle.std.proofs.Common.{subst}
use Rattle.vpg_rules.specs.Reading.{named_rule_at}
use Rattle.vpg_diagram.specs.ReadCode.{IsReadRule}
use Rattle.vpg_diagram.proofs.RuleRead.{root_found, root_none}
use Rattle.vpg_diagram.proofs.reading.root_rule.Goals as goal

pub returns-in-Ok-Some : goal.returns-in-Ok-Some
returns-in-Ok-Some c rest =
    let h = subst (IsReadRule c.in-Ok.names c.args.text.now) c.in-Ok-Some.field-0-is c.in-Ok-Some.ensures in
    root_found c.args.number rest (named_rule_at c.args.text.now) h.0 h.1

pub returns-in-Ok-None : goal.returns-in-Ok-None
returns-in-Ok-None c rest =
    root_none c.args.number rest (named_rule_at c.args.text.now) (subst (IsReadRule c.in-Ok.names c.args.text.now) c.in-Ok-None.field-0-is c.in-Ok-None.ensures)
