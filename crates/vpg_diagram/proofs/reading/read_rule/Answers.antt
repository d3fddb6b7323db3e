use Rattle.vpg_diagram.proofs.RuleRead.{read_some, none_at_syntax, none_at_deep}
use Rattle.vpg_diagram.proofs.reading.read_rule.Goals as goal

pub returns-in-Err-Syntax : goal.returns-in-Err-Syntax
returns-in-Err-Syntax c = none_at_syntax c.args.text.now c.in-Err-Syntax.field-0 c.in-Err-Syntax.field-0-0 c.in-Err-Syntax.field-0-is c.in-Err-Syntax.ensures.only

pub returns-in-Err-TooDeep : goal.returns-in-Err-TooDeep
returns-in-Err-TooDeep c = none_at_deep c.args.text.now c.in-Err-TooDeep.field-0 c.in-Err-TooDeep.field-0-0 c.in-Err-TooDeep.field-0-is c.in-Err-TooDeep.ensures.only

pub returns-in-Ok : goal.returns-in-Ok
returns-in-Ok c = read_some c.args.names.now c.args.text.now c.in-Ok.rule c.in-Ok.ensures.found
