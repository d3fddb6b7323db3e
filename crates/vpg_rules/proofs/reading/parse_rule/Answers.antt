use Rattle.vpg_rules.specs.Grammar.{index_or_end}
use Rattle.vpg_rules.proofs.Parsed.{is_found, only_that}
use Rattle.vpg_rules.proofs.reading.parse_rule.Goals as goal

pub returns-clause-found : goal.returns-clause-found
returns-clause-found c = is_found (index_or_end c.args.names.now) c.args.text.now c.whole_rule.result c.whole_rule.ensures

pub returns-clause-only : goal.returns-clause-only
returns-clause-only c = only_that (index_or_end c.args.names.now) c.args.text.now c.whole_rule.result c.whole_rule.ensures
