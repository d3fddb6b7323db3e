use Rattle.vpg_rules.proofs.Meaning.{clauses_mean}
use Rattle.vpg_rules.proofs.laws.clauses_mean_the_rule.Goals as goal

pub returns : goal.returns
returns c rule chosen = clauses_mean rule chosen
