use Rattle.vpg_answers.proofs.Topics.{name_within}
use Rattle.vpg_answers.proofs.topic.feature_at.Goals as goal

pub returns-clause-within : goal.returns-clause-within
returns-clause-within c = name_within c.args.names.now c.args.name.now c.get.result c.get.ensures.found
