use Rattle.vpg_answers.proofs.answering.of_feature.Goals as goal

pub returns-in-Why : goal.returns-in-Why
returns-in-Why c = λ limits. rw c.in-Why.is c.feature.ensures

pub returns-in-Uses : goal.returns-in-Uses
returns-in-Uses c = λ limits. rw c.in-Uses.is c.put_uses.ensures
