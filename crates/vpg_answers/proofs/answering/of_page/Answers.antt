use Rattle.vpg_answers.proofs.answering.of_page.Goals as goal

pub returns-in-Number : goal.returns-in-Number
returns-in-Number c = rw c.in-Number.is (c.left.ensures c.args.labels.now.names)

pub returns-in-Forced : goal.returns-in-Forced
returns-in-Forced c = rw c.in-Forced.is c.forced.ensures

pub returns-in-Empty : goal.returns-in-Empty
returns-in-Empty c = rw c.in-Empty.is c.loss.ensures
