use Rattle.vpg_answers.proofs.answering.of_vertex.Goals as goal

pub trace-requires-clause-system : goal.trace-requires-clause-system
trace-requires-clause-system c = rw c.in-Trace.is at c.requires.system

pub returns-in-Offer : goal.returns-in-Offer
returns-in-Offer c = rw c.in-Offer.is (c.offers.ensures c.args.labels.now.names)

pub returns-in-Is : goal.returns-in-Is
returns-in-Is c = rw c.in-Is.is (c.exact.ensures c.args.labels.now.names)

pub returns-in-Example : goal.returns-in-Example
returns-in-Example c = rw c.in-Example.is c.example.ensures

pub returns-in-Needs : goal.returns-in-Needs
returns-in-Needs c = rw c.in-Needs.is c.forced.ensures

pub returns-in-Decide : goal.returns-in-Decide
returns-in-Decide c = rw c.in-Decide.is c.decided.ensures
