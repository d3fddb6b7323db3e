use Rattle.vpg_written.proofs.Cutting.{parts_are}
use Rattle.vpg_written.proofs.Tasks.{choice_opens, repeated_opens, action_opens, nothing_opens}
use Rattle.vpg_written.proofs.opening.along_one.Goals as goal

pub returns-in-None : goal.returns-in-None
returns-in-None c = λ g t f h e task. nothing_opens g c.args.is_every t c.args.term.now c.args.task f h c.in-None.ensures.none task

pub returns-in_ok-choice-in-Choice : goal.returns-in_ok-choice-in-Choice
returns-in_ok-choice-in-Choice c = λ g t f h e task. choice_opens g c.args.is_every t c.in-Some.it c.in_ok-choice-in-Choice.field-0 f (parts_are g.names g.actions t c.args.term.now c.in-Some.it c.in-Some.ensures.some h) c.in-Choice.is (λ s u a b. c.in_ok-choice-in-Choice.ensures g s u f a b task)

pub returns-in-Repeated : goal.returns-in-Repeated
returns-in-Repeated c = λ g t f h e task. repeated_opens g c.args.is_every t c.in-Some.it c.args.task f (parts_are g.names g.actions t c.args.term.now c.in-Some.it c.in-Some.ensures.some h) c.in-Repeated.is task

pub returns-in_default : goal.returns-in_default
returns-in_default c = λ g t f h e task. action_opens g c.args.is_every t c.in-Some.it c.args.task f (parts_are g.names g.actions t c.args.term.now c.in-Some.it c.in-Some.ensures.some h) e c.in_default.not-Choice c.in_default.not-Repeated task
