use Rattle.vpg_written.proofs.Tasks.{plain_task}
use Rattle.vpg_written.proofs.opening.plain.Goals as goal

pub returns : goal.returns
returns c = λ g f h. plain_task g _ f c.new.ensures.items h
