use Rattle.vpg_formula.specs.ReadCode.{texts}
use Rattle.vpg_formula.proofs.StopCode.{none_done}
use Rattle.vpg_formula.proofs.requirement.stop.Goals as goal

pub returns-in-Done-clause-at : goal.returns-in-Done-clause-at
returns-in-Done-clause-at c in_entry = absurd (none_done (texts c.args.words.now) c.in-Done.left c.in-Ok.way c.requires.none c.in-Ok.ensures c.in-Done.is)
