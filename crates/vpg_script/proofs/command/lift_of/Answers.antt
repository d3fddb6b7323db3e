use Rattle.vpg_script.specs.View.{argument_shown}
use Rattle.vpg_script.proofs.Commands.{no_lift}
use Rattle.vpg_script.proofs.command.lift_of.Goals as goal

pub returns-in-len2-up : goal.returns-in-len2-up
returns-in-len2-up c = no_lift (argument_shown c.args.first) c.args.more.now c.in-len2-up.len_at_least
