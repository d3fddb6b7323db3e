use Rattle.vpg_script.specs.View.{vertex_shown}
use Rattle.vpg_script.proofs.Commands.{several_as}
use Rattle.vpg_script.proofs.exact.asserted.Goals as goal

pub returns-in-len2-up : goal.returns-in-len2-up
returns-in-len2-up c =
    several_as c.args.state (vertex_shown c.args.vertex) c.args.arguments.now c.verdicts_command.result c.in-len2-up.len_at_least c.verdicts_command.ensures
