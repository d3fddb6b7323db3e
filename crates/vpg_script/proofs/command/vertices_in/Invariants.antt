use Rattle.std.proofs.Common.{◌≡◌, map, take, Some}
use Rattle.vpg_script.specs.Script.{vertex_in}
use Rattle.vpg_script.specs.View.{argument_shown, vertex_shown}
use Rattle.vpg_script.proofs.command.vertices_in.Given as goal

abbrev pub invariant-loop-argument : goal.invariant-loop-argument
invariant-loop-argument l = map vertex_in (map argument_shown (take l.argument-index l.arguments)) ≡ map Some (map vertex_shown l.vertices.items)
