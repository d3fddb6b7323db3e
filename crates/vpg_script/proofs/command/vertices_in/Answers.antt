use Rattle.std.proofs.Common.{List, map, sym, ap, ◌∙◌, arith}
use Rattle.std.proofs.lemmas.Grind.{common_steps}
use Rattle.std.proofs.lemmas.List.{take_all}
use Rattle.vpg_script.specs.declared.arguments.Argument.{Argument}
use Rattle.vpg_script.specs.Script.{vertex_in}
use Rattle.vpg_script.specs.View.{argument_shown, vertex_shown}
use Rattle.vpg_script.proofs.Commands.{all_named, none_at, shown_none}
use Rattle.vpg_script.proofs.command.vertices_in.Goals as goal

pub returns-in_default : goal.returns-in_default
returns-in_default c = sym (none_at argument_shown vertex_in c.args.arguments.now c.loop-argument.argument-index _ c.loop-argument-test.true (shown_none vertex_shown _ _ c.in_default.is c.vertex_in.ensures))

pub returns : goal.returns
returns c = sym (all_named argument_shown vertex_in (map vertex_shown c.loop-argument.vertices.items) (map vertex_in (map argument_shown c.args.arguments.now))
    (ap (λ (items : List Argument). map vertex_in (map argument_shown items)) (sym (take_all c.loop-argument.argument-index c.args.arguments.now (omega (arith, c.loop-argument-test.false)))) ∙ c.loop-argument.invariant))

pub loop-argument-preserved : goal.loop-argument-preserved
loop-argument-preserved c = grind (arith, common_steps)
