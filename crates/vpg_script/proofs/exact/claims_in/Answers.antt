use Rattle.std.proofs.Common.{List, map, sym, ap, ◌∙◌, arith}
use Rattle.std.proofs.lemmas.Grind.{common_steps}
use Rattle.std.proofs.lemmas.List.{take_all}
use Rattle.vpg_script.specs.declared.arguments.Argument.{Argument}
use Rattle.vpg_script.specs.Script.{claim_in}
use Rattle.vpg_script.specs.View.{argument_shown}
use Rattle.vpg_script.proofs.Commands.{all_named, none_at}
use Rattle.vpg_script.proofs.exact.claims_in.Goals as goal

pub returns-in_default : goal.returns-in_default
returns-in_default c = sym (none_at argument_shown claim_in c.args.arguments.now c.loop-argument.argument-index _ c.loop-argument-test.true (sym c.claim_in.ensures ∙ c.in_default.is))

pub returns : goal.returns
returns c = sym (all_named argument_shown claim_in c.loop-argument.claims.items (map claim_in (map argument_shown c.args.arguments.now))
    (ap (λ (items : List Argument). map claim_in (map argument_shown items)) (sym (take_all c.loop-argument.argument-index c.args.arguments.now (omega (arith, c.loop-argument-test.false)))) ∙ c.loop-argument.invariant))

pub loop-argument-preserved : goal.loop-argument-preserved
loop-argument-preserved c = grind (arith, common_steps)
