use Rattle.std.proofs.Common.{◌≡◌, map, take, Some}
use Rattle.vpg_script.specs.Script.{claim_in}
use Rattle.vpg_script.specs.View.{argument_shown}
use Rattle.vpg_script.proofs.exact.claims_in.Given as goal

abbrev pub invariant-loop-argument : goal.invariant-loop-argument
invariant-loop-argument l = map claim_in (map argument_shown (take l.argument-index l.arguments)) ≡ map Some l.claims.items
