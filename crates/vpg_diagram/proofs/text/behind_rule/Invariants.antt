use Rattle.std.proofs.Common.{◌≡◌, length}
use Rattle.vpg_diagram.specs.DiagramReading.{behind_rule}
use Rattle.vpg_diagram.proofs.text.behind_rule.Given as goal

abbrev pub invariant-loop-rest : goal.invariant-loop-rest
invariant-loop-rest l = behind_rule l.rest ≡ behind_rule l.line

abbrev pub decreases-loop-rest : goal.decreases-loop-rest
decreases-loop-rest l = length l.rest
