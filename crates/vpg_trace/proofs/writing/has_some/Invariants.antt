use Rattle.std.proofs.Common.{◌≡◌}
use Rattle.vpg_trace.specs.Texts.{some_permitted}
use Rattle.vpg_trace.proofs.writing.has_some.Given as goal

abbrev pub invariant-loop-action : goal.invariant-loop-action
invariant-loop-action l = l.has ≡ some_permitted l.source.sets.items l.set l.action
