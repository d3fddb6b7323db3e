use Rattle.std.proofs.Common.{◌≡◌, ◌++◌}
use Rattle.vpg_trace.specs.Texts.{permitted_text}
use Rattle.vpg_trace.proofs.writing.put_permitted.Given as goal

abbrev pub invariant-loop-action : goal.invariant-loop-action
invariant-loop-action l = l.out.items ≡ l.fn.out.items ++ permitted_text l.actions l.source.sets.items l.set l.action
