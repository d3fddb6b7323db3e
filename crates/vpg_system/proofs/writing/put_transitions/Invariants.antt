use Rattle.std.proofs.Common.{◌≡◌, ◌++◌, drop}
use Rattle.vpg_system.specs.SystemView.{transitions_of}
use Rattle.vpg_system.specs.Writing.{transitions_text}
use Rattle.vpg_system.proofs.writing.put_transitions.Given as goal

-- what is written and what is still to write is the whole
abbrev pub invariant-loop-transition : goal.invariant-loop-transition
invariant-loop-transition l =
    l.out.items ++ transitions_text l.features l.names (transitions_of (drop l.transition-index l.transitions))
    ≡ l.initial.out.items ++ transitions_text l.features l.names (transitions_of l.transitions)
