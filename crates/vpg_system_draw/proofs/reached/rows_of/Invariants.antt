use Rattle.std.proofs.Common.{◌≡◌, take}
use Rattle.vpg_system_draw.specs.Searched.{rows_of}
use Rattle.vpg_system_draw.proofs.reached.rows_of.Given as goal

-- the rows of the transitions so far
abbrev pub invariant-loop-at : goal.invariant-loop-at
invariant-loop-at l = l.rows.items ≡ rows_of l.known l.system.states (take l.at l.system.transitions)
