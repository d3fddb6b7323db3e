use Rattle.std.proofs.Common.{◌≡◌, take}
use Rattle.vpg_system_draw.specs.Searched.{all_rows_of}
use Rattle.vpg_system_draw.proofs.reached.all_rows_of.Given as goal

-- the rows of the transitions so far
abbrev pub invariant-loop-at : goal.invariant-loop-at
invariant-loop-at l = l.rows.items ≡ all_rows_of l.system.states (take l.at l.system.transitions)
