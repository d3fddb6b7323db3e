use Rattle.std.proofs.Common.{◌≡◌, ◌≤◌, ◌++◌, drop}
use Rattle.vpg_draw.specs.Labels.{wrapped}
use Rattle.vpg_draw.proofs.labels.wrapped.Given as goal

-- what is written and what is still to write is the whole
abbrev pub invariant-loop-b : goal.invariant-loop-b
invariant-loop-b l = record {
  written : l.out.items ++ wrapped l.column (drop l.b-index l.name) ≡ l.fn.out.items ++ wrapped 0 l.name;
  within : l.column ≤ l.b-index;
}
