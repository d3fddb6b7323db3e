use Rattle.std.proofs.Common.{◌≡◌, ℕ, ◌-◌, ◌≤◌, length, reverse, get_or}
use Rattle.vpg_normal.specs.Ranks.{named_from, ArePriorities}
use Rattle.vpg_normal.proofs.rank.priorities.Given as goal

abbrev pub invariant-loop-place : goal.invariant-loop-place
invariant-loop-place l = record {
  are : ArePriorities l.symbols l.sizes l.scopes l.fixpoints l.priorities.items l.place;
  low : (k : ℕ) → get_or l.priorities.items k 0 ≤ length l.symbols - l.place;
  variables : reverse l.variables.items ≡ named_from l.fixpoints l.place (length l.symbols - l.place);
}
