use Rattle.std.proofs.Common.{ℕ, ◌+◌, ◌*◌, ◌≤◌, length}
use Rattle.vpg_formula.specs.declared.level.Level.{Level}
use Rattle.vpg_formula.specs.declared.level.Level.TheVariants.{Choice, Sequence, AnyOf, AllOf}
use Rattle.vpg_formula.specs.Regular.{is_action}
use Rattle.vpg_formula.specs.Marks.{regular_marks}
use Rattle.vpg_formula.specs.Levels.{sign_of, join_of, item_of}
use Rattle.vpg_formula.specs.Reading.{operand_at}
use Rattle.vpg_formula.specs.ReadCode.{texts}
use Rattle.vpg_formula.proofs.Coming.{Comes}
use Rattle.vpg_formula.proofs.Starring.{Starring}
use Rattle.vpg_formula.proofs.regular.+read.Given as goal

abbrev rank : Level → ℕ
rank AllOf = 1
rank AnyOf = 3
rank Sequence = 6
rank Choice = 8

abbrev pub decreases-operand : goal.decreases-operand
decreases-operand l = 10 * l.depth

abbrev pub decreases-item : goal.decreases-item
decreases-item l = 10 * l.depth + rank l.level

abbrev pub decreases-series : goal.decreases-series
decreases-series l = 10 * l.depth + (rank l.level + 1)

abbrev pub decreases-starred : goal.decreases-starred
decreases-starred l = 10 * l.depth + 5

abbrev pub invariant-series-loop-behind : goal.invariant-series-loop-behind
invariant-series-loop-behind l = record {
  within : length l.rest ≤ length l.fn.words;
  comes : Comes regular_marks is_action (item_of l.level (operand_at l.depth)) (sign_of l.level) (join_of l.level) l.fn.out.items l.out.items (texts l.fn.words) (texts l.rest) l.is_action;
}

abbrev pub decreases-series-loop-behind : goal.decreases-series-loop-behind
decreases-series-loop-behind l = length l.rest

abbrev pub invariant-starred-loop-is_plus : goal.invariant-starred-loop-is_plus
invariant-starred-loop-is_plus l = record {
  within : length l.rest ≤ length l.fn.words;
  starring : Starring (operand_at l.depth) l.fn.out.items l.out.items (texts l.fn.words) (texts l.rest) l.is_action;
}

abbrev pub decreases-starred-loop-is_plus : goal.decreases-starred-loop-is_plus
decreases-starred-loop-is_plus l = length l.rest
