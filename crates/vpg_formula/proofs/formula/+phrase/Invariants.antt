use Rattle.std.proofs.Common.{ℕ, ◌+◌, ◌*◌, ◌≤◌, length}
use Rattle.vpg_formula.specs.declared.joint.Joint.{Joint}
use Rattle.vpg_formula.specs.declared.joint.Joint.TheVariants.{Or, And}
use Rattle.vpg_formula.specs.FormulaGrammar.{an_operand}
use Rattle.vpg_formula.specs.Marks.{phrase_marks, is_endless}
use Rattle.vpg_formula.specs.PhraseCode.{sign_between, join_between, item_between}
use Rattle.vpg_formula.specs.Reading.{phrase_at}
use Rattle.vpg_formula.specs.ReadCode.{texts}
use Rattle.vpg_formula.proofs.Coming.{Comes}
use Rattle.vpg_formula.proofs.formula.+phrase.Given as goal

abbrev rank : Joint → ℕ
rank And = 1
rank Or = 3

abbrev pub decreases-part : goal.decreases-part
decreases-part l = 20 * l.depth

abbrev pub decreases-side : goal.decreases-side
decreases-side l = 20 * l.depth + rank l.joint

abbrev pub decreases-joined : goal.decreases-joined
decreases-joined l = 20 * l.depth + (rank l.joint + 1)

abbrev pub decreases-formula : goal.decreases-formula
decreases-formula l = 20 * l.depth + 5

abbrev pub decreases-behind : goal.decreases-behind
decreases-behind l = 20 * l.depth + 6

abbrev pub decreases-enclosed : goal.decreases-enclosed
decreases-enclosed l = 20 * l.depth + 7

abbrev pub decreases-modal : goal.decreases-modal
decreases-modal l = 20 * l.depth + 7

abbrev pub decreases-again : goal.decreases-again
decreases-again l = 20 * l.depth + 7

abbrev pub decreases-after : goal.decreases-after
decreases-after l = 20 * l.depth + 7

abbrev pub decreases-binding : goal.decreases-binding
decreases-binding l = 20 * l.depth + 7

abbrev pub decreases-inner : goal.decreases-inner
decreases-inner l = 20 * l.depth + 8

abbrev pub invariant-joined-loop-next : goal.invariant-joined-loop-next
invariant-joined-loop-next l = record {
  within : length l.rest ≤ length l.fn.words;
  comes : Comes phrase_marks is_endless (item_between l.joint (phrase_at an_operand l.depth)) (sign_between l.joint) (join_between l.joint) l.fn.out.items l.out.items (texts l.fn.words) (texts l.rest) l.is_endless;
}

abbrev pub decreases-joined-loop-next : goal.decreases-joined-loop-next
decreases-joined-loop-next l = length l.rest
