-- The reader of formulas, in the pieces of the code.
use Rattle.std.specs.Prelude.{ℕ, List, [], ◌∷◌, ◌++◌, codes, Option}
use Rattle.vpg_formula.specs.Written.{Head, Phrase, conjunction_of, disjunction_of}
use Rattle.vpg_formula.specs.FormulaGrammar.{an_operand, a_formula}
use Rattle.vpg_formula.specs.Marks.{written_marks}
use Rattle.vpg_formula.specs.Reading.{Read, nothing_read, no_phrase, operand_at, choice_with, action_at, part_behind, series_at, conjunction_with, phrase_at}
use Rattle.vpg_formula.specs.declared.mark.Mark.{Mark}
use Rattle.vpg_formula.specs.declared.mark.Mark.TheVariants as marks
use Rattle.vpg_formula.specs.declared.joint.Joint.{Joint}
use Rattle.vpg_formula.specs.declared.joint.Joint.TheVariants as joints

-- the reading after the first word, if no part may be open, and if this many may
abbrev pub leaf_behind : Head → Read Phrase
leaf_behind head ws = part_behind nothing_read nothing_read no_phrase no_phrase head ws

abbrev pub inner_behind : ℕ → Head → Read Phrase
inner_behind d head ws =
    part_behind (choice_with (operand_at d)) (action_at d) (phrase_at an_operand d) (phrase_at a_formula d) head ws

-- the marks of an operand and the mark of what stands in front of it
abbrev pub behind_marks : Mark → Phrase → List Mark
behind_marks mark p = written_marks p.written ++ mark ∷ []

abbrev pub sign_between : Joint → List ℕ
sign_between joints.Or = codes "||"
sign_between joints.And = codes "&&"

abbrev pub mark_between : Joint → Mark
mark_between joints.Or = marks.Or
mark_between joints.And = marks.And

abbrev pub join_between : Joint → Phrase → Phrase → Option Phrase
join_between joints.Or = disjunction_of
join_between joints.And = conjunction_of

abbrev pub item_between : Joint → Read Phrase → Read Phrase
item_between joints.Or item = conjunction_with item
item_between joints.And item = item

abbrev pub joined_by : Joint → Read Phrase → Read Phrase
joined_by joint item = series_at (item_between joint item) (sign_between joint) (join_between joint)
