-- The infix signs of regular formulas.
use Rattle.std.specs.Prelude.{ℕ, List, codes, Bool, true, false, not, ◌&&◌, Option}
use Rattle.vpg_formula.specs.Regular.{Regular, all_of, any_of, sequence_of, choice_of}
use Rattle.vpg_formula.specs.Reading.{Read, series_at, all_of_with, repetition_with, sequence_with}
use Rattle.vpg_formula.specs.declared.mark.Mark.{Mark}
use Rattle.vpg_formula.specs.declared.mark.Mark.TheVariants as marks
use Rattle.vpg_formula.specs.declared.level.Level.{Level}
use Rattle.vpg_formula.specs.declared.level.Level.TheVariants.{Choice, Sequence, AnyOf, AllOf}

abbrev pub sign_of : Level → List ℕ
sign_of Choice = codes "+"
sign_of Sequence = codes "."
sign_of AnyOf = codes "||"
sign_of AllOf = codes "&&"

abbrev pub mark_of : Level → Mark
mark_of Choice = marks.Choice
mark_of Sequence = marks.Sequence
mark_of AnyOf = marks.EitherOf
mark_of AllOf = marks.BothOf

-- whether it joins action formulas only, and makes one of them
abbrev pub is_of_actions : Level → Bool
is_of_actions Choice = false
is_of_actions Sequence = false
is_of_actions AnyOf = true
is_of_actions AllOf = true

-- whether it cannot join such a formula
abbrev pub refuses : Level → Bool → Bool
refuses level is_action = is_of_actions level && not is_action

abbrev pub join_of : Level → Regular → Regular → Option Regular
join_of Choice = choice_of
join_of Sequence = sequence_of
join_of AnyOf = any_of
join_of AllOf = all_of

-- the items that it joins
abbrev pub item_of : Level → Read Regular → Read Regular
item_of Choice operand = sequence_with operand
item_of Sequence operand = repetition_with operand
item_of AnyOf operand = all_of_with operand
item_of AllOf operand = operand

abbrev pub level_of : Level → Read Regular → Read Regular
level_of level operand = series_at (item_of level operand) (sign_of level) (join_of level)
