-- Values of the code that searches for a fault, as values of the specs.
use Rattle.std.specs.Prelude.{ℕ, List, [], ◌∷◌, map, reverse, codes}
use Rattle.vpg_formula.specs.Heads.{modality_of}
use Rattle.vpg_formula.specs.Needs as spec
use Rattle.vpg_formula.specs.declared.needs.Follower.{Follower}
use Rattle.vpg_formula.specs.declared.needs.Follower.TheVariants as followers
use Rattle.vpg_formula.specs.declared.needs.Closer.{Closer}
use Rattle.vpg_formula.specs.declared.needs.Closer.TheVariants as closers
use Rattle.vpg_formula.specs.declared.needs.Need.{Need}
use Rattle.vpg_formula.specs.declared.needs.Need.TheVariants as needs
use Rattle.vpg_formula.specs.declared.needs.Inside.{Inside}
use Rattle.vpg_formula.specs.declared.needs.Inside.TheVariants as insides
use Rattle.vpg_formula.specs.declared.needs.More.{More}
use Rattle.vpg_formula.specs.declared.needs.More.TheVariants as mores
use Rattle.vpg_formula.specs.declared.needs.Turn.{Turn}
use Rattle.vpg_formula.specs.declared.needs.Turn.TheVariants as turns
use Rattle.vpg_formula.specs.declared.needs.Step.{Step}
use Rattle.vpg_formula.specs.declared.needs.Step.TheVariants as steps
use Rattle.vpg_formula.specs.declared.needs.Way.{Way}
use Rattle.vpg_formula.specs.declared.needs.Way.TheVariants as ways

abbrev pub word_of : Follower → List ℕ
word_of followers.Free = codes "free"
word_of followers.And = codes "and"
word_of followers.Again = codes "again"
word_of followers.Dot = codes "."

abbrev pub closer_of : Closer → spec.Closer
closer_of closers.Parenthesis = spec.shut
closer_of (closers.Bracket b) = spec.bracket (modality_of b)

abbrev pub need_of : Need → spec.Need
need_of (needs.Part d) = spec.part d
need_of (needs.Ands d) = spec.ands d
need_of (needs.Ors d) = spec.ors d
need_of (needs.Implied d) = spec.implied d
need_of needs.Variable = spec.variable
need_of (needs.Exactly w) = spec.exactly (word_of w)
need_of (needs.Closes c) = spec.closes (closer_of c)
need_of (needs.Operand d) = spec.operand d
need_of (needs.Acting d) = spec.acting d
need_of (needs.Alls d) = spec.alls d
need_of (needs.Anys d) = spec.anys d
need_of needs.Stars = spec.stars
need_of (needs.Dots d) = spec.dots d
need_of (needs.Pluses d) = spec.pluses d
need_of needs.Unacting = spec.unacting

-- the needs in their order: the code puts the first one at the end
abbrev pub needs_of : List Need → List spec.Need
needs_of ns = reverse (map need_of ns)

abbrev pub inside_of : Inside → ℕ → List spec.Need
inside_of insides.Act = spec.act_needs
inside_of insides.Enclosed = spec.enclosed_needs
inside_of insides.Front = spec.front_needs
inside_of (insides.Modal b) = spec.modal_needs (modality_of b)
inside_of insides.Again = spec.again_needs
inside_of insides.After = spec.after_needs
inside_of insides.Binder = spec.binder_needs
inside_of insides.Path = spec.path_needs
inside_of insides.Group = spec.group_needs
inside_of insides.Formula = spec.formula_needs

abbrev pub more_of : More → List spec.Need
more_of mores.Nothing = []
more_of mores.Free = spec.exactly (codes "free") ∷ []
more_of (mores.Inside inside d) = inside_of inside d
more_of (mores.And d) = spec.part d ∷ spec.ands d ∷ []
more_of (mores.Or d) = spec.part d ∷ spec.ands d ∷ spec.ors d ∷ []
more_of (mores.All d) = spec.acting d ∷ spec.alls d ∷ []
more_of (mores.Any d) = spec.acting d ∷ spec.alls d ∷ spec.anys d ∷ []
more_of mores.Star = spec.stars ∷ []
more_of (mores.Dot d) =
    spec.operand d ∷ spec.alls d ∷ spec.anys d ∷ spec.stars ∷ spec.unacting ∷ spec.dots d ∷ []
more_of (mores.Plus d) =
    spec.operand d ∷ spec.alls d ∷ spec.anys d ∷ spec.stars ∷ spec.dots d ∷ spec.unacting ∷ spec.pluses d ∷ []

abbrev pub turn_of_code : Turn → spec.Turn
turn_of_code (turns.Goes flag more) = spec.goes flag (more_of more)
turn_of_code (turns.Skips flag) = spec.skips flag
turn_of_code turns.Stuck = spec.stuck
turn_of_code turns.Deep = spec.deep

abbrev pub step_of : Step → List spec.Need → spec.Step
step_of (steps.On flag) ns = spec.on flag ns
step_of steps.Over ns = spec.over
step_of steps.NoWord ns = spec.no_word
step_of steps.NoRoom ns = spec.no_room

abbrev pub way_of : Way → spec.Way
way_of (ways.Done left) = spec.done left
way_of (ways.Halted left) = spec.halted left
way_of (ways.TooDeep left) = spec.too_deep left
