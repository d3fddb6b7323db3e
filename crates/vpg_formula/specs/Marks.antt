-- A formula in Polish notation (Łukasiewicz): its operands stand in front of its mark.
use Rattle.std.specs.Prelude.{ℕ, List, [], ◌∷◌, ◌++◌, ◌≡◌, Option, Some, None, Bool, true, false}
use Rattle.vpg_formula.specs.Regular.{Regular, every_action, no_action, action, other_than, both_of, either_of, sequence, choice, repeated, repeated_once}
use Rattle.vpg_formula.specs.Written.{Prefix, negated, some_path, every_path, always, never, possibly, inevitably, again_and_again, after, Fixpoint, mu, nu, Written, constant, named, deadlock_free, can, will, prefixed, conjunction, disjunction, implication, binding, Phrase}
use Rattle.vpg_formula.specs.declared.mark.Mark.{Mark}
use Rattle.vpg_formula.specs.declared.mark.Mark.TheVariants as marks

-- the marks of a regular formula
abbrev pub regular_marks : Regular → List Mark
regular_marks every_action = marks.EveryAction ∷ []
regular_marks no_action = marks.NoAction ∷ []
regular_marks (action label) = marks.Action label ∷ []
regular_marks (other_than x) = regular_marks x ++ marks.OtherThan ∷ []
regular_marks (both_of x y) = regular_marks x ++ (regular_marks y ++ marks.BothOf ∷ [])
regular_marks (either_of x y) = regular_marks x ++ (regular_marks y ++ marks.EitherOf ∷ [])
regular_marks (sequence x y) = regular_marks x ++ (regular_marks y ++ marks.Sequence ∷ [])
regular_marks (choice x y) = regular_marks x ++ (regular_marks y ++ marks.Choice ∷ [])
regular_marks (repeated x) = regular_marks x ++ marks.Repeated ∷ []
regular_marks (repeated_once x) = regular_marks x ++ marks.RepeatedOnce ∷ []

-- the marks of the regular formula in a prefix
abbrev pub prefix_marks : Prefix → List Mark
prefix_marks negated = []
prefix_marks (some_path x) = regular_marks x
prefix_marks (every_path x) = regular_marks x
prefix_marks always = []
prefix_marks never = []
prefix_marks possibly = []
prefix_marks inevitably = []
prefix_marks again_and_again = []
prefix_marks (after x) = regular_marks x

abbrev pub prefix_mark : Prefix → Mark
prefix_mark negated = marks.Not
prefix_mark (some_path x) = marks.SomePath
prefix_mark (every_path x) = marks.EveryPath
prefix_mark always = marks.Always
prefix_mark never = marks.Never
prefix_mark possibly = marks.Possibly
prefix_mark inevitably = marks.Inevitably
prefix_mark again_and_again = marks.AgainAndAgain
prefix_mark (after x) = marks.After

abbrev pub binder_mark : Fixpoint → List ℕ → Mark
binder_mark mu x = marks.Least x
binder_mark nu x = marks.Greatest x

-- the marks of a formula
abbrev pub written_marks : Written → List Mark
written_marks (constant true) = marks.True ∷ []
written_marks (constant false) = marks.False ∷ []
written_marks (named x) = marks.Named x ∷ []
written_marks deadlock_free = marks.DeadlockFree ∷ []
written_marks (can x) = regular_marks x ++ marks.Can ∷ []
written_marks (will x) = regular_marks x ++ marks.Will ∷ []
written_marks (prefixed prefix f) = prefix_marks prefix ++ (written_marks f ++ prefix_mark prefix ∷ [])
written_marks (conjunction f g) = written_marks f ++ (written_marks g ++ marks.And ∷ [])
written_marks (disjunction f g) = written_marks f ++ (written_marks g ++ marks.Or ∷ [])
written_marks (implication f g) = written_marks f ++ (written_marks g ++ marks.Implies ∷ [])
written_marks (binding kind x f) = written_marks f ++ binder_mark kind x ∷ []

-- the marks of a phrase: those of its formula
abbrev pub phrase_marks : Phrase → List Mark
phrase_marks p = written_marks p.written

abbrev pub is_endless : Phrase → Bool
is_endless p = p.is_endless

abbrev pub word_marks : Option Regular → List Mark
word_marks None = []
word_marks (Some x) = regular_marks x

abbrev pub star_mark : Bool → Mark
star_mark false = marks.Repeated
star_mark true = marks.RepeatedOnce

-- the marks of something that has this property
pub record AreMarksOf {A : Type 0} (marks : A → List Mark) (Has : A → Type 0) (given : List Mark) : Type 0 where
  pub item : A
  pub has : Has item
  pub are : given ≡ marks item
