-- How the names of a formula stand: whether each is bound by a fixpoint, and under how many negations within it. This
-- project's own; that a variable stands under an even number of negations is required as in the modal mu-calculus
-- (Kozen 1983).
use Rattle.std.specs.Prelude.{ℕ, List, [], ◌∷◌, ◌++◌, Bool, true, false, not, if◌then◌else◌, bytes_eq}
use Rattle.std.specs.List.{list_any}
use Rattle.vpg_formula.specs.Written.{Prefix, negated, some_path, every_path, always, never, possibly, inevitably, again_and_again, after, Written, constant, named, deadlock_free, can, will, prefixed, conjunction, disjunction, implication, binding}
use Rattle.vpg_formula.specs.declared.uses.Standing.{Standing}
use Rattle.vpg_formula.specs.declared.uses.Standing.TheVariants.{Known, Unknown, Negated}

-- a variable that is bound, and whether its fixpoint stands under an odd number of negations
pub record Bound : Type 0 where
  pub name : List ℕ
  pub is_odd : Bool

-- The context of a part of a formula: whether it is under an odd number of negations, and in which fixpoints, outermost
-- first.
pub record Context : Type 0 where
  pub is_odd : Bool
  pub scope : List Bound

-- the context of a whole formula
abbrev pub nothing_around : Context
nothing_around = record { is_odd = false; scope = [] }

-- the context under one more negation
abbrev pub negated_in : Context → Context
negated_in c = record { is_odd = not c.is_odd; scope = c.scope }

-- the context inside a fixpoint of this variable
abbrev pub inside : List ℕ → Context → Context
inside x c = record { is_odd = c.is_odd; scope = c.scope ++ record { name = x; is_odd = c.is_odd } ∷ [] }

-- after a word: `!` and `never` are negations
abbrev pub behind_prefix : Prefix → Context → Context
behind_prefix negated c = negated_in c
behind_prefix (some_path x) c = c
behind_prefix (every_path x) c = c
behind_prefix always c = c
behind_prefix never c = negated_in c
behind_prefix possibly c = c
behind_prefix inevitably c = c
behind_prefix again_and_again c = c
behind_prefix (after x) c = c

abbrev pub is_among : List (List ℕ) → List ℕ → Bool
is_among names x = list_any (λ y. bytes_eq y x) names

-- how a bound variable stands: the negations within its fixpoint are those here without those there
abbrev pub standing_under : Bool → Bool → Standing
standing_under true true = Known
standing_under true false = Negated
standing_under false true = Negated
standing_under false false = Known

-- how a name stands, by the innermost fixpoint of that name, if any
abbrev pub standing_in : Bool → List Bound → Standing → List ℕ → Standing
standing_in is_odd [] without x = without
standing_in is_odd (b ∷ bs) without x =
    standing_in is_odd bs (if bytes_eq b.name x then standing_under b.is_odd is_odd else without) x

-- how a name stands, after entries of these names
abbrev pub standing_of : List (List ℕ) → Context → List ℕ → Standing
standing_of earlier c x = standing_in c.is_odd c.scope (if is_among earlier x then Known else Unknown) x

-- how the names of a formula stand, from left to right
abbrev pub uses : List (List ℕ) → Context → Written → List Standing
uses earlier c (constant b) = []
uses earlier c (named x) = standing_of earlier c x ∷ []
uses earlier c deadlock_free = []
uses earlier c (can x) = []
uses earlier c (will x) = []
uses earlier c (prefixed prefix f) = uses earlier (behind_prefix prefix c) f
uses earlier c (conjunction f g) = uses earlier c f ++ uses earlier c g
uses earlier c (disjunction f g) = uses earlier c f ++ uses earlier c g
uses earlier c (implication f g) = uses earlier (negated_in c) f ++ uses earlier c g
uses earlier c (binding kind x f) = uses earlier (inside x c) f

abbrev pub is_like : Standing → Standing → Bool
is_like Known Known = true
is_like Unknown Unknown = true
is_like Negated Negated = true
is_like a b = false

-- whether a name of the formula stands so
abbrev pub has : Standing → List (List ℕ) → Written → Bool
has wanted earlier f = list_any (is_like wanted) (uses earlier nothing_around f)
