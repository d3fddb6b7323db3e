-- Regular formulas as sets of words, and the paths of a system with such a word as their actions. Modalities over
-- regular formulas are about such paths by mCRL2's definition, after Mateescu and Sighireanu 2003.
use Rattle.std.specs.Prelude.{◌≡◌, ℕ, ◌<◌, ◌⊎◌, List, [], ◌∷◌, ◌++◌, length, All, true, Contains}
use Rattle.vpg_requirement.specs.Systems.{Step, PlainSystem}
use Rattle.vpg_requirement.specs.Words.{IsNext}
use Rattle.vpg_formula.specs.Regular.{Regular, every_action, no_action, action, other_than, both_of, either_of, sequence, choice, repeated, repeated_once}
use Rattle.vpg_meaning.specs.Labels.{admits, name_at}

-- a word: the names of actions, in their order
abbrev pub Word : Type 0
Word = List (List ℕ)

-- the word is one action that the action formula admits
abbrev pub IsOneOf : Regular → Word → Type 0
IsOneOf x word = (name : List ℕ) × (word ≡ name ∷ []) × (admits x name ≡ true)

-- the word is some words of the language, one after the other, or none
pub data Repeats (In : Word → Type 0) : Word → Type 0 where
  none_more : {w : Word} → w ≡ [] → Repeats In w
  one_more : {u v w : Word} → w ≡ u ++ v → In u → Repeats In v → Repeats In w

-- The word is in the language of the regular formula: `R.S` is a word of R and then one of S, `R+S` one of either, `R*`
-- words of R one after the other, and `R+` at least one of them.
abbrev pub IsIn : Regular → Word → Type 0
IsIn every_action w = IsOneOf every_action w
IsIn no_action w = IsOneOf no_action w
IsIn (action label) w = IsOneOf (action label) w
IsIn (other_than x) w = IsOneOf (other_than x) w
IsIn (both_of x y) w = IsOneOf (both_of x y) w
IsIn (either_of x y) w = IsOneOf (either_of x y) w
IsIn (sequence x y) w = (u : Word) × (v : Word) × (w ≡ u ++ v) × IsIn x u × IsIn y v
IsIn (choice x y) w = IsIn x w ⊎ IsIn y w
IsIn (repeated x) w = Repeats (IsIn x) w
IsIn (repeated_once x) w = (u : Word) × (v : Word) × (w ≡ u ++ v) × IsIn x u × Repeats (IsIn x) v

-- Steps lead from the first state to the second, and the names of their actions are this word.
abbrev pub IsPath : List (List ℕ) → PlainSystem → ℕ → Word → ℕ → Type 0
IsPath names system s [] t = s ≡ t
IsPath names system s (name ∷ word) t =
    (step : Step) × Contains system.steps step × (step.source ≡ s) × (name_at names step.label ≡ name) ×
    IsPath names system step.target word t

-- some path in the language leads from the state to one where the fact holds
abbrev pub SomePath : List (List ℕ) → PlainSystem → Regular → (ℕ → Type 0) → ℕ → Type 0
SomePath names system x P s = (w : Word) × (t : ℕ) × IsIn x w × IsPath names system s w t × P t

-- each path in the language leads from the state to one where the fact holds
abbrev pub EveryPath : List (List ℕ) → PlainSystem → Regular → (ℕ → Type 0) → ℕ → Type 0
EveryPath names system x P s = (w : Word) (t : ℕ) → IsIn x w → IsPath names system s w t → P t

-- a step by an action that the action formula admits leads from the first state to the second
abbrev pub IsStepBy : List (List ℕ) → PlainSystem → Regular → ℕ → ℕ → Type 0
IsStepBy names system x s t =
    (step : Step) × Contains system.steps step × (step.source ≡ s) × (step.target ≡ t) ×
    (admits x (name_at names step.label) ≡ true)

-- Each run comes to such an action: there is a step, and from the target of each step by another action each run comes
-- to one.
pub data ComesToStep (names : List (List ℕ)) (system : PlainSystem) (x : Regular) : ℕ → Type 0 where
  forced : {s : ℕ} → (t : ℕ) × IsNext system s t →
      ((t : ℕ) → IsStepBy names system (other_than x) s t → ComesToStep names system x t) →
      ComesToStep names system x s

-- each step has an action that has a name
abbrev pub HasNames : List (List ℕ) → PlainSystem → Type 0
HasNames names system = All (λ step. step.label < length names) system.steps
