-- Where a text of requirements is faulty. This project's own.
use Rattle.std.specs.Prelude.{◌≡◌, ℕ, suc, ◌+◌, ◌<◌, ◌≤◌, List, [], ◌∷◌, ◌++◌, length, map, take, slice_get, Bool, true, false, codes, Some}
use Rattle.std.specs.List.{list_any}
use Rattle.vpg_formula.specs.Words.{words_of}
use Rattle.vpg_formula.specs.Places.{place_of}
use Rattle.vpg_formula.specs.Written.{Phrase, is_variable}
use Rattle.vpg_formula.specs.FormulaGrammar.{IsFormula}
use Rattle.vpg_formula.specs.Standings.{nothing_around, is_among, uses, is_like}
use Rattle.vpg_formula.specs.Naming.{mentions, first_unknown}
use Rattle.vpg_formula.specs.Stops.{ends_formula, IsStuckAt, IsTooDeepIn}
use Rattle.vpg_formula.specs.Requirements.{Entry, AreEntries, begins_entry, are_positive}
use Rattle.vpg_formula.specs.declared.fault.RequirementFault.{RequirementFault}
use Rattle.vpg_formula.specs.declared.fault.RequirementFault.TheVariants as faults
use Rattle.vpg_formula.specs.declared.uses.Standing.TheVariants.{Negated}

abbrev pub entry_names : List Entry → List (List ℕ)
entry_names es = map (λ e. e.name) es

-- the words begin with these entries, which have this many words, and these words come after them
pub record AreBehind (ws : List (List ℕ)) (entries : List Entry) (k : ℕ) (rest : List (List ℕ)) : Type 0 where
  pub front : List (List ℕ)
  pub parts : ws ≡ front ++ rest
  pub count : k ≡ length front
  pub are : AreEntries 64 [] front entries

-- after this many words, which are entries, comes the name of another one, which one of them has too
pub record IsTwiceAt (ws : List (List ℕ)) (k : ℕ) : Type 0 where
  pub name : List ℕ
  pub entries : List Entry
  pub rest : List (List ℕ)
  pub behind : AreBehind ws entries k (name ∷ rest)
  pub variable : is_variable name ≡ true
  pub again : is_among (entry_names entries) name ≡ true

-- after this many words, which are 64 entries, comes the name of another one
pub record IsTooManyAt (ws : List (List ℕ)) (k : ℕ) : Type 0 where
  pub name : List ℕ
  pub entries : List Entry
  pub rest : List (List ℕ)
  pub behind : AreBehind ws entries k (name ∷ rest)
  pub all : length entries ≡ 64
  pub variable : is_variable name ≡ true
  pub new : is_among (entry_names entries) name ≡ false

-- A formula begins after this many words: after the `=` of a new entry, after these, or at the first word.
pub data FormulaAt (ws : List (List ℕ)) : List Entry → ℕ → List (List ℕ) → Type 0 where
  alone : begins_entry ws ≡ false → FormulaAt ws [] 0 ws
  in_entry : (name : List ℕ) (entries : List Entry) (k : ℕ) (rest : List (List ℕ)) →
      AreBehind ws entries k (name ∷ codes "=" ∷ rest) → is_variable name ≡ true →
      is_among (entry_names entries) name ≡ false → length entries < 64 → FormulaAt ws entries (k + 2) rest

-- whether the formula is an entry's
abbrev pub is_in_entry : {ws : List (List ℕ)} {entries : List Entry} {k : ℕ} {rest : List (List ℕ)} →
    FormulaAt ws entries k rest → Bool
is_in_entry (alone none) = false
is_in_entry (in_entry name entries k rest is_behind variable new few) = true

-- each name among the first k words of a formula is bound there, or an earlier entry's
abbrev pub AreKnownTo : List (List ℕ) → List (List ℕ) → ℕ → Type 0
AreKnownTo earlier ws k = (u : ℕ) → first_unknown (mentions earlier ws) ≡ Some u → k ≤ u

-- After this many words comes one that cannot come there, or the words end too early. After whole entries it is no
-- name, or it is not the `=` after a new name. In a formula, the formula does not go on with it. All names before it
-- are known.
pub data IsSyntaxAt (ws : List (List ℕ)) : ℕ → Type 0 where
  no_name : (w : List ℕ) (entries : List Entry) (k : ℕ) (rest : List (List ℕ)) → begins_entry ws ≡ true →
      AreBehind ws entries k (w ∷ rest) → is_variable w ≡ false → IsSyntaxAt ws k
  no_sign : (name : List ℕ) (entries : List Entry) (k : ℕ) (rest : List (List ℕ)) → begins_entry ws ≡ true →
      AreBehind ws entries k (name ∷ rest) → is_variable name ≡ true → is_among (entry_names entries) name ≡ false →
      length entries < 64 → ((more : List (List ℕ)) → rest ≡ codes "=" ∷ more → ⊥) → IsSyntaxAt ws (suc k)
  no_formula : (entries : List Entry) (start : ℕ) (rest : List (List ℕ)) (k : ℕ)
      (begins : FormulaAt ws entries start rest) → IsStuckAt (is_in_entry begins) rest k →
      AreKnownTo (entry_names entries) rest k → IsSyntaxAt ws (start + k)

-- after this many words comes one that would open the 65th part, and all names before it are known
pub record IsTooDeepAt (ws : List (List ℕ)) (k : ℕ) : Type 0 where
  pub entries : List Entry
  pub start : ℕ
  pub rest : List (List ℕ)
  pub begins : FormulaAt ws entries start rest
  pub front : ℕ
  pub deep : IsTooDeepIn rest front
  pub known : AreKnownTo (entry_names entries) rest front
  pub place : k ≡ start + front

-- after this many words comes the first name of a formula that is neither bound nor an earlier entry's
pub record IsUnknownAt (ws : List (List ℕ)) (k : ℕ) : Type 0 where
  pub entries : List Entry
  pub start : ℕ
  pub rest : List (List ℕ)
  pub begins : FormulaAt ws entries start rest
  pub front : ℕ
  pub first : first_unknown (mentions (entry_names entries) rest) ≡ Some front
  pub place : k ≡ start + front

-- The words are a formula and the words after it. In the formula, this many words come before the first name that is
-- under an odd number of negations within its fixpoint.
pub record IsNegatedIn (earlier ws behind : List (List ℕ)) (k : ℕ) : Type 0 where
  pub front : List (List ℕ)
  pub parts : ws ≡ front ++ behind
  pub phrase : Phrase
  pub formula : IsFormula 64 front phrase
  pub index : ℕ
  pub stands : slice_get (uses earlier nothing_around phrase.written) index ≡ Some Negated
  pub first : list_any (is_like Negated) (take index (uses earlier nothing_around phrase.written)) ≡ false
  pub known : Bool
  pub name : slice_get (mentions earlier ws) index ≡ Some (k, known)

-- after this many words comes the first name of all formulas that is negated so
pub record IsNegatedAt (ws : List (List ℕ)) (k : ℕ) : Type 0 where
  pub entries : List Entry
  pub start : ℕ
  pub rest : List (List ℕ)
  pub begins : FormulaAt ws entries start rest
  pub positive : are_positive [] entries ≡ true
  pub behind : List (List ℕ)
  pub ends : ends_formula (is_in_entry begins) behind ≡ true
  pub front : ℕ
  pub is : IsNegatedIn (entry_names entries) rest behind front
  pub place : k ≡ start + front

-- the byte is the first of the word after this many others, and this holds of their number
pub record IsPlace (text : List ℕ) (at : ℕ) (Is : ℕ → Type 0) : Type 0 where
  pub words : ℕ
  pub within : words ≤ length (words_of text)
  pub place : at ≡ place_of text words
  pub is : Is words

-- The place of a fault. `Twice` and `TooMany` are at the name of an entry that is not new, or one too many. `Syntax` is
-- at the first word that cannot come there. `UnknownVariable` is at the first name of its formula that is not known.
-- `TooDeep` is at the part that would be the 65th open one, and `NegatedVariable` at the first negated name of all.
abbrev pub IsAt : List ℕ → RequirementFault → Type 0
IsAt text (faults.Twice at) = IsPlace text at (IsTwiceAt (words_of text))
IsAt text (faults.TooMany at) = IsPlace text at (IsTooManyAt (words_of text))
IsAt text (faults.Syntax at) = IsPlace text at (IsSyntaxAt (words_of text))
IsAt text (faults.UnknownVariable at) = IsPlace text at (IsUnknownAt (words_of text))
IsAt text (faults.TooDeep at) = IsPlace text at (IsTooDeepAt (words_of text))
IsAt text (faults.NegatedVariable at) = IsPlace text at (IsNegatedAt (words_of text))
IsAt text faults.Memory = Unit {0}
