-- Places in a text: the code keeps the number of words that are left, the specs the place itself.
use Rattle.std.specs.Prelude.{◌≡◌, ℕ, suc, ◌+◌, ◌-◌, ◌<◌, ◌≤◌, List, [], ◌++◌, length, codes, Bool, true, false, not, if◌then◌else◌, nat_lt, slice_index_or, Option, Some, None, is_some}
use Rattle.vpg_formula.specs.Words.{words_of}
use Rattle.vpg_formula.specs.Places.{place_of}
use Rattle.vpg_formula.specs.Written.{is_variable}
use Rattle.vpg_formula.specs.Standings.{is_among}
use Rattle.vpg_formula.specs.Requirements.{Entry, Marked, marked, AreEntries, are_positive}
use Rattle.vpg_formula.specs.Stops.{IsStuckAt, IsTooDeepIn}
use Rattle.vpg_formula.specs.Needs as needs
use Rattle.vpg_formula.specs.Needs.{formula_way}
use Rattle.vpg_formula.specs.Reading.{after_word}
use Rattle.vpg_formula.specs.Faults.{IsTwiceAt, IsTooManyAt, AreKnownTo, IsSyntaxAt, IsTooDeepAt, IsUnknownAt, IsNegatedIn, IsNegatedAt}
use Rattle.vpg_formula.specs.Naming.{mentions, first_unknown}
use Rattle.vpg_formula.specs.declared.fault.RequirementFault.{RequirementFault}
use Rattle.vpg_formula.specs.declared.fault.RequirementFault.TheVariants as faults
use Rattle.vpg_formula.specs.declared.stop.Halt.{Halt}
use Rattle.vpg_formula.specs.declared.stop.Halt.TheVariants as halts

-- the places of a text's words, and its length after them
pub record ArePlaces (text : List ℕ) (places : List ℕ) : Type 0 where
  pub count : length places ≡ suc (length (words_of text))
  pub each : (k : ℕ) → k < length places → slice_index_or places k 0 ≡ place_of text k

-- the place at which this many words are left, or the first if there are fewer words
abbrev pub place_left : List ℕ → ℕ → ℕ
place_left places left =
    if nat_lt left (length places) then slice_index_or places (length places - 1 - left) 0
    else slice_index_or places 0 0

-- the fault in a text with these places
abbrev pub fault_at : List ℕ → Halt → RequirementFault
fault_at places (halts.Syntax left) = faults.Syntax (place_left places left)
fault_at places (halts.Unknown left) = faults.UnknownVariable (place_left places left)
fault_at places (halts.TooDeep left) = faults.TooDeep (place_left places left)
fault_at places (halts.Twice left) = faults.Twice (place_left places left)
fault_at places (halts.TooMany left) = faults.TooMany (place_left places left)
fault_at places (halts.Negated left) = faults.NegatedVariable (place_left places left)
fault_at places halts.Memory = faults.Memory

-- this many words are left, and this holds after the others
pub record IsLeft (ws : List (List ℕ)) (left : ℕ) (Is : ℕ → Type 0) : Type 0 where
  pub words : ℕ
  pub sum : words + left ≡ length ws
  pub is : Is words

-- Where words stop being requirements.
abbrev pub HaltsAt : List (List ℕ) → Halt → Type 0
HaltsAt ws (halts.Twice left) = IsLeft ws left (IsTwiceAt ws)
HaltsAt ws (halts.TooMany left) = IsLeft ws left (IsTooManyAt ws)
HaltsAt ws (halts.Unknown left) = IsLeft ws left (IsUnknownAt ws)
HaltsAt ws (halts.Negated left) = IsLeft ws left (IsNegatedAt ws)
HaltsAt ws (halts.Syntax left) = IsLeft ws left (IsSyntaxAt ws)
HaltsAt ws (halts.TooDeep left) = IsLeft ws left (IsTooDeepAt ws)
HaltsAt ws halts.Memory = Unit {0}

-- the words in front of a stop are known
pub record IsStopped (earlier ws : List (List ℕ)) (Is : ℕ → Type 0) (k : ℕ) : Type 0 where
  pub is : Is k
  pub known : AreKnownTo earlier ws k

-- Where words stop being a formula, an entry's or one alone.
abbrev pub BodyAt : Bool → List (List ℕ) → List (List ℕ) → Halt → Type 0
BodyAt in_entry earlier ws halts.Memory = Unit {0}
BodyAt in_entry earlier ws (halts.Syntax left) = IsLeft ws left (IsStopped earlier ws (IsStuckAt in_entry ws))
BodyAt in_entry earlier ws (halts.TooDeep left) = IsLeft ws left (IsStopped earlier ws (IsTooDeepIn ws))
BodyAt in_entry earlier ws (halts.Unknown left) = IsLeft ws left (λ k. first_unknown (mentions earlier ws) ≡ Some k)
BodyAt in_entry earlier ws h = ⊥

-- where reading word by word stops
abbrev pub WayAt : List (List ℕ) → ℕ → Halt → Type 0
WayAt ws left (halts.Syntax stop) = (stop ≡ left) × (formula_way 64 ws ≡ needs.halted left)
WayAt ws left (halts.TooDeep stop) = (stop ≡ left) × (formula_way 64 ws ≡ needs.too_deep left)
WayAt ws left h = ⊥

-- Where the first negated name of a formula is, if it has one.
abbrev pub NegatedIn : List (List ℕ) → List (List ℕ) → List (List ℕ) → Option ℕ → Type 0
NegatedIn earlier ws behind None = Unit {0}
NegatedIn earlier ws behind (Some left) = IsLeft ws left (IsNegatedIn earlier ws behind)

-- Where the first negated name of all formulas is, if there is one.
abbrev pub NegatedAt : List (List ℕ) → Option ℕ → Type 0
NegatedAt ws None = Unit {0}
NegatedAt ws (Some left) = IsLeft ws left (IsNegatedAt ws)

-- the first of two places; the first one given is among earlier words
abbrev pub first_of : Option ℕ → Option ℕ → Option ℕ
first_of None b = b
first_of (Some left) b = Some left

-- the name of an entry that is not new
pub record IsRepeated (earlier : List (List ℕ)) (name : List ℕ) (ws : List (List ℕ)) (left : ℕ) : Type 0 where
  pub variable : is_variable name ≡ true
  pub again : is_among earlier name ≡ true
  pub all_left : left ≡ suc (length ws)

-- the name of an entry after 64 of them
pub record IsBeyond (earlier : List (List ℕ)) (n : ℕ) (name : List ℕ) (ws : List (List ℕ)) (left : ℕ) : Type 0 where
  pub many : 64 ≤ n
  pub variable : is_variable name ≡ true
  pub new : is_among earlier name ≡ false
  pub all_left : left ≡ suc (length ws)

-- A word is no name, or a new name has no `=`.
pub data IsHeadless (earlier : List (List ℕ)) (n : ℕ) (name : List ℕ) (ws : List (List ℕ)) (left : ℕ) : Type 0 where
  nameless : is_variable name ≡ false → left ≡ suc (length ws) → IsHeadless earlier n name ws left
  signless : is_variable name ≡ true → is_among earlier name ≡ false → n < 64 → after_word (codes "=") ws ≡ None →
      left ≡ length ws → IsHeadless earlier n name ws left

-- Where words stop being the name and the `=` of an entry, after this many entries of these names.
abbrev pub HeadAt : List (List ℕ) → ℕ → List ℕ → List (List ℕ) → Halt → Type 0
HeadAt earlier n name ws (halts.Twice left) = IsRepeated earlier name ws left
HeadAt earlier n name ws (halts.TooMany left) = IsBeyond earlier n name ws left
HeadAt earlier n name ws (halts.Syntax left) = IsHeadless earlier n name ws left
HeadAt earlier n name ws (halts.TooDeep left) = ⊥
HeadAt earlier n name ws (halts.Unknown left) = ⊥
HeadAt earlier n name ws (halts.Negated left) = ⊥
HeadAt earlier n name ws halts.Memory = Unit {0}

-- Entries that are read, with the first negated name, and the words after them.
pub record AreReadTo (negated : Option ℕ) (made : List Marked) (all rest : List (List ℕ)) : Type 0 where
  pub entries : List Entry
  pub put : made ≡ marked entries
  pub front : List (List ℕ)
  pub parts : all ≡ front ++ rest
  pub are : AreEntries 64 [] front entries
  pub tells : is_some negated ≡ not (are_positive [] entries)
  pub place : NegatedAt all negated
