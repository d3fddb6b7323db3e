-- Values of the code that reads whole texts, as values of the specs.
use Rattle.std.specs.Prelude.{◌≡◌, ℕ, ◌-◌, List, [], ◌∷◌, ◌++◌, length, map, reverse, Bool, true, false, not, codes, is_some, Option, Some, None, Result, Ok, Err}
use Rattle.std.specs.Borrow.{Bor}
use Rattle.vpg_formula.specs.ReadCode.{texts}
use Rattle.vpg_formula.specs.Written.{Written, Phrase, is_variable}
use Rattle.vpg_formula.specs.Marks.{written_marks, phrase_marks}
use Rattle.vpg_formula.specs.Standings as standings
use Rattle.vpg_formula.specs.Standings.{is_among, has}
use Rattle.vpg_formula.specs.Requirements as spec
use Rattle.vpg_formula.specs.Requirements.{are_positive, Marked, marked, names_of}
use Rattle.vpg_formula.specs.EntryReading as reading
use Rattle.vpg_formula.specs.EntryReading.{first_like, body_at, item_behind, entries_at}
use Rattle.vpg_formula.specs.Reading.{◌>>=◌, after_word}
use Rattle.vpg_formula.specs.declared.mark.Mark.{Mark}
use Rattle.vpg_formula.specs.declared.uses.Standing.TheVariants.{Unknown, Negated}
use Rattle.vpg_formula.specs.declared.uses.Standing.{Standing}
use Rattle.vpg_formula.specs.declared.uses.Bound.{Bound}
use Rattle.vpg_formula.specs.declared.uses.Context.{Context}
use Rattle.vpg_formula.specs.declared.uses.Visit.{Visit}
use Rattle.vpg_formula.specs.declared.requirement.Entry.{Entry}
use Rattle.vpg_formula.specs.declared.fault.RequirementFault.{RequirementFault}
use Rattle.vpg_formula.specs.declared.fault.RequirementFault.TheVariants as faults
use Rattle.vpg_formula.specs.declared.stop.Halt.{Halt}
use Rattle.vpg_formula.specs.declared.stop.Halt.TheVariants as halts

-- ---- names

abbrev pub bounds : List Bound → List standings.Bound
bounds bs = map (λ b. record { name = b.name.now; is_odd = b.is_odd }) bs

abbrev pub context_of : Context → standings.Context
context_of c = record { is_odd = c.is_odd; scope = bounds c.scope.items }

-- the result of a visit: the code puts what is next at the end
abbrev pub visit_of : Visit → reading.Visit
visit_of v = (reverse (map context_of v.parts.items), reverse v.standings.items)

-- ---- entries

-- a word and those after it
abbrev pub words_in : Option (Bor (List ℕ) × Bor (List (Bor (List ℕ)))) → List (List ℕ)
words_in None = []
words_in (Some p) = p.0.now ∷ texts p.1.now

-- the code's entries, each with its name and its marks
abbrev pub entries_of : List Entry → List Marked
entries_of es = map (λ e. (e.name, e.formula.marks.items)) es

-- the names of entries
abbrev pub earlier_of : List Entry → List (List ℕ)
earlier_of es = names_of (entries_of es)

-- Nothing is read, unless memory ran out.
abbrev pub Halts : {A : Type 0} → Halt → Option A → Type 0
Halts halts.Memory read = Unit {0}
Halts (halts.Syntax left) read = read ≡ None
Halts (halts.Unknown left) read = read ≡ None
Halts (halts.TooDeep left) read = read ≡ None
Halts (halts.Twice left) read = read ≡ None
Halts (halts.TooMany left) read = read ≡ None
Halts (halts.Negated left) read = ⊥

-- a formula with known names: whether a variable in it is negated, its marks, and the words after it
pub record IsBody (earlier : List (List ℕ)) (negated : Option ℕ) (marks : List Mark) (ws rest : List (List ℕ)) :
    Type 0 where
  pub phrase : Phrase
  pub is : body_at earlier ws ≡ Some (phrase, rest)
  pub put : marks ≡ phrase_marks phrase
  pub tells : is_some negated ≡ has Negated earlier phrase.written

-- the words in front of an entry's formula
pub record IsHead (earlier : List (List ℕ)) (name : List ℕ) (ws rest : List (List ℕ)) : Type 0 where
  pub variable : is_variable name ≡ true
  pub new : is_among earlier name ≡ false
  pub sign : after_word (codes "=") ws ≡ Some rest

-- an entry, after its `=`
pub record IsItem (earlier : List (List ℕ)) (name : List ℕ) (negated : Option ℕ) (made : Marked)
    (ws rest : List (List ℕ)) : Type 0 where
  pub formula : Written
  pub is : item_behind earlier name ws ≡ Some (record { name = name; formula = formula }, rest)
  pub put : made ≡ (name, written_marks formula)
  pub tells : is_some negated ≡ has Negated earlier formula

-- the entries that are read
pub record AreRead (negated : Option ℕ) (made : List Marked) (read : Option (List spec.Entry)) : Type 0 where
  pub entries : List spec.Entry
  pub are : read ≡ Some entries
  pub put : made ≡ marked entries
  pub tells : is_some negated ≡ not (are_positive [] entries)

-- The state of reading entries: these entries, and then those of the words that are left.
pub record Goes (negated : Option ℕ) (made : List Marked) (all rest : List (List ℕ)) : Type 0 where
  pub entries : List spec.Entry
  pub put : made ≡ marked entries
  pub tells : is_some negated ≡ not (are_positive [] entries)
  pub is : entries_at 64 [] all ≡
      (entries_at (64 - length made) (names_of made) rest >>= λ later. Some (entries ++ later))

-- The result of checking the names of a formula, which stand like this.
abbrev pub IsChecked : Result (Option ℕ) Halt → List Standing → Type 0
IsChecked (Ok negated) ss =
    (is_some (first_like Unknown ss) ≡ false) × (is_some negated ≡ is_some (first_like Negated ss))
IsChecked (Err halts.Memory) ss = Unit {0}
IsChecked (Err (halts.Negated left)) ss = ⊥
IsChecked (Err h) ss = is_some (first_like Unknown ss) ≡ true

-- entries with a negated variable
pub record AreNegated (read : Option (List spec.Entry)) : Type 0 where
  pub entries : List spec.Entry
  pub are : read ≡ Some entries
  pub negative : are_positive [] entries ≡ false

-- No entries are read, or some with a negated variable, unless memory ran out.
abbrev pub Refuses : Halt → Option (List spec.Entry) → Type 0
Refuses halts.Memory read = Unit {0}
Refuses (halts.Negated left) read = AreNegated read
Refuses h read = read ≡ None

-- entries without negated variables
pub record AreWhole (made : List Marked) (read : Option (List spec.Entry)) : Type 0 where
  pub entries : List spec.Entry
  pub are : read ≡ Some entries
  pub put : made ≡ marked entries
  pub positive : are_positive [] entries ≡ true

abbrev pub is_halt_of_memory : Halt → Bool
is_halt_of_memory halts.Memory = true
is_halt_of_memory h = false

abbrev pub is_fault_of_memory : RequirementFault → Bool
is_fault_of_memory faults.Memory = true
is_fault_of_memory fault = false

abbrev pub is_halt_negated : Halt → Bool
is_halt_negated (halts.Negated left) = true
is_halt_negated h = false

abbrev pub is_fault_negated : RequirementFault → Bool
is_fault_negated (faults.NegatedVariable at) = true
is_fault_negated fault = false
