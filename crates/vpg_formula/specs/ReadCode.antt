-- Values of the reader's code, as values of the specs.
use Rattle.std.specs.Prelude.{◌≡◌, ℕ, List, ◌++◌, map, Bool, true, false, Option, Some, None, Result, Ok, Err}
use Rattle.std.specs.Borrow.{Bor}
use Rattle.vpg_formula.specs.declared.mark.Mark.{Mark}
use Rattle.vpg_formula.specs.declared.fault.FormulaFault.{FormulaFault}
use Rattle.vpg_formula.specs.declared.fault.FormulaFault.TheVariants as faults
use Rattle.vpg_formula.specs.declared.stop.Stop.{Stop}
use Rattle.vpg_formula.specs.declared.stop.Stop.TheVariants as stops

abbrev pub texts : List (Bor (List ℕ)) → List (List ℕ)
texts words = map (λ w. w.now) words

-- Nothing is read, unless memory ran out.
abbrev pub Fails : {A : Type 0} → Stop → Option A → Type 0
Fails stops.Memory read = Unit {0}
Fails (stops.Syntax left) read = read ≡ None
Fails (stops.TooDeep left) read = read ≡ None

-- a value that is read: its marks are put after the old ones, it has this property, and these words are left
pub record IsRead {A : Type 0} (marks : A → List Mark) (has : A → Bool) (old new : List Mark) (flag : Bool)
    (rest : List (List ℕ))
    (read : Option (A × List (List ℕ))) : Type 0 where
  pub item : A
  pub is : read ≡ Some (item, rest)
  pub put : new ≡ old ++ marks item
  pub tells : flag ≡ has item

-- A function's result, and the marks that it left, are the result of reading.
abbrev pub Gives : {A : Type 0} → (A → List Mark) → (A → Bool) → List Mark → List Mark →
    Result (Bool × Bor (List (Bor (List ℕ)))) Stop
    → Option (A × List (List ℕ)) → Type 0
Gives marks has old new (Ok x) read = IsRead marks has old new x.0 (texts x.1.now) read
Gives marks has old new (Err e) read = Fails e read

-- the marks of all that the words are
pub record IsWhole {A : Type 0} (marks : A → List Mark) (new : List Mark) (read : Option A) : Type 0 where
  pub item : A
  pub is : read ≡ Some item
  pub put : new ≡ marks item

-- A function's result is the result of reading.
abbrev pub GivesAll : {A V : Type 0} → (V → List Mark) → (A → List Mark) → Result V Stop → Option A → Type 0
GivesAll items marks (Ok v) read = IsWhole marks (items v) read
GivesAll items marks (Err e) read = Fails e read

abbrev pub is_memory : Stop → Bool
is_memory stops.Memory = true
is_memory (stops.Syntax left) = false
is_memory (stops.TooDeep left) = false

abbrev pub is_out_of_memory : FormulaFault → Bool
is_out_of_memory faults.Memory = true
is_out_of_memory (faults.Syntax at) = false
is_out_of_memory (faults.TooDeep at) = false
