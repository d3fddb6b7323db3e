-- Which fault a text of a system has: the first by line, and then the first of that line. This project's own.
use Rattle.std.specs.Prelude.{ℕ, ◌+◌, ◌<◌, ◌≤◌, ◌≡◌, ◌≢◌, max, true, List, [], ◌∷◌, ◌++◌, length, Option, Some, IsTrue, ◌⊎◌}
use Rattle.std.specs.Str.Lines.{lines}
use Rattle.vpg_guards.specs.Formula.{Formula}
use Rattle.vpg_guards.specs.Grammar.{Spells}
use Rattle.vpg_guards.specs.declared.fault.GuardFault.{GuardFault}
use Rattle.vpg_guards.specs.declared.fault.GuardFault.TheVariants as guard_faults
use Rattle.vpg_system.specs.SystemText.{Transition, Header, SpellsHeader, IsWithin, Form, SpellsForm, HasName, AreTransitions, not_blank, kept, lacks}
use Rattle.vpg_system.specs.declared.fault.SystemFault.{SystemFault}
use Rattle.vpg_system.specs.declared.fault.SystemFault.TheVariants as faults
use Rattle.vpg_system.specs.declared.fault.LineFault.{LineFault}
use Rattle.vpg_system.specs.declared.fault.LineFault.TheVariants as line_faults

-- the first line that is not blank is refused: each fault if none above it is
abbrev pub IsHeaderFault : List ℕ → ℕ → SystemFault → Type 0
IsHeaderFault bytes number (faults.NoHeader line) = (line ≡ number) × ((h : Header) → SpellsHeader bytes h → ⊥)
IsHeaderFault bytes number (faults.TooMany line) =
    (line ≡ number) × ((h : Header) × SpellsHeader bytes h × (IsWithin h → ⊥))
IsHeaderFault bytes number (faults.NoState line) =
    (line ≡ number) × ((h : Header) × SpellsHeader bytes h × IsWithin h × (h.states ≤ h.first))
IsHeaderFault bytes number fault = ⊥

-- the states of a form are states
abbrev pub HasStates : ℕ → Form → Type 0
HasStates states form = (form.source < states) × (form.target < states)

-- the text between the brackets spells no guard, and its place is after the last `[` of the line
pub record IsGuardFault (features : List (List ℕ)) (states : ℕ) (bytes : List ℕ) (form : Form) (at : ℕ)
    (fault : GuardFault) : Type 0 where
  pub name : List ℕ
  pub text : List ℕ
  pub label_is : HasName form.label name (Some text)
  pub has_states : HasStates states form
  pub front : List ℕ
  pub behind : List ℕ
  pub opened : bytes ≡ front ++ 91 ∷ behind
  pub last : IsTrue (lacks 91 behind)
  pub at_is : at ≡ length front + 1
  pub no_guard : (g : Formula) → Spells features text g → ⊥
  pub not_memory : fault ≢ guard_faults.Memory

-- a form that is refused after this many transitions: each fault if none above it is
abbrev pub IsFormFault : List (List ℕ) → Header → ℕ → List ℕ → Form → LineFault → Type 0
IsFormFault features h before bytes form line_faults.Syntax = ⊥
IsFormFault features h before bytes form line_faults.WrongCount = h.count ≤ before
IsFormFault features h before bytes form line_faults.Label =
    (before < h.count) × ((name : List ℕ) (text : Option (List ℕ)) → HasName form.label name text → ⊥)
IsFormFault features h before bytes form line_faults.NoState =
    (before < h.count) × ((name : List ℕ) × (text : Option (List ℕ)) × HasName form.label name text) ×
    (HasStates h.states form → ⊥)
IsFormFault features h before bytes form (line_faults.Guard at fault) =
    (before < h.count) × IsGuardFault features h.states bytes form at fault

-- a line without a form, or with a form that is refused
abbrev pub IsLineFault : List (List ℕ) → Header → ℕ → List ℕ → LineFault → Type 0
IsLineFault features h before bytes line_faults.Syntax = (form : Form) → SpellsForm bytes form → ⊥
IsLineFault features h before bytes kind =
    (form : Form) × SpellsForm bytes form × IsFormFault features h before bytes form kind

-- these lines up to a header that is not refused, and transitions after it
pub record AreLinesOf (features : List (List ℕ)) (ls : List (List ℕ)) (number : ℕ) (h : Header)
    (ts : List Transition) : Type 0 where
  pub blanks : List (List ℕ)
  pub header : List ℕ
  pub others : List (List ℕ)
  pub lines_are : ls ≡ blanks ++ header ∷ others
  pub blank : kept blanks ≡ []
  pub written : not_blank header ≡ true
  pub number_is : number ≡ length blanks + 1
  pub header_is : SpellsHeader header h
  pub within : IsWithin h
  pub first_below : h.first < h.states
  pub names : List (List ℕ)
  pub few : length ts ≤ h.count
  pub others_are : AreTransitions features h.states [] (kept others) ts names

-- the fault of a text whose line is refused so
abbrev pub fault_at : ℕ → LineFault → SystemFault
fault_at line line_faults.Syntax = faults.Syntax line
fault_at line line_faults.WrongCount = faults.WrongCount line
fault_at line line_faults.Label = faults.Label line
fault_at line line_faults.NoState = faults.NoState line
fault_at line (line_faults.Guard at fault) = faults.Guard line at fault

-- each line is blank
pub record IsAllBlank (ls : List (List ℕ)) (fault : SystemFault) : Type 0 where
  pub blank : kept ls ≡ []
  pub fault_is : fault ≡ faults.NoHeader (max 1 (length ls))

-- the first line that is not blank is refused
pub record IsFaultAtHeader (ls : List (List ℕ)) (fault : SystemFault) : Type 0 where
  pub before : List (List ℕ)
  pub bytes : List ℕ
  pub after : List (List ℕ)
  pub lines_are : ls ≡ before ++ bytes ∷ after
  pub blank : kept before ≡ []
  pub written : not_blank bytes ≡ true
  pub header : IsHeaderFault bytes (length before + 1) fault

-- a line below the header is refused, and none before it
pub record IsFaultBelow (features : List (List ℕ)) (ls : List (List ℕ)) (fault : SystemFault) : Type 0 where
  pub before : List (List ℕ)
  pub bytes : List ℕ
  pub after : List (List ℕ)
  pub lines_are : ls ≡ before ++ bytes ∷ after
  pub written : not_blank bytes ≡ true
  pub number : ℕ
  pub h : Header
  pub ts : List Transition
  pub before_are : AreLinesOf features before number h ts
  pub kind : LineFault
  pub refused : IsLineFault features h (length ts) bytes kind
  pub fault_is : fault ≡ fault_at (length before + 1) kind

-- no line is refused, but there are too few
pub record HasTooFew (features : List (List ℕ)) (ls : List (List ℕ)) (fault : SystemFault) : Type 0 where
  pub number : ℕ
  pub h : Header
  pub ts : List Transition
  pub lines_are : AreLinesOf features ls number h ts
  pub fewer : length ts < h.count
  pub fault_is : fault ≡ faults.WrongCount number

-- the first line of a text that has a fault, with its first fault, or that there are too few lines; or memory ran out
abbrev pub IsFirstFault : List (List ℕ) → List ℕ → SystemFault → Type 0
IsFirstFault features text fault =
    (fault ≡ faults.Memory) ⊎ (IsAllBlank (lines text) fault ⊎ (IsFaultAtHeader (lines text) fault ⊎
    (IsFaultBelow features (lines text) fault ⊎ HasTooFew features (lines text) fault)))
