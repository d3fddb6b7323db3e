-- The results of reading a line, for the contracts of private functions. This project's own.
use Rattle.std.specs.Prelude.{ℕ, ◌≡◌, ◌≢◌, ◌+◌, ◌<◌, ◌≤◌, List, Option, None, Err, Result, ◌⊎◌, ⊤}
use Rattle.vpg_guards.specs.declared.fault.GuardFault.{GuardFault}
use Rattle.vpg_guards.specs.declared.fault.GuardFault.TheVariants as guard_faults
use Rattle.vpg_system.specs.SystemText.{NamedSystem, Header}
use Rattle.vpg_system.specs.SystemReading.{Refusal, NoForm, Beyond, NoLabel, NotState, NoGuard, Fault, NoHeader, TooMany, NoFirst, TooFew, At, Seen, guard_place, after_header, read_lines, nothing}
use Rattle.std.specs.Str.Lines.{lines}
use Rattle.vpg_guards.specs.Formula.{Formula}
use Rattle.vpg_system.specs.SystemView.{transitions_of}
use Rattle.vpg_system.specs.declared.fault.SystemFault.{SystemFault}
use Rattle.vpg_system.specs.declared.fault.SystemFault.TheVariants as faults
use Rattle.vpg_system.specs.declared.fault.LineFault.{LineFault}
use Rattle.vpg_system.specs.declared.fault.LineFault.TheVariants as line_faults
use Rattle.vpg_system.specs.declared.fault.LineError.{LineError}
use Rattle.vpg_system.specs.declared.fault.LineError.TheVariants.{Memory, Refused}
use Rattle.vpg_system.specs.declared.reading.Reader.{Reader}

abbrev pub seen_in : Reader → Seen
seen_in r = record { names = r.actions; transitions = transitions_of r.transitions.items }

-- the refusal of a line, as the code has it
abbrev pub IsRefusal : Refusal → LineFault → Type 0
IsRefusal NoForm kind = kind ≡ line_faults.Syntax
IsRefusal Beyond kind = kind ≡ line_faults.WrongCount
IsRefusal NoLabel kind = kind ≡ line_faults.Label
IsRefusal NotState kind = kind ≡ line_faults.NoState
IsRefusal (NoGuard at) kind = (fault : GuardFault) × (fault ≢ guard_faults.Memory) × (kind ≡ line_faults.Guard at fault)

-- why a line is not read
abbrev pub IsLineError : Result Seen Refusal → LineError → Type 0
IsLineError read Memory = ⊤
IsLineError read (Refused kind) = (refusal : Refusal) × (read ≡ Err refusal) × IsRefusal refusal kind

-- the fault of a text, as the code has it
abbrev pub IsFaultOf : Fault → SystemFault → Type 0
IsFaultOf (NoHeader line) e = e ≡ faults.NoHeader line
IsFaultOf (TooMany line) e = e ≡ faults.TooMany line
IsFaultOf (NoFirst line) e = e ≡ faults.NoState line
IsFaultOf (TooFew line) e = e ≡ faults.WrongCount line
IsFaultOf (At line NoForm) e = e ≡ faults.Syntax line
IsFaultOf (At line Beyond) e = e ≡ faults.WrongCount line
IsFaultOf (At line NoLabel) e = e ≡ faults.Label line
IsFaultOf (At line NotState) e = e ≡ faults.NoState line
IsFaultOf (At line (NoGuard at)) e =
    (fault : GuardFault) × (fault ≢ guard_faults.Memory) × (e ≡ faults.Guard line at fault)

-- memory ran out, or this is the fault of the reading
abbrev pub IsReadingFault : Result NamedSystem Fault → SystemFault → Type 0
IsReadingFault read e = (e ≡ faults.Memory) ⊎ ((fault : Fault) × (read ≡ Err fault) × IsFaultOf fault e)

-- why a guard is not read
abbrev pub IsGuardError : Option Formula → List ℕ → LineError → Type 0
IsGuardError read bytes Memory = ⊤
IsGuardError read bytes (Refused kind) = (read ≡ None) × IsRefusal (NoGuard (guard_place bytes)) kind

-- a header that is not refused
pub record IsGoodHeader (h : Header) : Type 0 where
  pub few_states : h.states ≤ 65536
  pub few_transitions : h.count ≤ 1048576
  pub first_below : h.first < h.states

-- why a header is refused
abbrev pub IsHeaderError : Option Header → ℕ → SystemFault → Type 0
IsHeaderError found number e = (e ≡ faults.Memory) ⊎
    ((fault : Fault) × ((features : List (List ℕ)) (rest : List (List ℕ)) →
    after_header features number found rest ≡ Err fault) × IsFaultOf fault e)

-- the reading of a text that has this header at a line, and this text after it
abbrev pub behind_header : List (List ℕ) → Header → ℕ → List ℕ → Result NamedSystem Fault
behind_header features h number behind = read_lines features h number (number + 1) (lines behind) nothing

-- why a line is not read, if its guard at a place is not read
abbrev pub guard_error : ℕ → GuardFault → LineError
guard_error at guard_faults.Memory = Memory
guard_error at (guard_faults.Syntax k) = Refused (line_faults.Guard at (guard_faults.Syntax k))
guard_error at (guard_faults.UnknownFeature k) = Refused (line_faults.Guard at (guard_faults.UnknownFeature k))
guard_error at (guard_faults.TooDeep k) = Refused (line_faults.Guard at (guard_faults.TooDeep k))
