-- Why a client's calls are not answered. This project's own.
use Rattle.std.specs.Prelude.{◌≡◌, ◌⊎◌, ℕ, ◌+◌, List, length, Option, Some, Result, Ok, Err, ⊤}
use Rattle.vpg_desk.specs.Book as book
use Rattle.vpg_desk.specs.Book.{Call}
use Rattle.vpg_faults.specs.declared.refusal.Refusal.{Refusal}
use Rattle.vpg_desk.specs.History.{Event}
use Rattle.vpg_office.specs.declared.fault.Fault.{Fault}
use Rattle.vpg_office.specs.declared.fault.Fault.TheVariants as office
use Rattle.vpg_engine.specs.Client.{ClientState, IsLogged, HasForeignCall, IsUnseated, IsBeyond}
use Rattle.vpg_engine.specs.declared.fault.ClientFault.{ClientFault}
use Rattle.vpg_engine.specs.declared.fault.ClientFault.TheVariants.{LogFull, Refused, Stray, Memory}

-- the log grew by a call that no session of the client made, or the label's session isn't of its number
abbrev pub HasStrayed : ClientState → ℕ → ClientState → Type 0
HasStrayed old label new = HasForeignCall old new ⊎ IsUnseated old label new

-- A call strayed: the log grew by a call that no session of the client made; or the session of the label, or of one
-- before it, has another number.
abbrev pub IsAstray : ClientState → ℕ → ClientState → Type 0
IsAstray old label new = HasForeignCall old new ⊎ IsBeyond label new.unseated

-- The log is full exactly if it has as many calls as it takes; then nothing changes. The desk's own refusal is logged,
-- and has this meaning. Out of memory, nothing changes. A stray shows in the log, which grew by a call that no session
-- of the client made; or the session of the label, or of one before it, has another number. It leaves the desk's game
-- and diagram.
abbrev pub TellsOf : {F : Type 0} → ℕ → (F → Option Refusal) → (Refusal → Type 0) → ClientState → ℕ → ClientState →
    ClientFault F → Type 0
TellsOf room refusal Means old label new LogFull = (old.calls ≡ room) × (new ≡ old)
TellsOf room refusal Means old label new (Refused fault) = (r : Refusal) × ((refusal fault ≡ Some r) × Means r)
TellsOf room refusal Means old label new Stray =
    ((new.desk.game ≡ old.desk.game) × (new.desk.diagram ≡ old.desk.diagram)) × HasStrayed old label new
TellsOf room refusal Means old label new Memory = new ≡ old

-- As `TellsOf`: the desk refused this call.
abbrev pub Tells : {F : Type 0} → ℕ → (F → Option Refusal) → ClientState → ℕ → Call → ClientState → ClientFault F →
    Type 0
Tells room refusal old label call new fault =
    TellsOf room refusal (λ r. IsLogged room old label call (book.Refused r) new) old label new fault

-- each refusal that the fault stands for has this meaning
abbrev pub RefusedFor : {F : Type 0} → (F → Option Refusal) → (Refusal → Type 0) → ClientFault F → Type 0
RefusedFor refusal Means (Refused fault) = (r : Refusal) → refusal fault ≡ Some r → Means r
RefusedFor refusal Means _ = ⊤

-- this holds of every fault but a stray call
abbrev pub UnlessStray : {F : Type 0} → ClientFault F → Type 0 → Type 0
UnlessStray Stray P = ⊤
UnlessStray fault P = P

-- ---- how the office's faults are sorted

-- There is no session for the label. The first label whose session has another number isn't after it; or the client
-- is out of memory, and that first label stays the same.
abbrev pub IsAbsent : {F : Type 0} → ℕ → (old new : Option ℕ) → ClientFault F → Type 0
IsAbsent label old new Stray = IsBeyond label new
IsAbsent label old new Memory = new ≡ old
IsAbsent label old new _ = ⊥

-- the client's front after the office's fault: the log, where the fault has it
abbrev pub shown_by : {L F : Type 0} → Fault L F → List Event → List Event
shown_by (office.LogFull log) front = log
shown_by (office.Doubled log) front = log
shown_by (office.Refused fault) front = front
shown_by office.Memory front = front

-- the same after each answer
abbrev pub shown_after : {T E L F : Type 0} → Result T E → (E → Fault L F) → List Event → List Event
shown_after (Ok t) fault_of front = front
shown_after (Err e) fault_of front = shown_by (fault_of e) front

-- The client's fault for the office's, if its front had `before` calls before the call and has `now` after it. A stray
-- stands for a full log of another length, for a call of the session that its front lacks, and for a log that grew by
-- other calls than this one.
abbrev pub Sorts : {L F : Type 0} → ℕ → ℕ → Fault L F → ClientFault F → Type 0
Sorts before now (office.LogFull log) LogFull = length log ≡ before
Sorts before now (office.LogFull log) Stray = ¬ (length log ≡ before)
Sorts before now (office.Doubled log) Stray = ⊤
Sorts before now (office.Refused told) (Refused fault) = (fault ≡ told) × (now ≡ before + 1)
Sorts before now (office.Refused told) Stray = ¬ (now ≡ before + 1)
Sorts before now office.Memory Memory = ⊤
Sorts before now told fault = ⊥
