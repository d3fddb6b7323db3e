-- Why calls of sessions are not made.
use Rattle.std.specs.Prelude.{◌≡◌, ℕ, ◌<◌, ◌≤◌, Bool, true, List, length, drop, Option, Some, ⊤}
use mathlib.Core.List.{IsPrefix}
use Rattle.std.specs.Bool.{Decides}
use Rattle.vpg_diagram.specs.DiagramText.{NamedDiagram}
use Rattle.vpg_game.specs.Game.{NamedGame}
use Rattle.vpg_measure.specs.Orders.{HarvestView}
use Rattle.vpg_desk.specs.Book.{Family, Call, Commit, Refused}
use Rattle.vpg_faults.specs.declared.refusal.Refusal.{Refusal}
use Rattle.vpg_desk.specs.Commit.{handed_in}
use Rattle.vpg_faults.specs.Refusals.{commit_refusal}
use Rattle.vpg_faults.specs.declared.fault.CommitFault.{CommitFault}
use Rattle.vpg_desk.specs.History.{Event}
use Rattle.vpg_office.specs.Fronts.{IsHistory, Extends, Overtakes, calls_by, family_between}
use Rattle.vpg_office.specs.Story.{IsOf}
use Rattle.vpg_office.specs.declared.fault.Fault.{Fault}
use Rattle.vpg_office.specs.declared.fault.Fault.TheVariants.{LogFull, Doubled, Refused as DeskRefuses, Memory}

-- the log and the session's front if a call is stopped before the desk
abbrev pub Stops : {L F : Type 0} → ℕ → List Event → ℕ → List Event → Fault L F → Type 0
Stops limit front session log (LogFull f) = (f ≡ log) × (limit ≤ length log) × (length log ≤ limit)
Stops limit front session log (Doubled f) =
    (f ≡ log) × (length log < limit) × (0 < calls_by session (drop (length front) log))
Stops limit front session log (DeskRefuses fault) = ⊥
Stops limit front session log Memory = ⊤

-- A call with this front returns a fault and leaves the new front. The desk's own refusal is logged, and has this
-- meaning. Else the front stays: the log is full, or it has room and a further call of this session, or memory ran out.
abbrev pub TellsOf : {L F : Type 0} → Family → ℕ → (F → Option Refusal) → (Refusal → Type 0) → ℕ → List Event →
    List Event → Fault L F → Type 0
TellsOf family limit refusal Means session front new (LogFull f) =
    (new ≡ front) × IsPrefix front f × (length f ≡ limit) × IsHistory family f
TellsOf family limit refusal Means session front new (Doubled f) =
    (new ≡ front) × (length f < limit) × Overtakes family front session f
TellsOf family limit refusal Means session front new (DeskRefuses fault) =
    (r : Refusal) × ((refusal fault ≡ Some r) × Means r)
TellsOf family limit refusal Means session front new Memory = new ≡ front

-- As `TellsOf`: the desk refused this call.
abbrev pub Tells : {L F : Type 0} → Family → ℕ → (F → Option Refusal) → Call → ℕ → List Event → List Event → Fault L F →
    Type 0
Tells family limit refusal call session front new fault =
    TellsOf family limit refusal (λ r. Extends family front session call (Refused r) new) session front new fault

-- As `Tells`, for a commit: the desk's own refusal says whether the harvest is of the office's game and diagram.
abbrev pub CommitTells : {L : Type 0} → NamedGame → NamedDiagram → ℕ → HarvestView → ℕ → List Event → List Event →
    Fault L CommitFault → Type 0
CommitTells {L} game diagram limit harvest session front new (DeskRefuses fault) =
    (b : Bool) ×
    (Decides b (IsOf game diagram harvest.order) ×
    Tells {L = L} (family_between game diagram) limit commit_refusal (Commit (handed_in b harvest)) session front new
    (DeskRefuses fault))
CommitTells {L} game diagram limit harvest session front new fault =
    Tells (family_between game diagram) limit commit_refusal (Commit (handed_in true harvest)) session front new fault

-- each refusal that the fault stands for has this meaning
abbrev pub RefusedFor : {L F : Type 0} → (F → Option Refusal) → (Refusal → Type 0) → Fault L F → Type 0
RefusedFor refusal Means (DeskRefuses fault) = (r : Refusal) → refusal fault ≡ Some r → Means r
RefusedFor refusal Means _ = ⊤

-- the fault is the desk's own, and stands for this refusal
abbrev pub StandsFor : {L F : Type 0} → (F → Option Refusal) → Refusal → Fault L F → Type 0
StandsFor refusal r (DeskRefuses fault) = refusal fault ≡ Some r
StandsFor refusal r _ = ⊥

-- how many calls of the log a call with this fault is: one if the desk refused it, else none
abbrev pub logged : {L F : Type 0} → Fault L F → ℕ
logged (DeskRefuses fault) = 1
logged _ = 0

-- after a refusal of the desk, the new front begins with the token's
abbrev pub Begins : {L F : Type 0} → List Event → List Event → Fault L F → Type 0
Begins history new (DeskRefuses fault) = IsPrefix history new
Begins history new _ = ⊤
