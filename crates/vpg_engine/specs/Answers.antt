-- The calls that commands make at a desk, and the texts of its replies. Looks at the page are defined in
-- `specs/Requests`.
use Rattle.std.specs.Prelude.{◌≡◌, ◌⊎◌, ℕ, ◌+◌, ◌<◌, ◌≤◌, Bool, true, false, if◌then◌else◌, List, [], ◌∷◌, ◌++◌, length, map, sum, Option, Some, None, Result, Ok, Err, slice_index, codes, ⊤}
use Rattle.vpg_guards.specs.declared.tri.Tri.{Tri}
use Rattle.vpg_features.specs.Names.{index_of}
use Rattle.vpg_guards.specs.Known.{kleene}
use Rattle.vpg_partial.specs.TableLaws.{IsKnownTable}
use Rattle.vpg_sides.specs.declared.verdict.Verdict.{Verdict}
use Rattle.vpg_measure.specs.Lifts.{raised}
use Rattle.vpg_measure.specs.Orders.{other_table}
use Rattle.vpg_measure.specs.TwoGames.{levels_for, arena_for}
use Rattle.vpg_trail.specs.Page.{Which, Hopeful, Dual, Decision, Entry, literal_of, table_of}
use Rattle.vpg_desk.specs.Book.{Family, Harvest, Call, Decide, Retract, Reset, Undo, Redo, Keep, Forget, Order, Commit, Settled, Page, Reply, Changed, Undone, Redone, Spent, Ordered, Added, IsSettled, PageIs, Refused}
use Rattle.vpg_faults.specs.declared.refusal.Refusal.{Refusal}
use Rattle.vpg_faults.specs.declared.refusal.Refusal.TheVariants.{UnknownFeature, AlreadyDecided, Conflict, TooManyChanges, NotDecided, Sealed, NotNewest, Overtaken, NotNext, OtherGame, Outdated}
use Rattle.vpg_desk.specs.History.{Event}
use Rattle.vpg_desk.specs.Lawful.{IsLawful, harvested}
use Rattle.vpg_desk.specs.Setting.{Setting}
use Rattle.vpg_desk.specs.Desk.{family_of}
use Rattle.vpg_engine.specs.Held.{Held, undo_meant, redo_meant, harvest_kept, after_change, after_undo, after_redo, after_keep, after_forget, with_harvest, without_harvest, with_seen}
use Rattle.vpg_script.specs.Script as script
use Rattle.vpg_script.specs.Answer.{Answer, done, refused}
use Rattle.vpg_texts.specs.Text.{blank_number, blank_name}
use Rattle.vpg_texts.specs.Scene.{Scene, table_in}
use Rattle.vpg_texts.specs.Changed.{changed_text, verdicts_by}
use Rattle.vpg_texts.specs.Sights as sights
use Rattle.vpg_why.specs.declared.question.Limits.{Limits}
use Rattle.vpg_answers.specs.declared.topic.Missing.{Missing}
use Rattle.vpg_answers.specs.declared.topic.Missing.TheVariants as missings
use Rattle.vpg_engine.specs.Setting.{setting_in}

-- ---- the texts of replies

abbrev pub line_of : List ℕ → List ℕ
line_of text = text ++ 10 ∷ []

-- a word, a blank and a number
abbrev pub numbered : List ℕ → ℕ → List ℕ
numbered word n = line_of (word ++ blank_number n)

-- the answer to a line with a call that a full log doesn't take
abbrev pub full_log : Answer
full_log = refused (codes "LogFull")

abbrev pub refusal_text : List (List ℕ) → Refusal → List ℕ
refusal_text names UnknownFeature = codes "UnknownFeature"
refusal_text names (AlreadyDecided s) = codes "AlreadyDecided" ++ blank_number s
refusal_text names (Conflict f) = codes "Conflict" ++ blank_name names f
refusal_text names TooManyChanges = codes "TooManyChanges"
refusal_text names NotDecided = codes "NotDecided"
refusal_text names Sealed = codes "Sealed"
refusal_text names (NotNewest s) = codes "NotNewest" ++ blank_number s
refusal_text names Overtaken = codes "Overtaken"
refusal_text names (NotNext s) = codes "NotNext" ++ blank_number s
refusal_text names OtherGame = codes "OtherGame"
refusal_text names (Outdated f) = codes "Outdated" ++ blank_name names f

abbrev pub settled_text : Bool → ℕ → List ℕ
settled_text settled n = numbered (if settled then codes "settled" else codes "unsettled") n

-- ---- what commands ask

-- A reason to refuse a line without a call. The diagram lacks a name, the game lacks a vertex, a token or a harvest
-- isn't held, or a trace has no system.
pub data Own : Type 0 where
  NoFeature : Own
  NoToken : Own
  NoHarvest : Own
  NoVertex : Own
  NoSystem : Own

-- the word for a reason to refuse a line without a call
abbrev pub own_text : Own → List ℕ
own_text NoFeature = codes "UnknownFeature"
own_text NoToken = codes "NoToken"
own_text NoHarvest = codes "NoHarvest"
own_text NoVertex = codes "NoVertex"
own_text NoSystem = codes "NoSystem"

-- the vertex that a line names
abbrev pub vertex_of : Scene → script.Vertex → Option ℕ
vertex_of scene vertex = sights.vertex_of scene.identifiers vertex

abbrev pub call_or : {X : Type 0} → Own → (X → Call) → Option X → Result Call Own
call_or own call None = Err own
call_or own call (Some x) = Ok (call x)

-- the reason to refuse a look for which this is missing
abbrev pub own_of : Missing → Own
own_of missings.Vertex = NoVertex
own_of missings.Feature = NoFeature
own_of missings.System = NoSystem

-- It isn't a look at the page.
abbrev pub IsOwn : script.Command → Type 0
IsOwn (script.Looks look) = ⊥
IsOwn _ = ⊤

-- The first call of a command, or why there is none. (Of a look, `specs/Requests` says it.)
abbrev pub first_call : Scene → Held → script.Command → Result Call Own
first_call scene held (script.Select name) = call_or NoFeature (λ f. Decide f true) (index_of scene.names name)
first_call scene held (script.Exclude name) = call_or NoFeature (λ f. Decide f false) (index_of scene.names name)
first_call scene held (script.Retract name) = call_or NoFeature Retract (index_of scene.names name)
first_call scene held script.Reset = Ok Reset
first_call scene held (script.Undo s) = call_or NoToken Undo (undo_meant held.undos s)
first_call scene held (script.Redo s) = call_or NoToken Redo (redo_meant held.redos s)
first_call scene held (script.Keep s) = call_or NoToken Keep (undo_meant held.undos (Some s))
first_call scene held (script.Forget s) = call_or NoToken Forget (redo_meant held.redos (Some s))
first_call scene held (script.Lift table vertex) = call_or NoVertex (λ v. Order) (vertex_of scene vertex)
first_call scene held script.Harvest = Ok Order
first_call scene held (script.Commit k) = call_or NoHarvest Commit (harvest_kept held.harvests k)
first_call scene held (script.Settle n) = Ok Order
first_call scene held script.Changed = Ok Page
first_call scene held (script.Looks look) = Ok Page

-- ---- harvests that lines make

-- a harvest of the order in the reply: lawful, with one value for each vertex, on or above its tables
pub record IsOf (family : Family) (decisions : List Decision) (hopeful dual : List ℕ) (made : Harvest) : Type 0 where
  pub of_this_desk : made.is_of_this_desk ≡ true
  pub same_decisions : made.decisions ≡ decisions
  pub lawful : IsLawful family made
  pub hopeful_len : length made.hopeful ≡ family.vertices
  pub dual_len : length made.dual ≡ family.vertices
  pub hopeful_above : (v : ℕ) → v < family.vertices → slice_index hopeful v ≤ slice_index made.hopeful v
  pub dual_above : (v : ℕ) → v < family.vertices → slice_index dual v ≤ slice_index made.dual v

-- both its tables are progress tables
abbrev pub Checks : Family → Harvest → Type 0
Checks family made =
    family.IsProgress (map literal_of made.decisions) Hopeful made.hopeful ×
    family.IsProgress (map literal_of made.decisions) Dual made.dual

-- Sweeps may make any such harvest, but the sum of one that doesn't check exceeds that of the order's tables by at
-- least the number of sweeps.
pub record IsSwept (family : Family) (sweeps : ℕ) (decisions : List Decision) (hopeful dual : List ℕ)
    (made : Harvest) : Type 0 where
  pub of_order : IsOf family decisions hopeful dual made
  pub moved : ¬ (Checks family made) → sum hopeful + sum dual + sweeps ≤ sum made.hopeful + sum made.dual

-- the order's tables with one vertex of one table lifted once, if that is greater
pub record IsLifted (setting : Setting) (table : Which) (v : ℕ) (decisions : List Decision) (hopeful dual : List ℕ)
    (made : Harvest) : Type 0 where
  pub of_order : IsOf (family_of setting) decisions hopeful dual made
  pub known : List Tri
  pub known_is : IsKnownTable setting.lines (map literal_of decisions) known
  pub lifted : harvested made table
      ≡ raised (levels_for table setting.game) (arena_for (kleene known) table setting.game)
      (table_in hopeful dual table) v
  pub other_stays : harvested made (other_table table) ≡ table_in hopeful dual (other_table table)

abbrev pub most_sweeps : ℕ
most_sweeps = 1000000

abbrev pub sweeps_of : Option ℕ → ℕ
sweeps_of None = most_sweeps
sweeps_of (Some n) = n

-- ---- a line

-- how many calls the log of a run's office takes
abbrev pub room : ℕ
room = 1048576

-- what may come after a reply: further calls, the line's answer, and what is held then
abbrev pub Rest : Type 1
Rest = List Event → Answer → Held → Type 0

-- no further call
abbrev pub Ends : Answer → Held → Rest
Ends answer held calls given new = (calls ≡ []) × (given ≡ answer) × (new ≡ held)

-- A refused call answers the line, and leaves what is held as it was; else what follows the reply.
abbrev pub Follows : Scene → Held → (Reply → Rest) → Reply → Rest
Follows scene held P (Refused r) calls answer new = Ends (refused (refusal_text scene.names r)) held calls answer new
Follows scene held P reply calls answer new = P reply calls answer new

-- one call more under the label, and what follows its reply
abbrev pub Makes : Scene → Held → ℕ → Call → (Reply → Rest) → Rest
Makes scene held label call P [] answer new = ⊥
Makes scene held label call P (e ∷ calls) answer new =
    (e.session ≡ label) × (e.call ≡ call) × Follows scene held P e.reply calls answer new

-- `made` calls were made before. If they are fewer than the room, the call is made. Else the log is full: that is the
-- answer, and what is held stays as it was.
abbrev pub Asks : Scene → Held → (made : ℕ) → ℕ → Call → (Reply → Rest) → Rest
Asks scene held made label call P calls answer new =
    ((made < room) × Makes scene held label call P calls answer new) ⊎
    ((room ≤ made) × Ends full_log held calls answer new)

-- ---- after a line's replies

abbrev pub TellsSettled : Held → ℕ → Reply → Rest
TellsSettled held n (IsSettled b) calls answer new = Ends (done (settled_text b n)) held calls answer new
TellsSettled held n _ calls answer new = ⊥

-- after the commit of a settle
abbrev pub AsksSettled : Scene → Held → (made : ℕ) → ℕ → Reply → Rest
AsksSettled scene held made label (Added n) calls answer new =
    Asks scene held made label Settled (TellsSettled held n) calls answer new
AsksSettled scene held made label _ calls answer new = ⊥

-- after another commit
abbrev pub TellsAdded : Held → Reply → Rest
TellsAdded held (Added n) calls answer new = Ends (done (numbered (codes "added") n)) held calls answer new
TellsAdded held _ calls answer new = ⊥

-- an order is swept, and the harvest is committed
abbrev pub Sweeps : Scene → Held → (made : ℕ) → ℕ → ℕ → Reply → Rest
Sweeps scene held made label sweeps (Ordered decisions hopeful dual) calls answer new =
    (harvest : Harvest) × IsSwept (family_of (setting_in scene)) sweeps decisions hopeful dual harvest
    × Asks scene held made label (Commit harvest) (AsksSettled scene held (made + 1) label) calls answer new
Sweeps scene held made label sweeps _ calls answer new = ⊥

-- an order is swept, and the harvest is kept
abbrev pub Keeps : Scene → Held → Reply → Rest
Keeps scene held (Ordered decisions hopeful dual) calls answer new =
    (made : Harvest) × IsSwept (family_of (setting_in scene)) most_sweeps decisions hopeful dual made
    × Ends (done (numbered (codes "harvest") (length held.harvests + 1))) (with_harvest held made) calls answer new
Keeps scene held _ calls answer new = ⊥

-- a vertex of an order is lifted, and the harvest is committed
abbrev pub Lifts : Scene → Held → (made : ℕ) → ℕ → Which → script.Vertex → Reply → Rest
Lifts scene held made label table vertex (Ordered decisions hopeful dual) calls answer new =
    (v : ℕ) × (harvest : Harvest) × (vertex_of scene vertex ≡ Some v) ×
    IsLifted (setting_in scene) table v decisions hopeful dual harvest
    × Asks scene held made label (Commit harvest) (TellsAdded held) calls answer new
Lifts scene held made label table vertex _ calls answer new = ⊥

abbrev pub TellsChanged : Held → Reply → Rest
TellsChanged held (Changed s) calls answer new =
    Ends (done (numbered (codes "done") s)) (after_change held s) calls answer new
TellsChanged held _ calls answer new = ⊥

abbrev pub TellsUndone : Held → Reply → Rest
TellsUndone held (Undone s) calls answer new =
    Ends (done (numbered (codes "undone") s)) (after_undo held s) calls answer new
TellsUndone held _ calls answer new = ⊥

abbrev pub TellsRedone : Held → Reply → Rest
TellsRedone held (Redone s) calls answer new =
    Ends (done (numbered (codes "redone") s)) (after_redo held s) calls answer new
TellsRedone held _ calls answer new = ⊥

-- the reply says that a token is spent, and the line has this answer
abbrev pub TellsSpent : Answer → Held → Reply → Rest
TellsSpent answer held Spent calls given new = Ends answer held calls given new
TellsSpent answer held _ calls given new = ⊥

-- ---- texts of a page

-- the limits of an answer
abbrev pub answer_limits : Limits
answer_limits = record { budget = 134217728; rounds = 1000; trials = 10000 }

-- the verdict of each vertex on a page
abbrev pub verdicts_on : Scene → List Entry → List Verdict
verdicts_on scene page =
    verdicts_by scene.game (table_of Hopeful page (length scene.game)) (table_of Dual page (length scene.game))

-- The answer compares the page's verdicts with those held as seen, and takes their place there.
abbrev pub TellsVerdicts : Scene → Held → Reply → Rest
TellsVerdicts scene held (PageIs page) calls answer new =
    Ends (done (changed_text scene.identifiers scene.labels held.seen (verdicts_on scene page)))
    (with_seen held (verdicts_on scene page)) calls answer new
TellsVerdicts scene held _ calls answer new = ⊥

-- the rest after the reply to a command's first call, with `made` calls made by then
abbrev pub Continues : Scene → Held → (made : ℕ) → ℕ → script.Command → Reply → Rest
Continues scene held made label (script.Select name) reply calls answer new = TellsChanged held reply calls answer new
Continues scene held made label (script.Exclude name) reply calls answer new = TellsChanged held reply calls answer new
Continues scene held made label (script.Retract name) reply calls answer new = TellsChanged held reply calls answer new
Continues scene held made label script.Reset reply calls answer new = TellsChanged held reply calls answer new
Continues scene held made label (script.Undo s) reply calls answer new = TellsUndone held reply calls answer new
Continues scene held made label (script.Redo s) reply calls answer new = TellsRedone held reply calls answer new
Continues scene held made label (script.Keep s) reply calls answer new =
    TellsSpent (done (numbered (codes "kept") s)) (after_keep held s) reply calls answer new
Continues scene held made label (script.Forget s) reply calls answer new =
    TellsSpent (done (numbered (codes "forgotten") s)) (after_forget held s) reply calls answer new
Continues scene held made label (script.Lift table vertex) reply calls answer new =
    Lifts scene held made label table vertex reply calls answer new
Continues scene held made label script.Harvest reply calls answer new = Keeps scene held reply calls answer new
Continues scene held made label (script.Commit k) reply calls answer new =
    TellsAdded (without_harvest held k) reply calls answer new
Continues scene held made label (script.Settle n) reply calls answer new =
    Sweeps scene held made label (sweeps_of n) reply calls answer new
Continues scene held made label script.Changed reply calls answer new = TellsVerdicts scene held reply calls answer new
Continues scene held made label (script.Looks look) reply calls answer new = ⊥

-- The line begins with this call and has this rest after its reply, or is refused without a call. `made` calls were
-- made before.
abbrev pub Begins : Scene → Held → (made : ℕ) → ℕ → (Reply → Rest) → Result Call Own → Rest
Begins scene held made label P (Err own) calls answer new = Ends (refused (own_text own)) held calls answer new
Begins scene held made label P (Ok call) calls answer new = Asks scene held made label call P calls answer new
