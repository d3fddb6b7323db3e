-- The calls that requests make at a desk and the texts of its replies, also of looks at the page.
use Rattle.std.specs.Prelude.{◌≡◌, ℕ, ◌+◌, if◌then◌else◌, List, [], length, Option, Result, Ok, Err}
use Rattle.vpg_trail.specs.Page.{Hopeful, Dual, Entry, decisions_of, table_of}
use Rattle.vpg_desk.specs.Book.{Call, Order, Page, Reply, Ordered, PageIs}
use Rattle.vpg_engine.specs.Answers as commands
use Rattle.vpg_engine.specs.Answers.{Own, Rest, answer_limits, own_of}
use Rattle.vpg_engine.specs.Held.{Held}
use Rattle.vpg_script.specs.Script as script
use Rattle.vpg_script.specs.Script.{Request}
use Rattle.vpg_texts.specs.Scene.{Scene}
use Rattle.vpg_checking.specs.Behaviours.{Behaviour}
use Rattle.vpg_looks.specs.Meanings.{Sight, ordered_sight}
use Rattle.vpg_answers.specs.Told.{IsTold}
use Rattle.vpg_answers.specs.Topics.{Topic, takes_order, topic_of}
use Rattle.vpg_answers.specs.declared.topic.Missing.{Missing}

-- the call of a look: for an order, or for the page
abbrev pub call_for : Topic → Call
call_for topic = if takes_order topic then Order else Page

-- the call of a look, or what is missing for it
abbrev pub call_or_missing : Result Topic Missing → Result Call Own
call_or_missing (Err missing) = Err (own_of missing)
call_or_missing (Ok topic) = Ok (call_for topic)

-- the first call of a command, or why there is none
abbrev pub first_call : Option Behaviour → Scene → Held → script.Command → Result Call Own
first_call behaviour scene held (script.Looks look) = call_or_missing (topic_of behaviour scene look)
first_call behaviour scene held command = commands.first_call scene held command

-- what is seen of a page with these entries
abbrev pub sight_on : Scene → List Entry → Sight
sight_on scene page =
    record {
      entries = page;
      decisions = decisions_of page;
      hopeful = table_of Hopeful page (length scene.game);
      dual = table_of Dual page (length scene.game);
    }

-- The answer is that of the look on this page, and ends the line.
abbrev pub TellsSight : Option Behaviour → Scene → Held → script.Look → Sight → Rest
TellsSight behaviour scene held look page calls answer new =
    ((topic : Topic) ×
    ((topic_of behaviour scene look ≡ Ok topic) × IsTold behaviour scene answer_limits topic page answer)) ×
    (calls ≡ []) × (new ≡ held)

-- a look is answered from the page, or from an order
abbrev pub TellsLook : Option Behaviour → Scene → Held → script.Look → Reply → Rest
TellsLook behaviour scene held look (PageIs page) calls answer new =
    TellsSight behaviour scene held look (sight_on scene page) calls answer new
TellsLook behaviour scene held look (Ordered decisions hopeful dual) calls answer new =
    TellsSight behaviour scene held look (ordered_sight decisions hopeful dual) calls answer new
TellsLook behaviour scene held look _ calls answer new = ⊥

-- the rest after the reply to a command's first call, with `made` calls made by then
abbrev pub Continues : Option Behaviour → Scene → Held → (made : ℕ) → ℕ → script.Command → Reply → Rest
Continues behaviour scene held made label (script.Looks look) reply calls answer new =
    TellsLook behaviour scene held look reply calls answer new
Continues behaviour scene held made label command reply calls answer new =
    commands.Continues scene held made label command reply calls answer new

abbrev pub Begins : Option Behaviour → Scene → Held → (made : ℕ) → ℕ → script.Command → Result Call Own → Rest
Begins behaviour scene held made label command first calls answer new =
    commands.Begins scene held made label (Continues behaviour scene held (made + 1) label command) first calls answer
    new

-- With this held and `made` calls made before, the request makes these calls with these replies, has this answer, and
-- leaves this held.
abbrev pub Serves : Option Behaviour → Scene → Held → (made : ℕ) → Request → Rest
Serves behaviour scene held made request calls answer new =
    Begins behaviour scene held made request.label request.command (first_call behaviour scene held request.command)
    calls answer new
