-- Runs with each settle answered `settled`, no doubt in an answer about the page, and each harvest that a line keeps
-- passing `check`.
use Rattle.std.specs.Prelude.{◌≡◌, ℕ, List, IfSome, Option, Some, Result, Ok, true, ⊤}
use Rattle.std.specs.List.{AllByRecursion}
use Rattle.vpg_answers.specs.Told.{IsDoubtful}
use Rattle.vpg_answers.specs.Topics.{Topic, topic_of}
use Rattle.vpg_desk.specs.Desk.{family_of}
use Rattle.vpg_engine.specs.Answers.{Checks, settled_text}
use Rattle.vpg_engine.specs.Held.{Held}
use Rattle.vpg_script.specs.Answer.{Answer}
use Rattle.vpg_script.specs.Output.{Machine, Answered}
use Rattle.vpg_report.specs.Output.{Outcome}
use Rattle.vpg_report.specs.Results.{IsThrough}
use Rattle.vpg_engine.specs.Line.{Between, begun}
use Rattle.vpg_report.specs.Run.{calling, as_meant}
use Rattle.vpg_checking.specs.Behaviours.{Behaviour}
use Rattle.vpg_script.specs.Script as script
use Rattle.vpg_script.specs.Script.{Request}
use Rattle.vpg_texts.specs.Scene.{Scene}
use Rattle.vpg_script.specs.declared.fault.RunFault.{RunFault}
use Rattle.vpg_engine.specs.Setting.{setting_in}

-- A settle is answered `settled`, and a look at the page without a doubt: no limit was met.
abbrev pub TellsSettle : Option Behaviour → Scene → script.Command → Answer → Type 0
TellsSettle behaviour scene (script.Settle sweeps) answer = (n : ℕ) × (answer.text ≡ settled_text true n)
TellsSettle behaviour scene (script.Looks look) answer =
    (topic : Topic) → topic_of behaviour scene look ≡ Ok topic → ¬ (IsDoubtful topic answer)
TellsSettle behaviour scene _ answer = ⊤

-- each harvest that is held passes `check`
abbrev pub AreChecked : Scene → Held → Type 0
AreChecked scene held = AllByRecursion (λ h. IfSome h (Checks (family_of (setting_in scene)))) held.harvests

-- It answers, and so far each settle was answered `settled`, no answer about the page had a doubt, and each harvest
-- that a line keeps passes `check`.
abbrev pub settling : Option Behaviour → Scene → Machine Between
settling behaviour scene old request answer new =
    calling behaviour scene old request answer new × TellsSettle behaviour scene request.command answer
    × AreChecked scene new.held

-- In such runs the answers (their tones and texts), the book, the calls and what is held are one function of the scene,
-- the lines and their meaning, whichever lawful harvests the lines made.
abbrev pub SettledAnswersAreOne : Type 0
SettledAnswersAreOne =
    (meaning : Request → Request) (behaviour : Option Behaviour) (scene : Scene) (lines : List (List ℕ))
    (answers others : List Answer) (new newer : Between) →
    Answered (as_meant meaning (settling behaviour scene)) begun lines answers new →
    Answered (as_meant meaning (settling behaviour scene)) begun lines others newer →
    (answers ≡ others) × (new ≡ newer)

-- So are the text that a run writes and its result, if it goes through a known script. (It was opened then, so no cause
-- of a refusal matters.)
abbrev pub SettledRunsAreOne : Type 0
SettledRunsAreOne =
    (meaning : Request → Request) (behaviour : Option Behaviour) (scene : Scene) (script before after later : List ℕ)
    (left rest : Option (List ℕ)) (result other : Result (Unit {0}) RunFault) →
    IsThrough result →
    Outcome (as_meant meaning (settling behaviour scene)) (λ _. ⊤) begun (Some script) left (Some before) (Some after)
    result →
    IsThrough other →
    Outcome (as_meant meaning (settling behaviour scene)) (λ _. ⊤) begun (Some script) rest (Some before) (Some later)
    other →
    (after ≡ later) × (result ≡ other)
