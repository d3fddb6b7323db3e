-- The answers that name winners speak of requirements.
use Rattle.std.proofs.Common.{ℕ, List, inl, inr}
use Rattle.std.specs.Prelude.{slice_index}
use Rattle.vpg_sides.specs.declared.verdict.Verdict.{Verdict}
use Rattle.vpg_diagram.specs.DiagramText.{NamedDiagram}
use Rattle.vpg_game.specs.Game.{NamedGame, graph_of}
use Rattle.vpg_trail.specs.Page.{Entry}
use Rattle.vpg_desk.specs.Headline.{VerdictMeans}
use Rattle.vpg_checking.specs.Checking.{IsModelOfTexts}
use Rattle.vpg_script.specs.Script as script
use Rattle.vpg_script.specs.Answer.{Answer}
use Rattle.vpg_texts.specs.Changed.{seen_at}
use Rattle.vpg_texts.specs.Scene.{Scene, scene_of}
use Rattle.vpg_engine.specs.Line.{Between, begun}
use Rattle.vpg_report.specs.Run.{as_meant}
use Rattle.vpg_engine.specs.Setting.{setting_in}
use Rattle.vpg_report.specs.Winners.{AreTrue, NamesWinners, naming}
use Rattle.vpg_report.proofs.Histories.{answered_as}
use Rattle.vpg_report.proofs.Winning.{answers_name_winners}
use Rattle.vpg_assured.specs.Assured.{AreTrueOfEntries, SpeaksOfEntries, speaking, AnswersSpeakOfRequirements}

true_of_entries : (labels : List (List ℕ)) (game : NamedGame) (diagram : NamedDiagram) (system_text requirements_text roots : List ℕ)
    (made : IsModelOfTexts diagram.names diagram.lines system_text requirements_text (graph_of game) roots)
    (page : List Entry) (verdicts : List Verdict) → AreTrue (scene_of labels game diagram) page verdicts →
    AreTrueOfEntries (scene_of labels game diagram) made.system made.entries roots page verdicts
true_of_entries labels game diagram system_text requirements_text roots made page verdicts are n below = record {
  fails = λ hopeless set remaining. (made.model.decided n below set).lost.1 ((means.lost hopeless).strategy, (means.lost hopeless).wins set remaining);
  holds = λ sure set remaining. (made.model.decided n below set).won.1 ((means.won sure).strategy, (means.won sure).wins set remaining);
}
  where
    means : VerdictMeans (setting_in (scene_of labels game diagram)) page (slice_index roots n)
        (seen_at verdicts (slice_index roots n)).hopeless (seen_at verdicts (slice_index roots n)).sure
    means = are.each (slice_index roots n) (made.model.models n below).vertex

pub answers_speak_of_requirements : AnswersSpeakOfRequirements
answers_speak_of_requirements meaning behaviour labels game diagram system_text requirements_text roots made lifters lines answers new opens answered =
    let scene : Scene = scene_of labels game diagram in
    answered_as (as_meant meaning (naming behaviour scene lifters)) (as_meant meaning (speaking behaviour scene lifters made.system made.entries roots)) (λ (old : Between). Unit {0})
    (λ old request answer next here so. (tt, (so.0, speaks old.book.present (meaning request).command answer so.1))) begun lines answers new tt
    (answers_name_winners meaning behaviour labels game diagram lifters lines answers new opens answered)
  where
    speaks : (page : List Entry) (command : script.Command) (answer : Answer) → NamesWinners (scene_of labels game diagram) page command answer →
        SpeaksOfEntries (scene_of labels game diagram) made.system made.entries roots page command answer
    speaks page command answer (inl refused) = inl refused
    speaks page command answer (inr names) = inr (names.0, names.1, true_of_entries labels game diagram system_text requirements_text roots made page names.0 names.1, names.2)
