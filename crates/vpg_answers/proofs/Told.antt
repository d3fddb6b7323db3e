-- What was written is the answer to a look.
use Rattle.std.proofs.Common.{◌≡◌, ℕ, List, ◌++◌, Option, Result, refl, sym, ap₂, ◌∙◌, subst}
use Rattle.std.specs.Prelude.{IfOk, OnOk, map}
use Rattle.vpg_checking.specs.Behaviours.{Behaviour}
use Rattle.vpg_diagram.specs.DiagramText.{NamedDiagram}
use Rattle.vpg_diagram.specs.FeatureDiagram.{IsDiagram}
use Rattle.vpg_game.specs.Game.{NamedGame, vertex_ids}
use Rattle.vpg_game.specs.Levels.{top_of}
use Rattle.vpg_measure.specs.Games.{GamesView, ArePageGames}
use Rattle.vpg_partial.specs.Known.{literal_of}
use Rattle.vpg_partial.specs.TableLaws.{AreChoicesOf}
use Rattle.vpg_partial.specs.declared.decision.Decision.{Decision}
use Rattle.vpg_script.specs.Answer.{Answer, Gives, IsDone, done_if}
use Rattle.vpg_script.specs.declared.tone.Tone.{Tone}
use Rattle.vpg_script.proofs.Given.{if_ok}
use Rattle.vpg_texts.specs.Scene.{Scene, TellsFeature, TellsKnown, scene_of}
use Rattle.vpg_texts.specs.Sights.{lines_at, sight_lines}
use Rattle.vpg_texts.specs.Text.{known_text, products_text}
use Rattle.vpg_texts.proofs.Seen.{lines_shown}
use Rattle.vpg_texts.proofs.Shown.{on_ok}
use Rattle.vpg_why.specs.Explained.{choices}
use Rattle.vpg_why.specs.declared.question.Limits.{Limits}
use Rattle.vpg_looks.specs.Answers.{Appends}
use Rattle.vpg_looks.specs.Meanings.{Sight}
use Rattle.vpg_looks.proofs.Told.{told_done}
use Rattle.vpg_answers.specs.Told.{IsTold, Tells}
use Rattle.vpg_answers.specs.Topics.{Topic}

-- what is told of a topic, in the code's words, is the answer to it
module _ (scene : Scene) (page : Sight) (is : IsDiagram scene.lines) (named : AreChoicesOf scene.lines (choices page.decisions)) where
  pub told_as : {E : Type 0} (behaviour : Option Behaviour) (limits : Limits) (r : Result Tone E) (one topic : Topic) → one ≡ topic → (before after : List ℕ) →
      IfOk r (λ tone. Gives (Tells behaviour scene limits one page) tone before after) → IfOk r (λ tone. Gives (IsTold behaviour scene limits topic page) tone before after)
  told_as behaviour limits r one topic same before after told =
      subst (λ (t : Topic). IfOk r (λ tone. Gives (IsTold behaviour scene limits t page) tone before after)) same
      (if_ok r (λ tone. Gives (Tells behaviour scene limits one page) tone before after) (λ tone. Gives (IsTold behaviour scene limits one page) tone before after)
      (λ tone gives. (gives.0, (record { diagram = is; named = named; tells = gives.1.0 }, gives.1.1))) told)

-- ---- by the code's words for the game and the diagram

module _ {E : Type 0} (labels : List (List ℕ)) (game here : NamedGame) (diagram there : NamedDiagram) (game_is : here ≡ game) (diagram_is : there ≡ diagram) (before after : List ℕ) where
  pub gives_here : (P : Scene → Answer → Type 0) (r : Result Tone E) → IfOk r (λ tone. Gives (P (scene_of labels here there)) tone before after) → IfOk r (λ tone. Gives (P (scene_of labels game diagram)) tone before after)
  gives_here P r told = coe 0 1 (k. IfOk r (λ tone. Gives (P (scene_of labels (game_is k) (diagram_is k))) tone before after)) told

  pub done_here : (Says : Scene → List ℕ → Type 0) (r : Result (Unit {0}) E) (s : Result Tone E) → s ≡ done_if r → OnOk r (Appends (Says (scene_of labels here there)) before after) →
      IfOk s (λ tone. Gives (IsDone (Says (scene_of labels game diagram))) tone before after)
  done_here Says r s made told =
      told_done (Says (scene_of labels game diagram)) r s made before after (coe 0 1 (k. OnOk r (Appends (Says (scene_of labels (game_is k) (diagram_is k))) before after)) told)

-- what is known, by the code's words for the diagram and the games
module _ {E : Type 0} (labels : List (List ℕ)) (game : NamedGame) (diagram there : NamedDiagram) (decisions : List Decision) (games held : GamesView) (there_is : there ≡ diagram) (held_is : held ≡ games)
    (are : ArePageGames game diagram (map literal_of decisions) games) (r : Result (Unit {0}) E) (before after : List ℕ) where
  pub products_here : OnOk r (after ≡ before ++ products_text there.names held.known) → OnOk r (Appends (TellsKnown (scene_of labels game diagram) decisions) before after)
  products_here told =
      on_ok r _ _
      (λ items. (
        products_text diagram.names games.known,
        ((games.known, (are.known, refl)), items ∙ ap₂ (λ (d : NamedDiagram) (g : GamesView). before ++ products_text d.names g.known) there_is held_is),
      )) told

  pub known_here : (feature : ℕ) → OnOk r (after ≡ before ++ known_text there.names held.known feature) → OnOk r (Appends (TellsFeature (scene_of labels game diagram) decisions feature) before after)
  known_here feature told =
      on_ok r _ _
      (λ items. (
        known_text diagram.names games.known feature,
        ((games.known, (are.known, refl)), items ∙ ap₂ (λ (d : NamedDiagram) (g : GamesView). before ++ known_text d.names g.known feature) there_is held_is),
      )) told

-- the lines of some vertices, by the code's words for the game, the games and the places
pub lines_here : {E : Type 0} (labels : List (List ℕ)) (game here : NamedGame) (diagram : NamedDiagram) (decisions : List Decision) (hopeful dual : List ℕ) (games held : GamesView) → here ≡ game → held ≡ games →
    ArePageGames game diagram (map literal_of decisions) games → (r : Result (Unit {0}) E) (s : Result Tone E) → s ≡ done_if r → (before after seen vertices : List ℕ) → seen ≡ vertices →
    OnOk r (after ≡ before ++ lines_at (top_of held.hopeful_levels) (top_of held.dual_levels) (vertex_ids here.vertices) labels hopeful dual seen) →
    IfOk s (λ tone. Gives (IsDone (λ text. text ≡ sight_lines (scene_of labels game diagram) hopeful dual vertices)) tone before after)
lines_here labels game here diagram decisions hopeful dual games held here_is held_is are r s made before after seen vertices seen_is told =
    told_done (λ text. text ≡ sight_lines (scene_of labels game diagram) hopeful dual vertices) r s made before after
    (on_ok r _ _
    (λ items. (
      _,
      (
        coe 0 1 (k. lines_at (top_of ((sym held_is) k).hopeful_levels) (top_of ((sym held_is) k).dual_levels) (vertex_ids ((sym here_is) k).vertices) labels hopeful dual ((sym seen_is) k) ≡ sight_lines (scene_of labels game diagram) hopeful dual vertices)
            (lines_shown labels game diagram (map literal_of decisions) hopeful dual games are vertices),
        items,
      ),
    )) told)
