-- The picture of a page's game.
use Rattle.std.proofs.Common.{◌≡◌, ℕ, zero, suc, ◌+◌, List, [], ◌∷◌, ◌++◌, length, Result, refl, ap, ◌∙◌, arith}
use Rattle.std.specs.Prelude.{map, OnOk, slice_index}
use Rattle.std.proofs.lemmas.List.{length-append, length-map}
use Rattle.vpg_diagram.specs.DiagramText.{NamedDiagram}
use Rattle.vpg_diagram.specs.FeatureDiagram.{feature_count}
use Rattle.vpg_draw.specs.GameDrawing.{game_drawing}
use Rattle.vpg_game.specs.Game.{NamedVertex, NamedGame, unnamed, graph_of, vertex_ids}
use Rattle.vpg_guards.specs.declared.tri.Tri.{Tri}
use Rattle.vpg_measure.specs.Games.{GamesView, ArePageGames}
use Rattle.vpg_measure.specs.TwoGames.{top_for}
use Rattle.vpg_sides.specs.declared.verdict.Verdict.{Verdict}
use Rattle.vpg_trail.specs.Page.{Hopeful, Dual, Decision, literal_of}
use Rattle.vpg_texts.specs.Changed.{verdict_of, verdicts_below, verdicts_by}
use Rattle.vpg_texts.specs.Picture.{IsDrawn, named_game, named_vertices}
use Rattle.vpg_texts.specs.Scene.{scene_of}
use Rattle.vpg_texts.proofs.Shown.{on_ok}

-- vertices under their own identifiers are these vertices
pub named_again : (vertices : List NamedVertex) → vertices ≡ named_vertices (vertex_ids vertices) (map unnamed vertices)
named_again [] = refl
named_again (v ∷ vertices) = ap (λ (vs : List NamedVertex). v ∷ vs) (named_again vertices)

-- one verdict a vertex
below_length : (hopeful_top dual_top : ℕ) (hopeful dual : List ℕ) (n : ℕ) → length (verdicts_below hopeful_top dual_top hopeful dual n) ≡ n
below_length hopeful_top dual_top hopeful dual zero = refl
below_length hopeful_top dual_top hopeful dual (suc n) =
    length-append (verdicts_below hopeful_top dual_top hopeful dual n) (verdict_of hopeful_top dual_top (slice_index hopeful n) (slice_index dual n) ∷ [])
    ∙ ap (λ (k : ℕ). k + 1) (below_length hopeful_top dual_top hopeful dual n) ∙ plus_one n
  where
    plus_one : (k : ℕ) → k + 1 ≡ suc k
    plus_one k = omega arith

pub verdict_each : (game : NamedGame) (hopeful dual : List ℕ) (verdicts : List Verdict) → verdicts ≡ verdicts_by (graph_of game) hopeful dual → length verdicts ≡ length game.vertices
verdict_each game hopeful dual verdicts is =
    ap (λ (vs : List Verdict). length vs) is
    ∙ below_length (top_for Hopeful (graph_of game)) (top_for Dual (graph_of game)) hopeful dual (length (graph_of game)) ∙ length-map game.vertices unnamed

-- the picture, with what it shows as the code has it
pub draws : {E : Type 0} (page_labels : List (List ℕ)) (game : NamedGame) (diagram : NamedDiagram) (decisions : List Decision) (games : GamesView) → ArePageGames game diagram (map literal_of decisions) games → game.features ≡ feature_count diagram.lines →
    (hopeful dual : List ℕ) (r : Result (Unit {0}) E) (before after : List ℕ) (names : List (List ℕ)) (known : List Tri) (decided : List Decision) (labels : List (List ℕ)) (verdicts : List Verdict) →
    names ≡ diagram.names → known ≡ games.known → decided ≡ decisions → labels ≡ page_labels → verdicts ≡ verdicts_by (graph_of game) hopeful dual →
    OnOk r (after ≡ before ++ game_drawing names known (map literal_of decided) labels verdicts game) →
    OnOk r ((text : List ℕ) × (IsDrawn (scene_of page_labels game diagram) decisions hopeful dual text × (after ≡ before ++ text)))
draws page_labels game diagram decisions games are features hopeful dual r before after names known decided labels verdicts names_are known_is decided_are labels_are verdicts_are =
    let same : game ≡ named_game (scene_of page_labels game diagram) = λ i. record { vertices = named_again game.vertices i; features = features i } in
    on_ok r _ _ (λ appended. (
      game_drawing names known (map literal_of decided) labels verdicts game,
      ((games.known, (are.known, (λ i. game_drawing (names_are i) (known_is i) (map literal_of (decided_are i)) (labels_are i) (verdicts_are i) (same i)))), appended),
    ))
