-- A page has one text of each kind.
use Rattle.std.proofs.Common.{◌≡◌, ℕ, ◌<◌, Bool, List, length, get_or, Option, sym, ap, ap₂, ◌∙◌, subst, inl, inr}
use Rattle.std.specs.Prelude.{map}
use Rattle.std.specs.Bool.{one_answer}
use Rattle.std.proofs.lemmas.List.{same_lists}
use Rattle.std.proofs.lemmas.Option.{get_or_from_slice_get}
use Rattle.vpg_diagram.specs.DiagramText.{NamedDiagram}
use Rattle.vpg_game.specs.Game.{NamedGame, vertex_ids}
use Rattle.vpg_game.specs.Levels.{top_of}
use Rattle.vpg_guards.specs.Known.{kleene}
use Rattle.vpg_guards.specs.declared.tri.Tri.{Tri}
use Rattle.vpg_measure.specs.Games.{GamesView, ArePageGames}
use Rattle.vpg_measure.specs.TwoGames.{arena_for}
use Rattle.vpg_trail.specs.Page.{Hopeful, Dual, Decision, literal_of}
use Rattle.vpg_script.specs.Answer.{Answer}
use Rattle.vpg_script.proofs.Given.{done_one}
use Rattle.vpg_diagram.specs.declared.clause.Literal.{Literal}
use Rattle.vpg_texts.specs.Picture.{IsDrawn}
use Rattle.vpg_texts.specs.Plan.{IsPlanned, PlansUnder}
use Rattle.vpg_texts.specs.Scene.{Scene, UnderKnown, TellsUnder, IsShown, shown_lines, IsCounted, counted_lines, TellsFeature, TellsKnown, scene_of}
use Rattle.vpg_texts.specs.Sights.{IsAsserted, IsPlanAnswer, lines_at, sight_lines}
use Rattle.vpg_texts.specs.Text.{plan_text}
use Rattle.vpg_texts.proofs.Planned.{known_is_one}

module _ (scene : Scene) (decisions : List Decision) where
  under_one : {X : Type 0} (P Q : List Tri → Type 0) → ((known : List Tri) → P known → Q known → X) → UnderKnown scene decisions P → UnderKnown scene decisions Q → X
  under_one P Q k a b =
      k a.0 a.1.1 (subst Q (known_is_one scene.lines (map literal_of decisions) b.0 a.0 b.1.0 a.1.0) b.1.1)

  tells_one : {A : Type 0} (hopeful dual : List ℕ) (text_of : Bool → Bool → A) (one other : A) → UnderKnown scene decisions (λ known. TellsUnder scene.game known hopeful dual text_of one) →
      UnderKnown scene decisions (λ known. TellsUnder scene.game known hopeful dual text_of other) → one ≡ other
  tells_one hopeful dual text_of one other =
      under_one _ _ (λ known a b.
      a.text_is ∙ ap₂ text_of (one_answer a.full b.full a.full_is b.full_is) (one_answer a.settled b.settled a.settled_is b.settled_is) ∙ sym b.text_is)

  pub shown_one : (hopeful dual one other : List ℕ) → IsShown scene decisions hopeful dual one → IsShown scene decisions hopeful dual other → one ≡ other
  shown_one hopeful dual = tells_one hopeful dual (shown_lines scene decisions hopeful dual)

  pub counted_one : (hopeful dual mark one other : List ℕ) → IsCounted scene decisions hopeful dual mark one → IsCounted scene decisions hopeful dual mark other → one ≡ other
  counted_one hopeful dual mark = tells_one hopeful dual (counted_lines scene hopeful dual mark)

  pub products_one : (one other : List ℕ) → TellsKnown scene decisions one → TellsKnown scene decisions other → one ≡ other
  products_one one other = under_one _ _ (λ known a b. a ∙ sym b)

  chosen_one : (known : List Tri) (hopeful dual one other : List ℕ) → PlansUnder scene known hopeful dual one → PlansUnder scene known hopeful dual other → one ≡ other
  chosen_one known hopeful dual one other a b =
      a.text_is ∙ ap (plan_text scene.identifiers scene.labels) (same_lists a.chosen b.chosen (a.chosen_are.0 ∙ sym b.chosen_are.0) same) ∙ sym b.text_is
    where
      same : (v : ℕ) (d : Option ℕ) → v < length a.chosen → get_or a.chosen v d ≡ get_or b.chosen v d
      same v d l =
          let within : v < length (arena_for (kleene known) Hopeful scene.game) = subst (λ (n : ℕ). v < n) a.chosen_are.0 l in
          get_or_from_slice_get a.chosen v _ d (a.chosen_are.1 v within) ∙ sym (get_or_from_slice_get b.chosen v _ d (b.chosen_are.1 v within))

  pub planned_one : (hopeful dual : List ℕ) (one other : Answer) → IsPlanAnswer scene decisions hopeful dual one → IsPlanAnswer scene decisions hopeful dual other → one ≡ other
  planned_one hopeful dual one other (inl a) (inl b) =
      done_one (IsPlanned scene decisions hopeful dual) (IsPlanned scene decisions hopeful dual) one other
      (under_one (λ known. PlansUnder scene known hopeful dual one.text) (λ known. PlansUnder scene known hopeful dual other.text) (λ known first second. chosen_one known hopeful dual one.text other.text first second)) a b
  planned_one hopeful dual one other (inl a) (inr (inl b)) = absurd (under_one _ _ (λ known p q. q p.full) a.1 b.0)
  planned_one hopeful dual one other (inl a) (inr (inr b)) = absurd (under_one _ _ (λ known p q. q.1 p.settled) a.1 b.0)
  planned_one hopeful dual one other (inr (inl a)) (inl b) = absurd (under_one _ _ (λ known p q. p q.full) a.0 b.1)
  planned_one hopeful dual one other (inr (inl a)) (inr (inl b)) = a.1 ∙ sym b.1
  planned_one hopeful dual one other (inr (inl a)) (inr (inr b)) = absurd (under_one _ _ (λ known p q. p q.0) a.0 b.0)
  planned_one hopeful dual one other (inr (inr a)) (inl b) = absurd (under_one _ _ (λ known p q. p.1 q.settled) a.0 b.1)
  planned_one hopeful dual one other (inr (inr a)) (inr (inl b)) = absurd (under_one _ _ (λ known p q. q p.0) a.0 b.0)
  planned_one hopeful dual one other (inr (inr a)) (inr (inr b)) = a.1 ∙ sym b.1

  pub asserted_one : (hopeful dual : List ℕ) (answer_of : Bool → Bool → Answer) (one other : Answer) → IsAsserted scene answer_of decisions hopeful dual one → IsAsserted scene answer_of decisions hopeful dual other → one ≡ other
  asserted_one hopeful dual answer_of = tells_one hopeful dual answer_of

  pub drawn_one : (hopeful dual one other : List ℕ) → IsDrawn scene decisions hopeful dual one → IsDrawn scene decisions hopeful dual other → one ≡ other
  drawn_one hopeful dual one other = under_one _ _ (λ known a b. a ∙ sym b)

  pub feature_one : (f : ℕ) (one other : List ℕ) → TellsFeature scene decisions f one → TellsFeature scene decisions f other → one ≡ other
  feature_one f one other = under_one _ _ (λ known a b. a ∙ sym b)

-- the lines of some vertices, by the tops of the games
pub lines_shown : (labels : List (List ℕ)) (game : NamedGame) (diagram : NamedDiagram) (literals : List Literal) (hopeful dual : List ℕ) (games : GamesView) → ArePageGames game diagram literals games → (vertices : List ℕ) →
    lines_at (top_of games.hopeful_levels) (top_of games.dual_levels) (vertex_ids game.vertices) labels hopeful dual vertices ≡ sight_lines (scene_of labels game diagram) hopeful dual vertices
lines_shown labels game diagram literals hopeful dual games are vertices =
    ap₂ (λ (first second : ℕ). lines_at first second (vertex_ids game.vertices) labels hopeful dual vertices) (ap top_of (are.levels Hopeful)) (ap top_of (are.levels Dual))
