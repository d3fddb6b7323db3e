-- Two traces are one text.
use Rattle.std.proofs.Common.{◌≡◌, ℕ, Option, Some, None, List, sym, ap₂, ◌∙◌}
use Rattle.vpg_guards.specs.declared.tri.Tri.{Tri}
use Rattle.vpg_checking.specs.Behaviours.{Behaviour}
use Rattle.vpg_trace.specs.Answering.{Page, TellsWon, TellsTrace, walk_text}
use Rattle.vpg_sides.specs.declared.which.Which.{Which}
use Rattle.vpg_sides.specs.declared.which.Which.TheVariants.{Hopeful, Dual}
use Rattle.vpg_partial.specs.declared.decision.Decision.{Decision}
use Rattle.vpg_texts.specs.Labels.{beside}
use Rattle.vpg_texts.specs.Scene.{Scene}
use Rattle.vpg_texts.proofs.Planned.{known_is_one}
use Rattle.vpg_why.specs.Explained.{choices}
use Rattle.vpg_why.specs.declared.question.Limits.{Limits}
use Rattle.vpg_looks.specs.Answers.{HasDoubt, TellsTraced, label_in, page_in}
use Rattle.vpg_looks.proofs.Doubts.{each_one, sought_one}
use Rattle.vpg_looks.proofs.OneMoves.{moves_one}

module _ (scene : Scene) (limits others : Limits) (vertex : ℕ) (decisions : List Decision) (hopeful dual : List ℕ) where
  abbrev page : Page
  page = page_in scene decisions hopeful dual

  module _ (behaviour : Behaviour) (name : List ℕ) where
    won_one : (mover : Which) (one other : List ℕ) → TellsWon page behaviour limits mover vertex name one → TellsWon page behaviour others mover vertex name other →
        ¬ (HasDoubt one) → ¬ (HasDoubt other) → one ≡ other
    won_one mover one other a b sure also = sought_one one other a b sure also (λ x y.
        x.text_is
        ∙ ap₂ (λ (known : List Tri) (moves : List (Option ℕ)). walk_text page known behaviour mover vertex name moves)
        (known_is_one scene.lines (choices decisions) x.known y.known x.is_known y.is_known)
        (moves_one scene limits others mover vertex decisions x.moves y.moves x.win y.win)
        ∙ sym y.text_is)

    trace_one : (one other : List ℕ) → TellsTrace page behaviour limits vertex name one → TellsTrace page behaviour others vertex name other →
        ¬ (HasDoubt one) → ¬ (HasDoubt other) → one ≡ other
    trace_one one other a b sure also =
        each_one a b (λ x y. won_one Dual one other x y sure also) (λ x y. won_one Hopeful one other x y sure also) (λ x y. x ∙ sym y)

  pub traced_one : (behaviour : Option Behaviour) (one other : List ℕ) → TellsTraced behaviour scene limits vertex decisions hopeful dual one → TellsTraced behaviour scene others vertex decisions hopeful dual other →
      ¬ (HasDoubt one) → ¬ (HasDoubt other) → one ≡ other
  traced_one None one other a b sure also = absurd a
  traced_one (Some behaviour) one other a b sure also = trace_one behaviour (beside (label_in scene vertex)) one other a b sure also
