-- The answer to a trace reports a walk of the system.
use Rattle.std.proofs.Common.{ℕ, ◌⊎◌, inl, inr, Bool, List, ◌++◌, Option, ap, ◌∙◌, arith}
use Rattle.std.specs.Prelude.{slice_index}
use Rattle.vpg_diagram.specs.DiagramText.{NamedDiagram}
use Rattle.vpg_diagram.specs.FeatureDiagram.{IsDiagram}
use Rattle.vpg_game.specs.Game.{NamedGame, graph_of}
use Rattle.vpg_hope.specs.Games.{Game}
use Rattle.vpg_sides.specs.declared.which.Which.{Which}
use Rattle.vpg_sides.specs.declared.which.Which.TheVariants.{Hopeful, Dual}
use Rattle.vpg_measure.specs.Orders.{other_table}
use Rattle.vpg_why.specs.Moves.{caution_for}
use Rattle.vpg_why.specs.declared.question.Limits.{Limits}
use Rattle.vpg_trail.specs.Page.{Entry, decisions_of}
use Rattle.vpg_checking.specs.Behaviours.{Behaviour}
use Rattle.vpg_trace.specs.declared.walking.Visit.{Visit}
use Rattle.vpg_trace.specs.Answering.{Page, TellsTrace, TellsWalk, TellsWon, head_line, walk_along}
use Rattle.vpg_trace.specs.Texts.{family_of, trace_text}
use Rattle.vpg_trace.specs.Traces.{IsTrace}
use Rattle.vpg_trace.specs.Walks.{is_left, walk_from}
use Rattle.vpg_trace.proofs.Whole.{is_trace}
use Rattle.vpg_texts.specs.Labels.{beside, label_of}
use Rattle.vpg_texts.specs.Scene.{Scene, scene_of}
use Rattle.vpg_family.specs.Made.{IsMadeOf, roots_of}
use Rattle.vpg_looks.specs.Answers.{page_in}
use Rattle.vpg_assured.specs.Traced.{HasNoWalk, ReportsWalk}
use Rattle.vpg_assured.proofs.Moved.{move_in_caution, move_in_product}
use Rattle.vpg_assured.proofs.Stepped.{visit_reported}

walk_is_trace : (game : Game) (moves : List (Option ℕ)) (first : ℕ) →
    IsTrace game moves first (walk_from game moves first).visits
unfolding walk_from
walk_is_trace game moves first = is_trace game moves first 1000 (omega arith)

module _ (labels : List (List ℕ)) (game : NamedGame) (diagram : NamedDiagram) (system_text : List ℕ) (behaviour : Behaviour)
    (made : IsMadeOf diagram system_text game behaviour) (is_diagram : IsDiagram diagram.lines) (entries : List Entry)
    (hopeful dual : List ℕ) (limits : Limits) (vertex : ℕ) (text : List ℕ) where
  abbrev scene : Scene
  scene = scene_of labels game diagram

  abbrev page : Page
  page = page_in scene (decisions_of entries) hopeful dual

  abbrev name : List ℕ
  name = beside (label_of scene.labels vertex)

  abbrev Reports : Type 0
  Reports = HasNoWalk scene vertex text ⊎ ReportsWalk scene made.system behaviour entries vertex text

  reports_walk : (mover : Which) → TellsWalk page behaviour mover vertex name text →
      ReportsWalk scene made.system behaviour entries vertex text
  reports_walk mover walk = record {
    verdict = other_table mover;
    known = walk.known;
    is_known = walk.is_known;
    visits = visits;
    is_cut = is_cut;
    text_is = walk.text_is ∙ ap (λ (actions : List (List ℕ)). head_line (other_table mover) (slice_index scene.identifiers vertex) name
        ++ trace_text (family_of scene.names actions walk.known behaviour.states behaviour.sets behaviour.parts behaviour.pairs) visits is_cut) made.actions;
    begins = is.begins;
    each = visit_reported scene entries made.system walk.known behaviour.states behaviour.sets behaviour.parts
        behaviour.pairs is_diagram walk.is_known made.of_system.departures (caution_for walk.known mover (graph_of game))
        walk.moves vertex visits is
        (λ v w. move_in_caution behaviour.states behaviour.sets behaviour.parts roots behaviour.pairs made.vertices
        made.are_vertices.built (graph_of game) made.are_vertices.is_built made.are_vertices.alike v w walk.known mover)
        (λ v w. move_in_product behaviour.states behaviour.sets behaviour.parts roots behaviour.pairs made.vertices
        made.are_vertices.built (graph_of game) made.are_vertices.is_built made.are_vertices.alike v w);
  }
    where
      roots : List (ℕ × ℕ)
      roots = roots_of behaviour made.system made.places

      visits : List Visit
      visits = (walk_along page walk.known mover vertex walk.moves).visits

      is_cut : Bool
      is_cut = is_left (walk_along page walk.known mover vertex walk.moves).waiting

      is : IsTrace (caution_for walk.known mover (graph_of game)) walk.moves vertex visits
      is = walk_is_trace (caution_for walk.known mover (graph_of game)) walk.moves vertex

  reports_won : (mover : Which) → TellsWon page behaviour limits mover vertex name text → Reports
  reports_won mover (inl walk) = inr (reports_walk mover walk)
  reports_won mover (inr short) = inl (inr short.1)

  pub reports_trace : TellsTrace page behaviour limits vertex name text → Reports
  reports_trace (inl h) = reports_won Dual h.1
  reports_trace (inr (inl h)) = reports_won Hopeful h.2
  reports_trace (inr (inr h)) = inl (inl h.2)
