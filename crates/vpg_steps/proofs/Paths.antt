-- Paths of walks, and that of the trace of a verdict.
use Rattle.std.proofs.Common.{◌≡◌, ℕ, Bool, List, [], Option, inl, inr, refl, ap, ◌∙◌}
use Rattle.std.specs.Prelude.{Result, Ok, Err, IfOk, None}
use Rattle.vpg_guards.specs.declared.tri.Tri.{Tri}
use Rattle.vpg_game.specs.Game.{graph_of}
use Rattle.vpg_hope.specs.Games.{Game}
use Rattle.vpg_partial.specs.TableLaws.{IsKnownTable}
use Rattle.vpg_parts.specs.declared.part.Part.{Part}
use Rattle.vpg_model.specs.Departures.{Departure}
use Rattle.vpg_checking.specs.Behaviours.{Behaviour}
use Rattle.vpg_measure.specs.Orders.{OrderView}
use Rattle.vpg_sides.specs.declared.which.Which.{Which}
use Rattle.vpg_sides.specs.declared.which.Which.TheVariants.{Hopeful, Dual}
use Rattle.vpg_why.specs.Explained.{choices}
use Rattle.vpg_why.specs.Moves.{AreWinning}
use Rattle.vpg_why.specs.declared.question.Limits.{Limits}
use Rattle.vpg_trace.specs.Answering.{HasVerdict, page_of, walk_along, walk_text}
use Rattle.vpg_trace.specs.Walks.{IsWalkFrom, walk_from}
use Rattle.vpg_trace.specs.declared.walking.Visit.{Visit}
use Rattle.vpg_system_draw.specs.Traced.{Trail}
use Rattle.vpg_system_draw.specs.declared.marks.Step.{Step}
use Rattle.vpg_steps.specs.Steps.{FindsPath, FindsWon, IsPathOf, trail_of, trail_over}

pub ok_to : {T E : Type 0} (P Q : T → Type 0) (r : Result T E) → ((t : T) → P t → Q t) → IfOk r P → IfOk r Q
ok_to P Q (Ok t) f p = f t p
ok_to P Q (Err e) f p = tt

-- ---- paths

abbrev pub trail : List Step → List ℕ → List ℕ → Trail
trail steps loops stands = record { steps = steps; loops = loops; stands = stands }

pub trail_is : (a b : List Step) (c d e f : List ℕ) → a ≡ b → c ≡ d → e ≡ f → trail a c e ≡ trail b d f
trail_is a b c d e f p q r = λ i. trail (p i) (q i) (r i)

-- the path of the walk that was made, where the code has what is known and what the game was made of elsewhere
pub trail_told : (behaviour : Behaviour) (game arena : Game) (moves : List (Option ℕ)) (vertex : ℕ) (visits seen : List Visit) (is_cut : Bool) (values known : List Tri) (states : List (List Departure))
    (sets : List (List Bool)) (parts : List Part) (pairs : List (ℕ × ℕ)) →
    values ≡ known → states ≡ behaviour.states → sets ≡ behaviour.sets → parts ≡ behaviour.parts → pairs ≡ behaviour.pairs → arena ≡ game → seen ≡ visits → IsWalkFrom arena moves vertex visits is_cut →
    trail_over values states sets parts pairs seen ≡ trail_of known behaviour (walk_from game moves vertex).visits
trail_told behaviour game arena moves vertex visits seen is_cut values known states sets parts pairs values_are states_are sets_are parts_are pairs_are arena_is seen_are is =
    let made : seen ≡ (walk_from game moves vertex).visits = seen_are ∙ (is.made ∙ ap (λ (a : Game). (walk_from a moves vertex).visits) arena_is) in
    λ i. trail_over (values_are i) (states_are i) (sets_are i) (parts_are i) (pairs_are i) (made i)

-- ---- the trace of a verdict

module _ (order : OrderView) (behaviour : Behaviour) (mover : Which) (vertex : ℕ) where
  -- the moves win, and the path is that of the walk along them
  pub path_is : (moves : List (Option ℕ)) (known : List Tri) (path : Trail) → AreWinning (graph_of order.game) order.diagram.lines (choices order.decisions) mover vertex moves →
      IsKnownTable order.diagram.lines (choices order.decisions) known → path ≡ trail_of known behaviour (walk_along (page_of order) known mover vertex moves).visits →
      IsPathOf (page_of order) behaviour mover vertex path
  path_is moves known path win is_known made = record {
    text = walk_text (page_of order) known behaviour mover vertex [] moves;
    walk = record { moves = moves; win = win; known = known; is_known = is_known; text_is = refl };
    trail_is = made;
  }

module _ (order : OrderView) (behaviour : Behaviour) (limits : Limits) (vertex : ℕ) (found : Option Trail) where
  pub path_hopeless : HasVerdict (page_of order) Hopeful vertex → FindsWon (page_of order) behaviour limits Dual vertex found → FindsPath (page_of order) behaviour limits vertex found
  path_hopeless high won = inl (high, won)

  pub path_sure : ¬ (HasVerdict (page_of order) Hopeful vertex) → HasVerdict (page_of order) Dual vertex → FindsWon (page_of order) behaviour limits Hopeful vertex found →
      FindsPath (page_of order) behaviour limits vertex found
  path_sure low high won = inr (inl (low, high, won))

  pub path_neither : ¬ (HasVerdict (page_of order) Hopeful vertex) → ¬ (HasVerdict (page_of order) Dual vertex) → found ≡ None → FindsPath (page_of order) behaviour limits vertex found
  path_neither low also none = inr (inr (low, also, none))
