-- The winner of a trace never stands, and what the answer tells.
use Rattle.std.proofs.Common.{◌≡◌, ℕ, zero, suc, ◌<◌, ◌⊎◌, inl, inr, Bool, List, ◌++◌, length, Option, refl, sym, ap, ◌∙◌, subst, arith, append_assoc}
use Rattle.std.specs.Prelude.{OnOk, Result, Ok, Err}
use Rattle.std.proofs.lemmas.Bool.{cases_eq}
use Rattle.vpg_sides.specs.declared.player.Player.TheVariants.{Even}
use Rattle.vpg_hope.specs.Games.{Game, owner_of}
use Rattle.vpg_hope.specs.Strategies.{Reaches, Wins}
use Rattle.vpg_hope.specs.Strategies as plays
use Rattle.vpg_hope.proofs.Reach.{reaches_move}
use Rattle.vpg_measure.specs.Views.{strategy_of}
use Rattle.vpg_guards.specs.declared.tri.Tri.{Tri}
use Rattle.vpg_game.specs.Game.{graph_of}
use Rattle.vpg_checking.specs.Behaviours.{Behaviour}
use Rattle.vpg_partial.specs.TableLaws.{IsKnownTable}
use Rattle.vpg_measure.specs.Orders.{OrderView, other_table}
use Rattle.vpg_sides.specs.declared.which.Which.{Which}
use Rattle.vpg_why.specs.Explained.{choices}
use Rattle.vpg_why.specs.Moves.{AreWinning}
use Rattle.vpg_why.specs.declared.question.Limits.{Limits}
use Rattle.vpg_trace.specs.Answering.{Appends, IsTooShort, IsWalkTold, Page, TellsTrace, TellsWon, family_on, head_line, identifier_of, page_of, unsettled_line, walk_along, walk_text}
use Rattle.vpg_parts.specs.declared.part.Part.{Part}
use Rattle.vpg_model.specs.Departures.{Departure}
use Rattle.vpg_trace.specs.Texts.{family_of, trace_text}
use Rattle.vpg_trace.specs.declared.walking.End.{End}
use Rattle.vpg_trace.specs.declared.walking.End.TheVariants.{Stands}
use Rattle.vpg_trace.specs.declared.walking.Visit.{Visit}
use Rattle.vpg_trace.specs.Laws.{WinnersGoOn}
use Rattle.vpg_trace.specs.Traces.{EndsAs, IsTrace}
use Rattle.vpg_trace.specs.Walks.{IsWalkFrom, is_left, visit_at, walk_from}

module _ (game : Game) (moves : List (Option ℕ)) (first : ℕ) (visits : List Visit) (is : IsTrace game moves first visits) where
  abbrev IsReached : ℕ → Type 0
  IsReached v = Reaches game Even (strategy_of moves) first v

  -- a play comes to each vertex that is visited
  comes_to : (n i : ℕ) → i < n → i < length visits → IsReached (visit_at visits i).vertex
  comes_to zero i less l = absurd (omega arith)
  comes_to (suc n) i less l = at (cases_eq i 0) (comes_to n)
    where
      at : (i ≡ 0) ⊎ (i ≡ 0 → ⊥) → ((p : ℕ) → p < n → p < length visits → IsReached (visit_at visits p).vertex) → IsReached (visit_at visits i).vertex
      at (inl e) rest = subst (λ (k : ℕ). IsReached (visit_at visits k).vertex) (sym e) (subst (λ (v : ℕ). IsReached v) (sym is.begins) plays.here)
      at (inr some) rest =
          let (p, h) = is.others i (omega arith) l in
          reaches_move game Even (strategy_of moves) (rest p (omega (arith, h.earlier)) (omega (arith, h.earlier))) h.move

  never_stands : Wins game Even (strategy_of moves) first → (i : ℕ) → i < length visits → (visit_at visits i).end ≡ Stands → owner_of game (visit_at visits i).vertex ≡ Even → ⊥
  never_stands wins i l e owner =
      let (w, move) = wins.can_move (visit_at visits i).vertex (comes_to (suc i) i (omega arith) l) owner in
      (subst (λ (end : End). EndsAs game moves visits i end) e (is.ends i l)) w move

pub winners_go_on : WinnersGoOn
winners_go_on game moves first visits is wins i l e owner = never_stands game moves first visits is wins i l e owner

-- ---- the answer

pub on_ok : {E : Type 0} (r : Result (Unit {0}) E) (P Q : Type 0) → (P → Q) → OnOk r P → OnOk r Q
on_ok (Ok done) P Q f p = f p
on_ok (Err e) P Q f p = tt

-- what is written of the walk that was made, where the code has its names, what is known, what the game was made of, and
-- the game elsewhere
module _ (page : Page) (behaviour : Behaviour) (game arena : Game) (moves : List (Option ℕ)) (vertex : ℕ) (visits : List Visit) (is_cut : Bool) where
  pub walk_written : (shown actions : List (List ℕ)) (known seen : List Tri) (states : List (List Departure)) (sets : List (List Bool)) (parts : List Part) (pairs : List (ℕ × ℕ)) →
      shown ≡ page.features → actions ≡ behaviour.actions → seen ≡ known → states ≡ behaviour.states → sets ≡ behaviour.sets → parts ≡ behaviour.parts → pairs ≡ behaviour.pairs → arena ≡ game →
      IsWalkFrom arena moves vertex visits is_cut →
      trace_text (family_of shown actions seen states sets parts pairs) visits is_cut
      ≡ trace_text (family_on page known behaviour) (walk_from game moves vertex).visits (is_left (walk_from game moves vertex).waiting)
  walk_written shown actions known seen states sets parts pairs shown_is actions_are seen_is states_are sets_are parts_are pairs_are arena_is is =
      let walk : IsWalkFrom game moves vertex visits is_cut = subst (λ (a : Game). IsWalkFrom a moves vertex visits is_cut) arena_is is in
      λ i. trace_text (family_of (shown_is i) (actions_are i) (seen_is i) (states_are i) (sets_are i) (parts_are i) (pairs_are i)) (walk.made i) (walk.cut i)

module _ (order : OrderView) (behaviour : Behaviour) (vertex : ℕ) (beside before after : List ℕ) where
  abbrev page : Page
  page = page_of order

  -- the head, and the walk behind it
  pub walk_told : (mover : Which) (moves : List (Option ℕ)) (known : List Tri) (head : List ℕ) (middle : List ℕ) → IsKnownTable order.diagram.lines (choices order.decisions) known →
      head ≡ head_line (other_table mover) (identifier_of page vertex) beside → middle ≡ before ++ head →
      after ≡ middle ++ trace_text (family_on page known behaviour) (walk_along page known mover vertex moves).visits (is_left (walk_along page known mover vertex moves).waiting) →
      IsWalkTold page behaviour mover vertex beside moves before after
  walk_told mover moves known head middle is_known head_is middle_is after_is = record {
    known = known;
    is_known = is_known;
    appended = after_is ∙ (ap (λ (s : List ℕ). s ++ walk) middle_is ∙ (append_assoc before head walk ∙ ap (λ (s : List ℕ). before ++ (s ++ walk)) head_is));
  }
    where
      walk : List ℕ
      walk = trace_text (family_on page known behaviour) (walk_along page known mover vertex moves).visits (is_left (walk_along page known mover vertex moves).waiting)

  module _ (limits : Limits) where
    abbrev Won : Which → Type 0
    Won mover = Appends (TellsWon page behaviour limits mover vertex beside) before after

    abbrev Told : Type 0
    Told = Appends (TellsTrace page behaviour limits vertex beside) before after

    pub tells_walk : (mover : Which) (moves items : List (Option ℕ)) → moves ≡ items → AreWinning (graph_of order.game) order.diagram.lines (choices order.decisions) mover vertex items →
        IsWalkTold page behaviour mover vertex beside moves before after → Won mover
    tells_walk mover moves items same are told = (
      walk_text page told.known behaviour mover vertex beside items,
      inl (record { moves = items; win = are; known = told.known; is_known = told.is_known; text_is = refl }),
      told.appended ∙ ap (λ (ms : List (Option ℕ)). before ++ walk_text page told.known behaviour mover vertex beside ms) same,
    )

    pub tells_short : (mover : Which) → IsTooShort page limits mover → after ≡ before ++ unsettled_line → Won mover
    tells_short mover short appended = (unsettled_line, inr (short, refl), appended)
