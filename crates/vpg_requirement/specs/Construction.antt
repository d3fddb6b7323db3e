-- The game as a function of the system and of the roots. From the roots on, each situation that a move leads to is
-- added at the end, until nothing new comes or this many have been looked at. So there is such a game, and one with
-- only the situations that can be reached. A program may make it otherwise; its game has to satisfy `IsBuiltOf`. This
-- project's own.
use Rattle.std.specs.Prelude.{◌≡◌, ℕ, zero, suc, ◌<◌, List, [], ◌∷◌, ◌++◌, length, map, Bool, true, false, ◌&&◌, ◌==◌, if◌then◌else◌, nat_lt, Option, Some, None}
use Rattle.vpg_sides.specs.declared.player.Player.{Player}
use Rattle.vpg_guards.specs.Formula.{Formula as Guard}
use Rattle.vpg_game.specs.Guarded.{GuardedEdge, GuardedVertex, GuardedGame}
use Rattle.vpg_requirement.specs.Actions.{ActionFormula, every_action, action, other_than, both_of, either_of}
use Rattle.vpg_requirement.specs.Systems.{System}
use Rattle.vpg_requirement.specs.Fixpoints.{Kind, least, greatest}
use Rattle.vpg_requirement.specs.NormalForms.{NormalForm, met, unmet, both, either, some_step, every_step, fixpoint, variable}
use Rattle.vpg_requirement.specs.Situations.{Binder, Situation, situation_at, part_owner, part_priority}
use Rattle.vpg_requirement.specs.Building.{GuardedMove, guarded_moves, join_edges, IsBuiltOf, IsReached}

-- ---- whether two are one

abbrev pub same_actions : ActionFormula → ActionFormula → Bool
same_actions every_action every_action = true
same_actions (action a) (action b) = a == b
same_actions (other_than x) (other_than y) = same_actions x y
same_actions (both_of x y) (both_of z w) = same_actions x z && same_actions y w
same_actions (either_of x y) (either_of z w) = same_actions x z && same_actions y w
same_actions _ _ = false

abbrev pub same_kind : Kind → Kind → Bool
same_kind least least = true
same_kind greatest greatest = true
same_kind _ _ = false

abbrev pub same_form : NormalForm → NormalForm → Bool
same_form met met = true
same_form unmet unmet = true
same_form (both f g) (both h k) = same_form f h && same_form g k
same_form (either f g) (either h k) = same_form f h && same_form g k
same_form (some_step x f) (some_step y g) = same_actions x y && same_form f g
same_form (every_step x f) (every_step y g) = same_actions x y && same_form f g
same_form (fixpoint kind p f) (fixpoint other q g) = same_kind kind other && ((p == q) && same_form f g)
same_form (variable i) (variable j) = i == j
same_form _ _ = false

abbrev pub same_scope : List Binder → List Binder → Bool
same_scope [] [] = true
same_scope (a ∷ scope) (b ∷ other) =
    (same_kind a.kind b.kind && ((a.priority == b.priority) && same_form a.body b.body)) && same_scope scope other
same_scope _ _ = false

abbrev pub same_situation : Situation → Situation → Bool
same_situation p q = (p.state == q.state) && (same_form p.part q.part && same_scope p.scope q.scope)

-- ---- places

-- the first place of the situation, or the length
abbrev pub place_of : List Situation → Situation → ℕ
place_of [] q = 0
place_of (p ∷ places) q = if same_situation p q then 0 else suc (place_of places q)

abbrev pub is_place : List Situation → Situation → Bool
is_place places q =
    nat_lt (place_of places q) (length places) && same_situation (situation_at places (place_of places q)) q

abbrev pub with_targets : List Situation → List GuardedMove → List Situation
with_targets places [] = places
with_targets places (move ∷ moves) =
    with_targets (if is_place places move.to then places else (places ++ move.to ∷ [])) moves

abbrev pub moves_at : System Guard → Situation → List GuardedMove
moves_at system place = guarded_moves system place.state place.part place.scope

-- the places from this one on are looked at, one after another
abbrev pub exploration : System Guard → ℕ → ℕ → List Situation → List Situation
exploration system zero at places = places
exploration system (suc more) at places =
    if nat_lt at (length places) then exploration system more (suc at)
    (with_targets places (moves_at system (situation_at places at))) else places

-- ---- the game

abbrev pub are_places : List Situation → List GuardedMove → Bool
are_places places [] = true
are_places places (move ∷ moves) = is_place places move.to && are_places places moves

abbrev pub are_closed : System Guard → List Situation → List Situation → Bool
are_closed system places [] = true
are_closed system places (place ∷ rest) = are_places places (moves_at system place) && are_closed system places rest

abbrev pub edge_for : List Situation → GuardedMove → GuardedEdge Guard
edge_for places move = record { to = place_of places move.to; guard = move.guard }

abbrev pub row_for : Player → ℕ → System Guard → List Situation → Situation → GuardedVertex Guard
row_for mover low system places place = record {
  owner = part_owner mover place.part;
  priority = part_priority low place.part place.scope;
  edges = join_edges [] (map (edge_for places) (moves_at system place));
}

-- the situations and their game; none if more than this many situations can be reached
abbrev pub construction : Player → ℕ → ℕ → System Guard → List Situation → Option (List Situation × GuardedGame Guard)
construction mover low limit system roots =
    if are_closed system (exploration system limit 0 roots) (exploration system limit 0 roots)
    then Some (
      exploration system limit 0 roots,
      map (row_for mover low system (exploration system limit 0 roots)) (exploration system limit 0 roots),
    )
    else None

-- The constructed game is built of its situations, and these are the roots and what can be reached from them.
abbrev pub ConstructionIsBuilt : Type 0
ConstructionIsBuilt =
    (mover : Player) (low limit : ℕ) (system : System Guard) (roots places : List Situation)
    (game : GuardedGame Guard) →
    construction mover low limit system roots ≡ Some (places, game) →
    IsBuiltOf mover low system places game × IsReached system roots places

-- no two places of the list have the same situation
abbrev pub AreDistinct : List Situation → Type 0
AreDistinct places = (u v : ℕ) → u < v → v < length places → situation_at places u ≡ situation_at places v → ⊥

-- If nothing is constructed, more than this many different situations can be reached.
abbrev pub RefusedIsTooMany : Type 0
RefusedIsTooMany =
    (mover : Player) (low limit : ℕ) (system : System Guard) (roots : List Situation) → AreDistinct roots →
    construction mover low limit system roots ≡ None →
    (places : List Situation) × IsReached system roots places × AreDistinct places × (limit < length places)
