-- The game of a family's system, with guards: a row for each situation, and an edge for each of its moves, under the
-- guard of its transition. If a situation is reached twice, the guards are joined by `or`. After FASE 2020 (ter Beek,
-- van Loo, de Vink and Willemse), where such games are made from featured transition systems and formulas.
use Rattle.std.specs.Prelude.{◌≡◌, ℕ, ◌<◌, ◌⊎◌, List, [], ◌∷◌, length, map, filter, ◌&&◌, ◌==◌, Bool, Contains}
use Rattle.std.specs.List.{AllZip}
use Rattle.vpg_sides.specs.declared.player.Player.{Player}
use Rattle.vpg_guards.specs.Formula.{Formula as Guard, always, truth}
use Rattle.vpg_game.specs.Guarded.{GuardedEdge, GuardedVertex, GuardedGame}
use Rattle.vpg_game.specs.Edges.{join_edge}
use Rattle.vpg_requirement.specs.Actions.{ActionFormula, permits}
use Rattle.vpg_requirement.specs.Systems.{Transition, System}
use Rattle.vpg_requirement.specs.NormalForms.{NormalForm, met, unmet, both, either, some_step, every_step, fixpoint, variable}
use Rattle.vpg_requirement.specs.Situations.{Binder, Situation, situation, situation_at, part_owner, part_priority}

-- a move to a situation, under a guard
pub record GuardedMove : Type 0 where
  pub guard : Guard
  pub to : Situation

-- a move in each product
abbrev pub free_move : Situation → GuardedMove
free_move place = record { guard = always; to = place }

-- the transitions from a state by permitted actions, in their order
abbrev pub leaving : System Guard → ActionFormula → ℕ → List (Transition Guard)
leaving system x s = filter (λ t. (t.step.source == s) && permits x t.step.label) system.transitions

-- the moves to a part by such transitions from a state
abbrev pub step_moves : System Guard → ActionFormula → ℕ → NormalForm → List Binder → List GuardedMove
step_moves system x s f scope =
    map (λ t. record { guard = t.guard; to = situation t.step.target f scope }) (leaving system x s)

-- the moves from a part at a state, as for plain systems, each with its guard
abbrev pub guarded_moves : System Guard → ℕ → NormalForm → List Binder → List GuardedMove
guarded_moves system s met scope = []
guarded_moves system s unmet scope = []
guarded_moves system s (both f g) scope = free_move (situation s f scope) ∷ free_move (situation s g scope) ∷ []
guarded_moves system s (either f g) scope = free_move (situation s f scope) ∷ free_move (situation s g scope) ∷ []
guarded_moves system s (some_step x f) scope = step_moves system x s f scope
guarded_moves system s (every_step x f) scope = step_moves system x s f scope
guarded_moves system s (fixpoint kind p f) scope = free_move (situation s (fixpoint kind p f) scope) ∷ []
guarded_moves system s (variable i) [] = []
guarded_moves system s (variable i) (binder ∷ scope) = free_move (situation s binder.body (binder ∷ scope)) ∷ []

-- Further edges added one by one: if there is an edge to the same vertex already, the new guard is joined to it.
abbrev pub join_edges : List (GuardedEdge Guard) → List (GuardedEdge Guard) → List (GuardedEdge Guard)
join_edges edges [] = edges
join_edges edges (edge ∷ named) = join_edges (join_edge edges edge) named

-- the edge goes to the vertex of the move's situation, under its guard
pub record IsEdgeOf (places : List Situation) (move : GuardedMove) (edge : GuardedEdge Guard) : Type 0 where
  pub guard : edge.guard ≡ move.guard
  pub inside : edge.to < length places
  pub target : situation_at places edge.to ≡ move.to

-- The vertex is that of the situation: its player, its priority, and an edge for each move, joined.
pub record IsRowOf (mover : Player) (low : ℕ) (system : System Guard) (places : List Situation) (place : Situation)
    (vertex : GuardedVertex Guard) : Type 0 where
  pub owner : vertex.owner ≡ part_owner mover place.part
  pub priority : vertex.priority ≡ part_priority low place.part place.scope
  pub named : List (GuardedEdge Guard)
  pub edges : vertex.edges ≡ join_edges [] named
  pub moves : AllZip (IsEdgeOf places) (guarded_moves system place.state place.part place.scope) named

-- The guarded game has a row for each of these situations, in their order, and each move from them leads to one of
-- them.
abbrev pub IsBuiltOf : Player → ℕ → System Guard → List Situation → GuardedGame Guard → Type 0
IsBuiltOf mover low system places game = AllZip (IsRowOf mover low system places) places game

-- ---- guards that are written otherwise

-- an edge to the same vertex, with a guard that is as true in each set of features that counts
pub record IsAlike (Counts : List Bool → Type 0) (edge other : GuardedEdge Guard) : Type 0 where
  pub to : other.to ≡ edge.to
  pub guard : (set : List Bool) → Counts set → truth set other.guard ≡ truth set edge.guard

-- a vertex of the same player and priority, with such edges
pub record IsAlikeVertex (Counts : List Bool → Type 0) (vertex other : GuardedVertex Guard) : Type 0 where
  pub owner : other.owner ≡ vertex.owner
  pub priority : other.priority ≡ vertex.priority
  pub edges : AllZip (IsAlike Counts) vertex.edges other.edges

-- The games differ in guards alone, and in no set of features that counts.
abbrev pub IsAlikeGame : (List Bool → Type 0) → GuardedGame Guard → GuardedGame Guard → Type 0
IsAlikeGame Counts game other = AllZip (IsAlikeVertex Counts) game other

-- ---- only what can be reached

-- the situations that the moves from a situation lead to, in any product
abbrev pub targets_from : System Guard → Situation → List Situation
targets_from system place = map (λ move. move.to) (guarded_moves system place.state place.part place.scope)

-- Each situation of the list is a root, or a move of an earlier one leads to it.
abbrev pub IsReached : System Guard → List Situation → List Situation → Type 0
IsReached system roots places = (v : ℕ) → v < length places → Contains roots (situation_at places v) ⊎
    ((u : ℕ) × (u < v) × Contains (targets_from system (situation_at places u)) (situation_at places v))
