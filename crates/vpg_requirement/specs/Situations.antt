-- The game in which Even shows that a normal form holds at a state, and Odd that it does not: the model-checking game
-- of Stirling (Local model checking games, CONCUR 1995) with priorities. A situation is a state, a part of the normal
-- form, and the fixpoints that the part stands in, innermost first; these are kept in place of names.
use Rattle.std.specs.Prelude.{◌≡◌, ℕ, ◌<◌, List, [], ◌∷◌, length, map, drop, slice_index_or, Contains}
use Rattle.vpg_sides.specs.declared.player.Player.{Player}
use Rattle.vpg_sides.specs.declared.player.Player.TheVariants.{Even, Odd}
use Rattle.vpg_hope.specs.Games.{Game, HasEdge, IsClosed, owner_of, priority_of}
use Rattle.vpg_requirement.specs.Systems.{PlainSystem, successors}
use Rattle.vpg_requirement.specs.Fixpoints.{Kind}
use Rattle.vpg_requirement.specs.NormalForms.{NormalForm, met, unmet, both, either, some_step, every_step, fixpoint, variable}

-- a fixpoint that a part stands in
pub record Binder : Type 0 where
  pub kind : Kind
  pub priority : ℕ
  pub body : NormalForm

-- a situation of the game; the scope has the fixpoints round the part, innermost first
pub record Situation : Type 0 where
  pub state : ℕ
  pub part : NormalForm
  pub scope : List Binder

-- The situation of a part at a state. If the part is `true` or `false`, neither the state nor the scope matters, so
-- there is one situation for each. A fixpoint and its variable are one situation too: the variable, with its fixpoint
-- as the innermost of the scope.
abbrev pub situation : ℕ → NormalForm → List Binder → Situation
situation s met scope = record { state = 0; part = met; scope = [] }
situation s unmet scope = record { state = 0; part = unmet; scope = [] }
situation s (both f g) scope = record { state = s; part = both f g; scope = scope }
situation s (either f g) scope = record { state = s; part = either f g; scope = scope }
situation s (some_step x f) scope = record { state = s; part = some_step x f; scope = scope }
situation s (every_step x f) scope = record { state = s; part = every_step x f; scope = scope }
situation s (fixpoint kind p f) scope =
    record { state = s; part = variable 0; scope = record { kind = kind; priority = p; body = f } ∷ scope }
situation s (variable i) scope = record { state = s; part = variable 0; scope = drop i scope }

-- The targets of the moves from a part at a state: the parts of `and` and `or`; each permitted step; the body of a
-- fixpoint that is taken up.
abbrev pub moves_of : PlainSystem → ℕ → NormalForm → List Binder → List Situation
moves_of system s met scope = []
moves_of system s unmet scope = []
moves_of system s (both f g) scope = situation s f scope ∷ situation s g scope ∷ []
moves_of system s (either f g) scope = situation s f scope ∷ situation s g scope ∷ []
moves_of system s (some_step x f) scope = map (λ t. situation t f scope) (successors system x s)
moves_of system s (every_step x f) scope = map (λ t. situation t f scope) (successors system x s)
moves_of system s (fixpoint kind p f) scope = situation s (fixpoint kind p f) scope ∷ []
moves_of system s (variable i) [] = []
moves_of system s (variable i) (binder ∷ scope) = situation s binder.body (binder ∷ scope) ∷ []

-- the targets of the moves from a situation
abbrev pub moves_from : PlainSystem → Situation → List Situation
moves_from system place = moves_of system place.state place.part place.scope

-- The player who moves at a part: Even at `or` and at diamonds, Odd at `and` and at boxes. At `true` it is Odd and at
-- `false` Even, who loses there without a move. If a fixpoint is taken up there is one move, and either player may make
-- it.
abbrev pub part_owner : Player → NormalForm → Player
part_owner mover met = Odd
part_owner mover unmet = Even
part_owner mover (both f g) = Odd
part_owner mover (either f g) = Even
part_owner mover (some_step x f) = Even
part_owner mover (every_step x f) = Odd
part_owner mover (fixpoint kind p f) = mover
part_owner mover (variable i) = mover

-- the priority of a part: that of the fixpoint if one is taken up, and the lowest elsewhere
abbrev pub part_priority : ℕ → NormalForm → List Binder → ℕ
part_priority low (variable i) [] = low
part_priority low (variable i) (binder ∷ scope) = binder.priority
part_priority low met scope = low
part_priority low unmet scope = low
part_priority low (both f g) scope = low
part_priority low (either f g) scope = low
part_priority low (some_step x f) scope = low
part_priority low (every_step x f) scope = low
part_priority low (fixpoint kind p f) scope = low

-- past the end of a list of situations there is only `false`
abbrev pub no_situation : Situation
no_situation = record { state = 0; part = unmet; scope = [] }

-- the situation at a place of the list
abbrev pub situation_at : List Situation → ℕ → Situation
situation_at places v = slice_index_or places v no_situation

-- The plain game has a vertex for each of these situations, in their order, and its edges are their moves.
pub record IsGameOfSituations (mover : Player) (low : ℕ) (system : PlainSystem) (places : List Situation)
    (game : Game) : Type 0 where
  pub count : length game ≡ length places
  pub inside : IsClosed game
  pub owners : (v : ℕ) → v < length game → owner_of game v ≡ part_owner mover (situation_at places v).part
  pub priorities : (v : ℕ) → v < length game →
      priority_of game v ≡ part_priority low (situation_at places v).part (situation_at places v).scope
  pub sound : (v w : ℕ) → HasEdge game v w →
      Contains (moves_from system (situation_at places v)) (situation_at places w)
  pub complete : (v : ℕ) → v < length game → (place : Situation) →
      Contains (moves_from system (situation_at places v)) place →
      (w : ℕ) × HasEdge game v w × (situation_at places w ≡ place)
