-- The meaning of a walk: a part of the tree of all plays that the moves allow. Strategies and the plays that they allow
-- are the standard of parity games; the walk is this project's own.
use Rattle.std.specs.Prelude.{◌≡◌, ◌≢◌, ℕ, ◌<◌, ◌≤◌, Option, Some, None, List, length}
use Rattle.vpg_sides.specs.declared.player.Player.TheVariants.{Even}
use Rattle.vpg_hope.specs.Games.{Game}
use Rattle.vpg_hope.specs.Strategies.{AllowsMove}
use Rattle.vpg_measure.specs.Views.{strategy_of}
use Rattle.vpg_trace.specs.declared.walking.End.{End}
use Rattle.vpg_trace.specs.declared.walking.End.TheVariants.{GoesOn, Loop, Seen, Stands, Cut}
use Rattle.vpg_trace.specs.declared.walking.Visit.{Visit}
use Rattle.vpg_trace.specs.Walks.{visit_at, visit_before}

-- a move from the first vertex to the second that Even's moves allow
abbrev pub Moves : Game → List (Option ℕ) → ℕ → ℕ → Type 0
Moves game moves v w = AllowsMove game Even (strategy_of moves) v w

-- the first visit is the second, or on the way to it
pub data IsAbove (visits : List Visit) : ℕ → ℕ → Type 0 where
  same : {k : ℕ} → IsAbove visits k k
  back : {k i j : ℕ} → visit_before visits j ≡ Some i → IsAbove visits k i → IsAbove visits k j

-- the visit comes from an earlier one, which goes on, by a move that is allowed
pub record ComesFrom (game : Game) (moves : List (Option ℕ)) (visits : List Visit) (i p : ℕ) : Type 0 where
  pub before : visit_before visits i ≡ Some p
  pub earlier : p < i
  pub goes_on : (visit_at visits p).end ≡ GoesOn
  pub move : Moves game moves (visit_at visits p).vertex (visit_at visits i).vertex

-- no earlier visit is of this one's vertex
abbrev pub IsFirst : List Visit → ℕ → Type 0
IsFirst visits i = (j : ℕ) → j < i → (visit_at visits j).vertex ≢ (visit_at visits i).vertex

-- the visit ends as it says
abbrev pub EndsAs : Game → List (Option ℕ) → List Visit → ℕ → End → Type 0
EndsAs game moves visits i GoesOn = IsFirst visits i
EndsAs game moves visits i (Loop k) =
    (k < i) × ((visit_at visits k).vertex ≡ (visit_at visits i).vertex) × IsAbove visits k i
EndsAs game moves visits i (Seen k) = (k < i) × ((visit_at visits k).vertex ≡ (visit_at visits i).vertex)
EndsAs game moves visits i Stands = (w : ℕ) → Moves game moves (visit_at visits i).vertex w → ⊥
EndsAs game moves visits i Cut = IsFirst visits i × (32 ≤ (visit_at visits i).depth)

-- The first visit is of the vertex, each other one comes from an earlier one, and each ends as it says.
pub record IsTrace (game : Game) (moves : List (Option ℕ)) (first : ℕ) (visits : List Visit) : Type 0 where
  pub some : 0 < length visits
  pub begins : (visit_at visits 0).vertex ≡ first
  pub start : visit_before visits 0 ≡ None
  pub others : (i : ℕ) → 0 < i → i < length visits → (p : ℕ) × ComesFrom game moves visits i p
  pub ends : (i : ℕ) → i < length visits → EndsAs game moves visits i (visit_at visits i).end

-- Some visit comes from this one, of this vertex.
pub record IsFollowed (visits : List Visit) (p w : ℕ) : Type 0 where
  pub visit : ℕ
  pub within : visit < length visits
  pub before : visit_before visits visit ≡ Some p
  pub vertex : (visit_at visits visit).vertex ≡ w

-- Each allowed move from a visit that goes on is followed.
abbrev pub IsComplete : Game → List (Option ℕ) → List Visit → Type 0
IsComplete game moves visits = (p w : ℕ) → p < length visits → (visit_at visits p).end ≡ GoesOn →
    Moves game moves (visit_at visits p).vertex w → IsFollowed visits p w
