-- A walk over the plays that moves of Even allow, with Odd moving along any edge: a depth-first search (Tarjan 1972),
-- within bounds. This project's own.
use Rattle.std.specs.Prelude.{◌≡◌, ℕ, zero, suc, ◌||◌, ◌==◌, nat_lt, Bool, true, false, if◌then◌else◌, Option, Some, None, List, [], ◌∷◌, ◌++◌, length, filter, position, slice_index_or}
use Rattle.vpg_sides.specs.declared.player.Player.{Player}
use Rattle.vpg_sides.specs.declared.player.Player.TheVariants.{Even, Odd}
use Rattle.vpg_hope.specs.Games.{Game, owner_of, successors_of}
use Rattle.vpg_measure.specs.Views.{strategy_of}
use Rattle.vpg_trace.specs.declared.walking.End.{End}
use Rattle.vpg_trace.specs.declared.walking.End.TheVariants.{GoesOn, Loop, Seen, Stands, Cut}
use Rattle.vpg_trace.specs.declared.walking.Visit.{Visit}
use Rattle.vpg_trace.specs.declared.walking.Waiting.{Waiting}

-- ---- moves

-- whether a move to this vertex is allowed: Even makes the chosen one, Odd any
abbrev pub allows : Player → Option ℕ → ℕ → Bool
allows Odd choice w = true
allows Even None w = false
allows Even (Some chosen) w = chosen == w

-- the targets of the moves from a vertex, in the order of the game
abbrev pub moves_from : Game → List (Option ℕ) → ℕ → List ℕ
moves_from game moves v = filter (allows (owner_of game v) (strategy_of moves v)) (successors_of game v)

-- ---- visits

-- past the last visit there is none
abbrev pub no_visit : Visit
no_visit = record { vertex = 0; before = None; depth = 0; end = Stands }

abbrev pub visit_at : List Visit → ℕ → Visit
visit_at visits k = slice_index_or visits k no_visit

-- the visit before this one
abbrev pub visit_before : List Visit → ℕ → Option ℕ
visit_before visits k = (visit_at visits k).before

-- whether a visit is this one, or on the way to it; the way has at most this many visits
abbrev pub is_above : List Visit → ℕ → ℕ → Option ℕ → Bool
is_above visits k zero at = false
is_above visits k (suc n) None = false
is_above visits k (suc n) (Some i) = (i == k) || is_above visits k n (visit_before visits i)

-- the first visit of a vertex
abbrev pub first_visit : List Visit → ℕ → Option ℕ
first_visit visits v = position (λ visit. visit.vertex == v) visits

-- The end of the first visit of a vertex. A visit in up to 31 side branches goes on.
abbrev pub fresh_end : ℕ → End
fresh_end depth = if nat_lt depth 32 then GoesOn else Cut

-- the end of a visit after this one, given the first visit of its vertex, if there is one
abbrev pub end_where : List Visit → Option ℕ → ℕ → Option ℕ → End
end_where visits before depth None = fresh_end depth
end_where visits before depth (Some k) = if is_above visits k (length visits) before then Loop k else Seen k

-- the end of the waiting visit, after these, if these moves lead from its vertex
abbrev pub end_of : List Visit → Waiting → List ℕ → End
end_of visits next [] = Stands
end_of visits next (w ∷ ws) = end_where visits next.before next.depth (first_visit visits next.vertex)

-- the waiting visit, after these
abbrev pub visit_of : Game → List (Option ℕ) → List Visit → Waiting → Visit
visit_of game moves visits next = record {
  vertex = next.vertex;
  before = next.before;
  depth = next.depth;
  end = end_of visits next (moves_from game moves next.vertex);
}

-- ---- what waits

-- the depth of a side branch
abbrev pub deeper : ℕ → ℕ
deeper depth = if nat_lt depth 32 then suc depth else depth

-- the depth of the next one: the last has this depth, the others are side branches
abbrev pub depth_before : ℕ → List ℕ → ℕ
depth_before depth [] = depth
depth_before depth (w ∷ ws) = deeper depth

-- the visits of these vertices, from the visit of this number
abbrev pub waiting_from : ℕ → ℕ → List ℕ → List Waiting
waiting_from k depth [] = []
waiting_from k depth (w ∷ ws) =
    record { vertex = w; before = Some k; depth = depth_before depth ws } ∷ waiting_from k depth ws

-- they wait if the walk goes on
abbrev pub waiting_by : End → List Waiting → List Waiting
waiting_by GoesOn next = next
waiting_by (Loop k) next = []
waiting_by (Seen k) next = []
waiting_by Stands next = []
waiting_by Cut next = []

-- the visits that the waiting visit adds, after these
abbrev pub opened : Game → List (Option ℕ) → List Visit → Waiting → List Waiting
opened game moves visits next = waiting_by (visit_of game moves visits next).end
    (waiting_from (length visits) next.depth (moves_from game moves next.vertex))

-- ---- the walk

-- the visits that were made, and those that wait
pub record Walked : Type 0 where
  pub visits : List Visit
  pub waiting : List Waiting

abbrev pub walked : List Visit → List Waiting → Walked
walked visits waiting = record { visits = visits; waiting = waiting }

-- at most this many visits, of those that wait and of those that come to wait
abbrev pub walk : Game → List (Option ℕ) → ℕ → List Waiting → List Visit → Walked
walk game moves zero waiting visits = walked visits waiting
walk game moves (suc n) [] visits = walked visits []
walk game moves (suc n) (next ∷ waiting) visits = walk game moves n (opened game moves visits next ++ waiting)
    (visits ++ visit_of game moves visits next ∷ [])

-- the first vertex is still to be visited
abbrev pub start_at : ℕ → List Waiting
start_at first = record { vertex = first; before = None; depth = 0 } ∷ []

-- the walk from a vertex
unfoldable pub walk_from : Game → List (Option ℕ) → ℕ → Walked
walk_from game moves first = walk game moves 1000 (start_at first) []

-- whether visits are left
abbrev pub is_left : List Waiting → Bool
is_left [] = false
is_left (next ∷ waiting) = true

-- The visits are those of the walk from the vertex, with the mark whether it was cut.
pub record IsWalkFrom (game : Game) (moves : List (Option ℕ)) (first : ℕ) (visits : List Visit)
    (is_cut : Bool) : Type 0 where
  pub made : visits ≡ (walk_from game moves first).visits
  pub cut : is_cut ≡ is_left (walk_from game moves first).waiting
