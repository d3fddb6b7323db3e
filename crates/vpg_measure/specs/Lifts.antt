-- Numbers that fit at a vertex, lifts, rounds and strategies. Jurdzinski 2000; rounds, and the choice of the first
-- successor, are this project's own.
use Rattle.std.specs.Prelude.{ℕ, zero, suc, ◌≡◌, ◌≢◌, ◌<◌, ◌≤◌, ◌==◌, nat_lt, ◌&&◌, Bool, true, false, if◌then◌else◌, min, max, List, [], ◌∷◌, length, map, ◌⊎◌, Option, None, Some, slice_get, slice_index, slice_set, All, Any}
use Rattle.std.specs.List.{find}
use Rattle.vpg_game.specs.declared.levels.Level.{Level}
use Rattle.vpg_sides.specs.declared.player.Player.{Player}
use Rattle.vpg_sides.specs.declared.player.Player.TheVariants.{Even, Odd}
use Rattle.vpg_measure.specs.declared.lifts.Outcome.{Outcome}
use Rattle.vpg_measure.specs.declared.lifts.Outcome.TheVariants.{Settled, RanOut}
use Rattle.vpg_game.specs.Levels.{top_of, prog_of}
use Rattle.vpg_measure.specs.Measures.{Fits}
use Rattle.vpg_measure.specs.Numbers.{measure_of}
use Rattle.vpg_hope.specs.Arena.{Vertex, vertex_at}

-- one number up to the top for each vertex
pub record IsTableOf (ls : List Level) (arena : List Vertex) (table : List ℕ) : Type 0 where
  pub len : length table ≡ length arena
  pub within : All (λ n. n ≤ top_of ls) table

-- ---- what fits

-- a number fits an edge from priority p to a value if its measure does
abbrev pub NumberFitsEdge : List Level → ℕ → ℕ → ℕ → Type 0
NumberFitsEdge ls p n r = Fits ls p (measure_of ls n) (measure_of ls r)

-- at Even's vertex some edge, at Odd's every edge
abbrev pub FitsEdges : Player → (ℕ → Type 0) → List ℕ → Type 0
FitsEdges Even P successors = Any P successors
FitsEdges Odd P successors = All P successors

-- the number fits at a vertex: it is the top, or fits one of Even's edges, or all of Odd's
abbrev pub NumberFitsAt : List Level → List ℕ → Vertex → ℕ → Type 0
NumberFitsAt ls table x n =
    (n ≡ top_of ls) ⊎ FitsEdges x.owner (λ w. NumberFitsEdge ls x.priority n (slice_index table w)) x.successors

-- at every vertex the value fits
abbrev pub IsProgressTable : List Level → List Vertex → List ℕ → Type 0
IsProgressTable ls arena table =
    (v : ℕ) → v < length arena → NumberFitsAt ls table (vertex_at arena v) (slice_index table v)

-- ---- lifts

abbrev pub least_of : ℕ → List ℕ → ℕ
least_of limit [] = limit
least_of limit (n ∷ ns) = min n (least_of limit ns)

abbrev pub greatest_of : List ℕ → ℕ
greatest_of [] = 0
greatest_of (n ∷ ns) = max n (greatest_of ns)

-- Even takes the least, or the top if there is none; Odd the greatest, or zero if there is none
abbrev pub best_for : Player → ℕ → List ℕ → ℕ
best_for Even top progs = least_of top progs
best_for Odd top progs = greatest_of progs

-- the least number that fits at a vertex: Even's least `prog`, Odd's greatest
abbrev pub lift_of : List Level → List ℕ → Vertex → ℕ
lift_of ls table x = best_for x.owner (top_of ls) (map (λ w. prog_of ls x.priority (slice_index table w)) x.successors)

-- ---- rounds

-- one vertex is lifted, and no value falls
abbrev pub raised : List Level → List Vertex → List ℕ → ℕ → List ℕ
raised ls arena table v = slice_set table v (max (slice_index table v) (lift_of ls table (vertex_at arena v)))

-- the table after the vertices before v were lifted, each seeing earlier raises
abbrev pub raised_before : List Level → List Vertex → ℕ → List ℕ → List ℕ
raised_before ls arena zero table = table
raised_before ls arena (suc v) table = raised ls arena (raised_before ls arena v table) v

abbrev pub round_of : List Level → List Vertex → List ℕ → List ℕ
round_of ls arena table = raised_before ls arena (length arena) table

-- the table after this many rounds
abbrev pub after_rounds : List Level → List Vertex → ℕ → List ℕ → List ℕ
after_rounds ls arena zero table = table
after_rounds ls arena (suc k) table = round_of ls arena (after_rounds ls arena k table)

-- each of the first k rounds raised something
abbrev pub EachRaised : List Level → List Vertex → List ℕ → ℕ → Type 0
EachRaised ls arena table k = (j : ℕ) → j < k → after_rounds ls arena (suc j) table ≢ after_rounds ls arena j table

-- Settled: a round within the limit raised nothing, and each before it raised something. RanOut: all the rounds raised
-- something.
abbrev pub EndsAs : Outcome → List Level → List Vertex → ℕ → List ℕ → List ℕ → Type 0
EndsAs Settled ls arena rounds old new =
    (k : ℕ) × (k < rounds) × EachRaised ls arena old k × (new ≡ after_rounds ls arena k old) ×
    (round_of ls arena new ≡ new)
EndsAs RanOut ls arena rounds old new = EachRaised ls arena old rounds × (new ≡ after_rounds ls arena rounds old)

-- one table is at most another at every vertex
abbrev pub IsBelowTable : List ℕ → List ℕ → Type 0
IsBelowTable table other =
    (length table ≡ length other) × ((v : ℕ) → v < length table → slice_index table v ≤ slice_index other v)

-- ---- strategies

abbrev pub is_even : Player → Bool
is_even Even = true
is_even Odd = false

-- at Even's vertex below top, the first successor of least `prog`
abbrev pub choice_of : List Level → List ℕ → Vertex → ℕ → Option ℕ
choice_of ls table x n =
    if is_even x.owner && nat_lt n (top_of ls)
    then find (λ w. prog_of ls x.priority (slice_index table w) == lift_of ls table x) x.successors
    else None

-- for each vertex its choice
abbrev pub AreChoices : List Level → List Vertex → List ℕ → List (Option ℕ) → Type 0
AreChoices ls arena table choices =
    (length choices ≡ length arena) ×
    ((v : ℕ) → v < length arena →
    slice_get choices v ≡ Some (choice_of ls table (vertex_at arena v) (slice_index table v)))
