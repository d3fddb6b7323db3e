-- The levels of a game: its odd priorities that occur, greatest first. Each gives a measure one component.
-- Jurdzinski 2000.
use Rattle.std.specs.Prelude.{ℕ, zero, suc, ◌≡◌, ◌+◌, ◌*◌, ◌/◌, ◌%◌, ◌^◌, ◌<◌, ◌≤◌, ◌==◌, nat_lt, nat_le, Bool, ◌&&◌, if◌then◌else◌, max, List, [], ◌∷◌, length, map, slice_index, count_by}
use Rattle.vpg_game.specs.declared.levels.Level.{Level}

abbrev pub is_odd : ℕ → Bool
is_odd p = p % 2 == 1

-- how often p occurs among the priorities
abbrev pub count_of : ℕ → List ℕ → ℕ
count_of p priorities = count_by (λ q. q == p) priorities

-- the odd priorities below a bound that occur, greatest first
abbrev pub levels_below : ℕ → List ℕ → List Level
levels_below zero priorities = []
levels_below (suc p) priorities =
    if is_odd p && nat_lt 0 (count_of p priorities)
    then record { priority = p; count = count_of p priorities } ∷ levels_below p priorities
    else levels_below p priorities

-- one more than the greatest
abbrev pub bound_of : List ℕ → ℕ
bound_of [] = 0
bound_of (p ∷ ps) = max (p + 1) (bound_of ps)

-- the odd priorities that occur with their counts, greatest first
abbrev pub levels_of : List ℕ → List Level
levels_of priorities = levels_below (bound_of priorities) priorities

-- the number of values that a component has
abbrev pub radix_of : Level → ℕ
radix_of l = l.count + 1

-- the product of the radices: the number of the top measure
abbrev pub top_of : List Level → ℕ
top_of [] = 1
top_of (l ∷ ls) = radix_of l * top_of ls

-- the levels below a priority
abbrev pub lower_levels : ℕ → List Level → List Level
lower_levels p [] = []
lower_levels p (l ∷ ls) = if nat_le p l.priority then lower_levels p ls else l ∷ ls

-- the product of the radices below a priority
abbrev pub weight_of : ℕ → List Level → ℕ
weight_of p ls = top_of (lower_levels p ls)

-- the least number with a measure that fits an edge from a vertex of priority p to one of value r
abbrev pub prog_of : List Level → ℕ → ℕ → ℕ
prog_of ls p r =
    if r == top_of ls then r
    else if is_odd p then (r / weight_of p ls + 1) * weight_of p ls
    else r / weight_of p ls * weight_of p ls

-- the product of the radices of the odd priorities below p; one that doesn't occur has radix 1
abbrev pub product_below : ℕ → List ℕ → ℕ
product_below zero priorities = 1
product_below (suc p) priorities =
    if is_odd p then (count_of p priorities + 1) * product_below p priorities else product_below p priorities

-- the count of each odd priority, by priority
pub record AreOddCounts (priorities counts : List ℕ) : Type 0 where
  pub len : length counts ≡ bound_of priorities
  pub each : (p : ℕ) → p < length counts → slice_index counts p ≡ (if is_odd p then count_of p priorities else 0)

-- the weights of the priorities up to a length; from there on they are the top
pub record AreWeights (ls : List Level) (weights : List ℕ) (top : ℕ) : Type 0 where
  pub greatest : top ≡ top_of ls
  pub limit : top_of ls ≤ 2 ^ 62
  pub each : (p : ℕ) → p < length weights → slice_index weights p ≡ weight_of p ls
  pub beyond : (p : ℕ) → length weights ≤ p → weight_of p ls ≡ top_of ls

-- exchanging the players twice gives the same top
abbrev pub DualOfDualHasTop : Type 0
DualOfDualHasTop =
    (priorities : List ℕ) →
    top_of (levels_of (map (λ p. p + 1) (map (λ p. p + 1) priorities))) ≡ top_of (levels_of priorities)
