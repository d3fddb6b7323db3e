-- The definitions at a small game: Even's vertex 0 of priority 1 with edges to 1, under a guard f, and to itself; Odd's vertex 1
-- of priority 2 with edges to 0, under a guard g, and to itself. A guard is what is known of it.
use Rattle.std.proofs.Common.{◌≡◌, ℕ, zero, suc, ◌<◌, ◌⊎◌, inl, inr, [], ◌∷◌, refl, subst, Contains, arith}
use Rattle.vpg_sides.specs.declared.player.Player.TheVariants.{Even, Odd}
use Rattle.vpg_guards.specs.declared.tri.Tri.{Tri}
use Rattle.vpg_guards.specs.declared.tri.Tri.TheVariants.{No, Unknown, Yes}
use Rattle.vpg_hope.specs.Games.{Game, IsClosed}
use Rattle.vpg_measure.specs.Measures.{Shape, Measure, IsMeasure, AtMost, LexBelow, LexAtMost, Fits, above, Top, Components}
use Rattle.vpg_measure.specs.Tables.{Table, IsProg, IsLift, IsProgressMeasure, IsLeastProgress, IsTable, zero_table, FitsAt}
use Rattle.vpg_game.specs.Guarded.{GuardedGame}
use Rattle.vpg_hope.specs.Hope.{hopeful_game}
use Rattle.vpg_hope.proofs.Edges.{Contains-first, Contains-cases, not_in_nil, edges_inside}
use Rattle.vpg_measure.proofs.MeasureLifts.{even_lift, lift_below_all, zero_below, zero_least}
use Rattle.vpg_measure.proofs.MeasureProgs.{zeros_in_range}

abbrev guarded : Tri → Tri → GuardedGame Tri
guarded f g = record { owner = Even; priority = 1; edges = record { to = 1; guard = f } ∷ record { to = 0; guard = Yes } ∷ [] }
    ∷ record { owner = Odd; priority = 2; edges = record { to = 0; guard = g } ∷ record { to = 1; guard = Yes } ∷ [] } ∷ []

-- where nothing is known Odd's first edge is not kept
abbrev open_game : Game
open_game = record { owner = Even; priority = 1; successors = 1 ∷ 0 ∷ [] } ∷ record { owner = Odd; priority = 2; successors = 1 ∷ [] } ∷ []

open_is_hopeful : hopeful_game (λ t. t) (guarded Unknown Unknown) ≡ open_game
open_is_hopeful = refl

-- where f is known to fail Even keeps only the loop
excluded_is_hopeful : hopeful_game (λ t. t) (guarded No Unknown) ≡ record { owner = Even; priority = 1; successors = 0 ∷ [] } ∷ record { owner = Odd; priority = 2; successors = 1 ∷ [] } ∷ []
excluded_is_hopeful = refl

abbrev shape : Shape
shape = record { priority = 1; count = 1 } ∷ []

-- the prog of priority 1 over zero is one, over one it is Top
prog_over_zero : IsProg shape 1 (Components (0 ∷ [])) (Components (1 ∷ []))
prog_over_zero = record { in_range = (omega arith, tt); fits = (inr (inl (omega arith)), λ odd. inl (omega arith)); least = least }
  where
    least : (n : Measure) → IsMeasure shape n → Fits shape 1 n (Components (0 ∷ [])) → AtMost (Components (1 ∷ [])) n
    least Top r f = tt
    least (Components []) r f = absurd r
    least (Components (x ∷ y ∷ a)) r f = absurd r.1
    least (Components (x ∷ [])) r f = of (f.1 refl)
      where
        of : (0 < x) ⊎ ((0 ≡ x) × ⊥) → LexAtMost (1 ∷ []) (x ∷ [])
        of (inl l) = elim (up l) [ inl e ↦ inl e | inr k ↦ inr (inl k) ]
          where
            up : 0 < x → ((1 ∷ []) ≡ (x ∷ [])) ⊎ (1 < x)
            up l = grind arith
        of (inr k) = absurd k.1

prog_over_one : IsProg shape 1 (Components (1 ∷ [])) Top
prog_over_one = record { in_range = tt; fits = tt; least = least }
  where
    least : (n : Measure) → IsMeasure shape n → Fits shape 1 n (Components (1 ∷ [])) → AtMost Top n
    least Top r f = tt
    least (Components []) r f = absurd r
    least (Components (x ∷ a)) r f = of (f.1 refl)
      where
        of : (1 < x) ⊎ ((1 ≡ x) × LexBelow [] (above [] 1 a)) → ⊥
        of (inl l) = omega (arith, r.0)
        of (inr k) = k.1

-- the least progress table where nothing is known: one at 0 and zero at 1
abbrev least_table : Table
least_table zero = Components (1 ∷ [])
least_table (suc v) = Components (0 ∷ [])

closed : IsClosed open_game
closed zero d l zero e k = omega arith
closed zero d l (suc zero) e k = omega arith
closed zero d l (suc (suc j)) e k = absurd (omega arith)
closed (suc zero) d l zero e k = omega arith
closed (suc zero) d l (suc j) e k = absurd (omega arith)
closed (suc (suc i)) d l j e k = absurd (omega arith)

is_progress : IsProgressMeasure shape open_game least_table
is_progress = record { in_range = in_range; fits = fits }
  where
    in_range : IsTable shape open_game least_table
    in_range zero l = (omega arith, tt)
    in_range (suc v) l = (omega arith, tt)

    fits : (v : ℕ) → v < 2 → FitsAt shape open_game least_table v (least_table v)
    fits zero l = inr (1, Contains-first 1 (0 ∷ []), (inr (inl (omega arith)), λ odd. inl (omega arith)))
    fits (suc zero) l = over
      where
        over : (w : ℕ) → Contains (1 ∷ []) w → Fits shape 2 (Components (0 ∷ [])) (least_table w)
        over w c = of (Contains-cases 1 [] w c)
          where
            of : (1 ≡ w) ⊎ Contains [] w → Fits shape 2 (Components (0 ∷ [])) (least_table w)
            of (inl e) = subst (λ x. Fits shape 2 (Components (0 ∷ [])) (least_table x)) e (inl refl, λ odd. absurd (cc))
            of (inr k) = absurd (not_in_nil w k)
    fits (suc (suc v)) l = absurd (omega arith)

-- each progress table is above it
is_least : IsLeastProgress shape open_game least_table
is_least = record { progress = is_progress; below = below }
  where
    first_lift : IsLift shape open_game (zero_table shape) 0 (Components (1 ∷ []))
    first_lift = even_lift shape open_game (zero_table shape) 0 (Components (1 ∷ [])) (edges_inside open_game closed) (λ v l. zeros_in_range shape) refl
        record { attained = inr (1, Contains-first 1 (0 ∷ []), prog_over_zero); least = λ w n c h. prog_over_zero.least n h.in_range h.fits }

    below : (v : ℕ) → v < 2 → (progress : Table) → IsProgressMeasure shape open_game progress → AtMost (least_table v) (progress v)
    below zero l progress p = lift_below_all shape open_game (zero_table shape) 0 (Components (1 ∷ [])) (edges_inside open_game closed) l (zero_below shape open_game) first_lift progress p
    below (suc v) l progress p = zero_least shape (progress (suc v)) (p.in_range (suc v) l)
