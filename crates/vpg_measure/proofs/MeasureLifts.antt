-- Lifts: they exist, they are the least or the greatest prog, and they keep tables below every progress table.
use Rattle.std.proofs.Common.{◌≡◌, ℕ, ◌<◌, ◌⊎◌, ◌↔◌, inl, inr, List, [], ◌∷◌, length, refl, sym, subst, Contains}
use Rattle.vpg_sides.specs.declared.player.Player.{Player}
use Rattle.vpg_sides.specs.declared.player.Player.TheVariants.{Even, Odd}
use Rattle.vpg_hope.specs.Games.{Game, HasEdge, owner_of, priority_of, successors_of}
use Rattle.vpg_measure.specs.Measures.{Shape, Measure, IsMeasure, AtMost, Fits, zero_measure, Top, Components}
use Rattle.vpg_measure.specs.Tables.{Table, IsTable, zero_table, IsProg, IsLift, IsProgressMeasure, IsBelow, IsBelowAllAt, IsBelowAllProgress, IsLeastProgress, FitsFor, FitsAt, IsLeastOfProgs, IsGreatestOfProgs}
use Rattle.vpg_measure.proofs.MeasureOrder.{AtMost-trans, AtMost-antisym, AtMost-Top, AtMost-total, Fits-up, Fits-down}
use Rattle.vpg_measure.proofs.MeasureProgs.{prog_exists, zeros_in_range, zeros_least}
use Rattle.vpg_hope.proofs.Edges.{AreEdgesInside, Contains-cases, Contains-first, Contains-later, not_in_nil}

-- the least of Top and the progs is Even's lift
pub even_lift : (shape : Shape) (game : Game) (table : Table) (v : ℕ) (m : Measure) → AreEdgesInside game → IsTable shape game table →
    owner_of game v ≡ Even → IsLeastOfProgs shape game table v m → IsLift shape game table v m
even_lift shape game table v m closed range mover h = record { in_range = in_range h.attained; fits = rw mover (fits h.attained); least = λ n r f. least n r (rw mover at f) }
  where
    in_range : (m ≡ Top) ⊎ ((w : ℕ) × HasEdge game v w × IsProg shape (priority_of game v) (table w) m) → IsMeasure shape m
    in_range (inl e) = subst (λ x. IsMeasure shape x) (sym e) tt
    in_range (inr w) = w.2.in_range

    fits : (m ≡ Top) ⊎ ((w : ℕ) × HasEdge game v w × IsProg shape (priority_of game v) (table w) m) → FitsFor Even shape game table v m
    fits (inl e) = inl e
    fits (inr w) = inr (w.0, w.1, w.2.fits)

    through : (w : ℕ) (n : Measure) → IsMeasure shape n → HasEdge game v w → Fits shape (priority_of game v) n (table w) → (k : Measure) × IsProg shape (priority_of game v) (table w) k → AtMost m n
    through w n r e f k = AtMost-trans m k.0 n (h.least w k.0 e k.1) (k.1.least n r f)

    least : (n : Measure) → IsMeasure shape n → FitsFor Even shape game table v n → AtMost m n
    least n r (inl e) = subst (λ x. AtMost m x) (sym e) (AtMost-Top m)
    least n r (inr w) = through w.0 n r w.1 w.2 (prog_exists shape (priority_of game v) (table w.0) (range w.0 (closed v w.0 w.1)))

pub zero_least : (shape : Shape) (n : Measure) → IsMeasure shape n → AtMost (zero_measure shape) n
zero_least shape Top h = tt
zero_least shape (Components a) h = zeros_least shape a h

-- the greatest of zero and the progs is Odd's lift
pub odd_lift : (shape : Shape) (game : Game) (table : Table) (v : ℕ) (m : Measure) → AreEdgesInside game → IsTable shape game table →
    owner_of game v ≡ Odd → IsGreatestOfProgs shape game table v m → IsLift shape game table v m
odd_lift shape game table v m closed range mover h = record { in_range = in_range h.attained; fits = rw mover fits; least = λ n r f. least n r (rw mover at f) h.attained }
  where
    in_range : (m ≡ zero_measure shape) ⊎ ((w : ℕ) × HasEdge game v w × IsProg shape (priority_of game v) (table w) m) → IsMeasure shape m
    in_range (inl e) = subst (λ x. IsMeasure shape x) (sym e) (zeros_in_range shape)
    in_range (inr w) = w.2.in_range

    over : (w : ℕ) → HasEdge game v w → (k : Measure) × IsProg shape (priority_of game v) (table w) k → Fits shape (priority_of game v) m (table w)
    over w e k = Fits-up shape (priority_of game v) k.0 m (table w) k.1.fits (h.greatest w k.0 e k.1)

    fits : FitsFor Odd shape game table v m
    fits w e = over w e (prog_exists shape (priority_of game v) (table w) (range w (closed v w e)))

    least : (n : Measure) → IsMeasure shape n → FitsFor Odd shape game table v n → (m ≡ zero_measure shape) ⊎ ((w : ℕ) × HasEdge game v w × IsProg shape (priority_of game v) (table w) m) → AtMost m n
    least n r f (inl e) = subst (λ x. AtMost x n) (sym e) (zero_least shape n r)
    least n r f (inr w) = w.2.least n r (f w.0 w.1)

-- over a list of vertices, the least of Top and the progs
abbrev pub LeastOver : Shape → ℕ → Table → List ℕ → Measure → Type 0
LeastOver shape p table ws m = record {
  attained : (m ≡ Top) ⊎ ((w : ℕ) × Contains ws w × IsProg shape p (table w) m);
  least : (w : ℕ) (n : Measure) → Contains ws w → IsProg shape p (table w) n → AtMost m n;
}

least_over : (shape : Shape) (p : ℕ) (table : Table) (ws : List ℕ) → ((w : ℕ) → Contains ws w → IsMeasure shape (table w)) → (m : Measure) × IsMeasure shape m × LeastOver shape p table ws m
least_over shape p table [] range = (Top, tt, record { attained = inl refl; least = λ w n c k. absurd (not_in_nil w c) })
least_over shape p table (x ∷ ws) range =
    smaller (least_over shape p table ws (λ w c. range w (Contains-later x ws w c))) (prog_exists shape p (table x) (range x (Contains-first x ws)))
  where
    smaller : (m : Measure) × IsMeasure shape m × LeastOver shape p table ws m → (k : Measure) × IsProg shape p (table x) k → (m : Measure) × IsMeasure shape m × LeastOver shape p table (x ∷ ws) m
    smaller m k = choose (AtMost-total shape m.0 k.0 m.1 k.1.in_range)
      where
        at_first : (w : ℕ) (n : Measure) → x ≡ w → IsProg shape p (table w) n → AtMost k.0 n
        at_first w n e g = k.1.least n g.in_range (subst (λ y. Fits shape p n (table y)) (sym e) g.fits)

        choose : AtMost m.0 k.0 ⊎ AtMost k.0 m.0 → (m : Measure) × IsMeasure shape m × LeastOver shape p table (x ∷ ws) m
        choose (inl h) = (m.0, m.1, record { attained = attained m.2.attained; least = λ w n c g. least w n g (Contains-cases x ws w c) })
          where
            attained : (m.0 ≡ Top) ⊎ ((w : ℕ) × Contains ws w × IsProg shape p (table w) m.0) → (m.0 ≡ Top) ⊎ ((w : ℕ) × Contains (x ∷ ws) w × IsProg shape p (table w) m.0)
            attained (inl e) = inl e
            attained (inr w) = inr (w.0, Contains-later x ws w.0 w.1, w.2)

            least : (w : ℕ) (n : Measure) → IsProg shape p (table w) n → (x ≡ w) ⊎ Contains ws w → AtMost m.0 n
            least w n g (inl e) = AtMost-trans m.0 k.0 n h (at_first w n e g)
            least w n g (inr c) = m.2.least w n c g
        choose (inr h) = (k.0, k.1.in_range, record { attained = inr (x, Contains-first x ws, k.1); least = λ w n c g. least w n g (Contains-cases x ws w c) })
          where
            least : (w : ℕ) (n : Measure) → IsProg shape p (table w) n → (x ≡ w) ⊎ Contains ws w → AtMost k.0 n
            least w n g (inl e) = at_first w n e g
            least w n g (inr c) = AtMost-trans k.0 m.0 n h (m.2.least w n c g)

abbrev pub GreatestOver : Shape → ℕ → Table → List ℕ → Measure → Type 0
GreatestOver shape p table ws m = record {
  attained : (m ≡ zero_measure shape) ⊎ ((w : ℕ) × Contains ws w × IsProg shape p (table w) m);
  greatest : (w : ℕ) (n : Measure) → Contains ws w → IsProg shape p (table w) n → AtMost n m;
}

greatest_over : (shape : Shape) (p : ℕ) (table : Table) (ws : List ℕ) → ((w : ℕ) → Contains ws w → IsMeasure shape (table w)) → (m : Measure) × IsMeasure shape m × GreatestOver shape p table ws m
greatest_over shape p table [] range = (zero_measure shape, zeros_in_range shape, record { attained = inl refl; greatest = λ w n c k. absurd (not_in_nil w c) })
greatest_over shape p table (x ∷ ws) range =
    larger (greatest_over shape p table ws (λ w c. range w (Contains-later x ws w c))) (prog_exists shape p (table x) (range x (Contains-first x ws)))
  where
    larger : (m : Measure) × IsMeasure shape m × GreatestOver shape p table ws m → (k : Measure) × IsProg shape p (table x) k → (m : Measure) × IsMeasure shape m × GreatestOver shape p table (x ∷ ws) m
    larger m k = choose (AtMost-total shape m.0 k.0 m.1 k.1.in_range)
      where
        at_first : (w : ℕ) (n : Measure) → x ≡ w → IsProg shape p (table w) n → AtMost n k.0
        at_first w n e g = g.least k.0 k.1.in_range (subst (λ y. Fits shape p k.0 (table y)) e k.1.fits)

        choose : AtMost m.0 k.0 ⊎ AtMost k.0 m.0 → (m : Measure) × IsMeasure shape m × GreatestOver shape p table (x ∷ ws) m
        choose (inr h) = (m.0, m.1, record { attained = attained m.2.attained; greatest = λ w n c g. greatest w n g (Contains-cases x ws w c) })
          where
            attained : (m.0 ≡ zero_measure shape) ⊎ ((w : ℕ) × Contains ws w × IsProg shape p (table w) m.0) → (m.0 ≡ zero_measure shape) ⊎ ((w : ℕ) × Contains (x ∷ ws) w × IsProg shape p (table w) m.0)
            attained (inl e) = inl e
            attained (inr w) = inr (w.0, Contains-later x ws w.0 w.1, w.2)

            greatest : (w : ℕ) (n : Measure) → IsProg shape p (table w) n → (x ≡ w) ⊎ Contains ws w → AtMost n m.0
            greatest w n g (inl e) = AtMost-trans n k.0 m.0 (at_first w n e g) h
            greatest w n g (inr c) = m.2.greatest w n c g
        choose (inl h) = (k.0, k.1.in_range, record { attained = inr (x, Contains-first x ws, k.1); greatest = λ w n c g. greatest w n g (Contains-cases x ws w c) })
          where
            greatest : (w : ℕ) (n : Measure) → IsProg shape p (table w) n → (x ≡ w) ⊎ Contains ws w → AtMost n k.0
            greatest w n g (inl e) = at_first w n e g
            greatest w n g (inr c) = AtMost-trans n m.0 k.0 (m.2.greatest w n c g) h

-- each vertex has a lift
pub lift_exists : (shape : Shape) (game : Game) (table : Table) (v : ℕ) → AreEdgesInside game → IsTable shape game table → (m : Measure) × IsLift shape game table v m
lift_exists shape game table v closed range = of (owner_of game v) refl
  where
    in_range : (w : ℕ) → HasEdge game v w → IsMeasure shape (table w)
    in_range w e = range w (closed v w e)

    of : (player : Player) → owner_of game v ≡ player → (m : Measure) × IsLift shape game table v m
    of Even e = made (least_over shape (priority_of game v) table (successors_of game v) in_range)
      where
        made : (m : Measure) × IsMeasure shape m × LeastOver shape (priority_of game v) table (successors_of game v) m → (m : Measure) × IsLift shape game table v m
        made m = (m.0, even_lift shape game table v m.0 closed range e record { attained = m.2.attained; least = m.2.least })
    of Odd e = made (greatest_over shape (priority_of game v) table (successors_of game v) in_range)
      where
        made : (m : Measure) × IsMeasure shape m × GreatestOver shape (priority_of game v) table (successors_of game v) m → (m : Measure) × IsLift shape game table v m
        made m = (m.0, odd_lift shape game table v m.0 closed range e record { attained = m.2.attained; greatest = m.2.greatest })

pub lift_unique : (shape : Shape) (game : Game) (table : Table) (v : ℕ) (m n : Measure) → IsLift shape game table v m → IsLift shape game table v n → m ≡ n
lift_unique shape game table v m n h k = AtMost-antisym m n (h.least n k.in_range k.fits) (k.least m h.in_range h.fits)

-- what fits over a table fits over a lower one
pub fits_lower : (shape : Shape) (game : Game) (low high : Table) (v : ℕ) (m : Measure) → AreEdgesInside game → IsBelow game low high → FitsAt shape game high v m → FitsAt shape game low v m
fits_lower shape game low high v m closed below f = of (owner_of game v) f
  where
    lowered : (w : ℕ) → HasEdge game v w → Fits shape (priority_of game v) m (high w) → Fits shape (priority_of game v) m (low w)
    lowered w e h = Fits-down shape (priority_of game v) m (low w) (high w) (below w (closed v w e)) h

    of : (player : Player) → FitsFor player shape game high v m → FitsFor player shape game low v m
    of Even (inl e) = inl e
    of Even (inr w) = inr (w.0, w.1, lowered w.0 w.1 w.2)
    of Odd g = λ w e. lowered w e (g w e)

-- what is above a measure that fits at a vertex fits there
pub fits_raised : (shape : Shape) (game : Game) (table : Table) (v : ℕ) (m n : Measure) → AtMost m n → FitsAt shape game table v m → FitsAt shape game table v n
fits_raised shape game table v m n h f = of (owner_of game v) f
  where
    raised : (w : ℕ) → Fits shape (priority_of game v) m (table w) → Fits shape (priority_of game v) n (table w)
    raised w g = Fits-up shape (priority_of game v) m n (table w) g h

    of : (player : Player) → FitsFor player shape game table v m → FitsFor player shape game table v n
    of Even (inl e) = inl (AtMost-antisym n Top (AtMost-Top n) (subst (λ x. AtMost x n) e h))
    of Even (inr w) = inr (w.0, w.1, raised w.0 w.2)
    of Odd g = λ w e. raised w (g w e)

-- a higher table has higher lifts
pub lift_monotone : (shape : Shape) (game : Game) (low high : Table) (v : ℕ) (m n : Measure) → AreEdgesInside game → IsBelow game low high →
    IsLift shape game low v m → IsLift shape game high v n → AtMost m n
lift_monotone shape game low high v m n closed below h k = h.least n k.in_range (fits_lower shape game low high v n closed below k.fits)

-- the lift of a table below a progress table is below it
pub lift_below : (shape : Shape) (game : Game) (table progress : Table) (v : ℕ) (m : Measure) → AreEdgesInside game → v < length game →
    IsProgressMeasure shape game progress → IsBelow game table progress → IsLift shape game table v m → AtMost m (progress v)
lift_below shape game table progress v m closed inside p below h =
    h.least (progress v) (p.in_range v inside) (fits_lower shape game table progress v (progress v) closed below (p.fits v inside))

-- a value fits exactly where the lift does not exceed it
pub fits_iff_lift : (shape : Shape) (game : Game) (table : Table) (v : ℕ) (m n : Measure) → IsMeasure shape n → IsLift shape game table v m → FitsAt shape game table v n ↔ AtMost m n
fits_iff_lift shape game table v m n r h = (λ f. h.least n r f, λ l. fits_raised shape game table v m n l h.fits)

pub least_unique : (shape : Shape) (game : Game) (s t : Table) → IsLeastProgress shape game s → IsLeastProgress shape game t → (v : ℕ) → v < length game → s v ≡ t v
least_unique shape game s t h k v inside = AtMost-antisym (s v) (t v) (h.below v inside t k.progress) (k.below v inside s h.progress)

pub zero_below : (shape : Shape) (game : Game) → IsBelowAllProgress shape game (zero_table shape)
zero_below shape game v inside other progress = zero_least shape (other v) (progress.in_range v inside)

-- so the lift of a table that is below every progress table is below every value there
pub lift_below_all : (shape : Shape) (game : Game) (table : Table) (v : ℕ) (m : Measure) → AreEdgesInside game → v < length game → IsBelowAllProgress shape game table → IsLift shape game table v m → IsBelowAllAt shape game v m
lift_below_all shape game table v m closed inside below h progress p = lift_below shape game table progress v m closed inside p (λ u l. below u l progress p) h

-- a progress table is one that no lift raises
pub progress_iff_no_rise : (shape : Shape) (game : Game) (table : Table) → AreEdgesInside game → IsTable shape game table →
    IsProgressMeasure shape game table ↔ ((v : ℕ) (m : Measure) → v < length game → IsLift shape game table v m → AtMost m (table v))
progress_iff_no_rise shape game table closed range = (λ h v m inside l. l.least (table v) (range v inside) (h.fits v inside), λ h. record { in_range = range; fits = λ v inside. settled v inside (λ m. h v m inside) (lift_exists shape game table v closed range) })
  where
    settled : (v : ℕ) → v < length game → ((m : Measure) → IsLift shape game table v m → AtMost m (table v)) → (m : Measure) × IsLift shape game table v m → FitsAt shape game table v (table v)
    settled v inside h m = fits_raised shape game table v m.0 (table v) (h m.0 m.1) m.1.fits
