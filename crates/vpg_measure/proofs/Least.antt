-- Each game has a least progress table.
use Rattle.std.proofs.Common.{◌≡◌, ◌≢◌, ℕ, zero, suc, ◌+◌, ◌*◌, ◌<◌, ◌≤◌, ◌⊎◌, inl, inr, List, [], ◌∷◌, length, refl, sym, subst, mul-le-mul_right, arith}
use Rattle.std.proofs.lemmas.Bool.{cases_eq}
use Rattle.vpg_sides.specs.declared.player.Player.TheVariants.{Even}
use Rattle.vpg_hope.specs.Games.{Game, priorities}
use Rattle.vpg_hope.specs.Strategies.{Strategy, Wins}
use Rattle.vpg_measure.specs.Measures.{Shape, IsShape, Measure, IsMeasure, LexBelow, LexAtMost, AtMost, Top, Components}
use Rattle.vpg_measure.specs.Tables.{Table, IsTable, IsLift, IsProgressMeasure, IsBelowAllProgress, IsLeastProgress, zero_table, FitsAt}
use Rattle.vpg_measure.proofs.MeasureOrder.{AtMost-total}
use Rattle.vpg_measure.proofs.MeasureProgs.{zeros_in_range}
use Rattle.vpg_measure.proofs.MeasureLifts.{lift_exists, lift_below, fits_raised, zero_below}
use Rattle.vpg_measure.proofs.Signature.{top_refutes}
use Rattle.vpg_hope.proofs.Edges.{AreEdgesInside}

-- how many tuples there are
size : Shape → ℕ
size [] = 1
size (place ∷ shape) = suc place.count * size shape

-- the number of a Components in their order
number : Shape → List ℕ → ℕ
number [] a = 0
number (place ∷ shape) [] = 0
number (place ∷ shape) (x ∷ a) = x * size shape + number shape a

carry : (x c s n : ℕ) → x ≤ c → n < s → x * s + n < suc c * s
carry x c s n h l = omega (arith, mul-le-mul_right s h)

number_bound : (shape : Shape) (a : List ℕ) → IsMeasure shape (Components a) → number shape a < size shape
unfolding number size
number_bound [] [] h = omega arith
number_bound [] (x ∷ a) h = absurd h
number_bound (place ∷ shape) [] h = absurd h
number_bound (place ∷ shape) (x ∷ a) h = carry x place.count (size shape) (number shape a) h.0 (number_bound shape a h.1)

pass_by : (x y s n m : ℕ) → x < y → n < s → x * s + n < y * s + m
pass_by x y s n m h l = omega (arith, mul-le-mul_right s h)

number_below : (shape : Shape) (a b : List ℕ) → IsMeasure shape (Components a) → IsMeasure shape (Components b) → LexBelow a b → number shape a < number shape b
unfolding number
number_below [] [] b h k l = absurd l
number_below [] (x ∷ a) b h k l = absurd h
number_below (place ∷ shape) [] b h k l = absurd h
number_below (place ∷ shape) (x ∷ a) [] h k l = absurd k
number_below (place ∷ shape) (x ∷ a) (y ∷ b) h k (inl l) = pass_by x y (size shape) (number shape a) (number shape b) l (number_bound shape a h.1)
number_below (place ∷ shape) (x ∷ a) (y ∷ b) h k (inr l) = same l.0 (number_below shape a b h.1 k.1 l.1)
  where
    same : x ≡ y → number shape a < number shape b → x * size shape + number shape a < y * size shape + number shape b
    same e r = rw e (omega arith)

rank : Shape → Measure → ℕ
rank shape Top = size shape
rank shape (Components a) = number shape a

rank_bound : (shape : Shape) (m : Measure) → IsMeasure shape m → rank shape m ≤ size shape
unfolding rank
rank_bound shape Top h = omega arith
rank_bound shape (Components a) h = omega (arith, number_bound shape a h)

at_most_or_less : (shape : Shape) (m n : Measure) → IsMeasure shape m → IsMeasure shape n → AtMost m n ⊎ (rank shape n < rank shape m)
unfolding rank
at_most_or_less shape Top Top h k = inl tt
at_most_or_less shape (Components a) Top h k = inl tt
at_most_or_less shape Top (Components b) h k = inr (number_bound shape b k)
at_most_or_less shape (Components a) (Components b) h k = of (AtMost-total shape (Components a) (Components b) h k)
  where
    of : LexAtMost a b ⊎ LexAtMost b a → AtMost (Components a) (Components b) ⊎ (number shape b < number shape a)
    of (inl l) = inl l
    of (inr (inl e)) = inl (inl (sym e))
    of (inr (inr l)) = inr (number_below shape b a k h l)

total : (ℕ → ℕ) → ℕ → ℕ
total f zero = 0
total f (suc n) = f n + total f n

total_bound : (f : ℕ → ℕ) (c n : ℕ) → ((v : ℕ) → v < n → f v ≤ c) → total f n ≤ n * c
unfolding total
total_bound f c zero h = omega arith
total_bound f c (suc n) h = step (h n (omega arith)) (total_bound f c n (λ v l. h v (omega arith)))
  where
    step : f n ≤ c → total f n ≤ n * c → f n + total f n ≤ suc n * c
    step a b = omega arith

total_at_most : (f g : ℕ → ℕ) (n : ℕ) → ((v : ℕ) → v < n → f v ≤ g v) → total f n ≤ total g n
unfolding total
total_at_most f g zero h = omega arith
total_at_most f g (suc n) h = step (h n (omega arith)) (total_at_most f g n (λ v l. h v (omega arith)))
  where
    step : f n ≤ g n → total f n ≤ total g n → f n + total f n ≤ g n + total g n
    step a b = omega arith

total_less : (f g : ℕ → ℕ) (n v : ℕ) → ((u : ℕ) → u < n → f u ≤ g u) → v < n → f v < g v → total f n < total g n
unfolding total
total_less f g zero v h l s = absurd (omega arith)
total_less f g (suc n) v h l s = decide (cases_eq v n) (λ below. total_less f g n v (λ u k. h u (omega arith)) below s) (total_at_most f g n (λ u k. h u (omega arith)))
  where
    decide : (v ≡ n) ⊎ (v ≡ n → ⊥) → (v < n → total f n < total g n) → total f n ≤ total g n → f n + total f n < g n + total g n
    decide (inl e) rest weak = omega (arith, subst (λ x. f x < g x) e s)
    decide (inr e) rest weak = omega (arith, rest (omega arith), h n (omega arith))

-- all below n, or one that fails
search_below : (n : ℕ) (P Q : ℕ → Type 0) → ((v : ℕ) → v < n → P v ⊎ Q v) → ((v : ℕ) → v < n → P v) ⊎ ((v : ℕ) × (v < n) × Q v)
search_below zero P Q h = inl (λ v l. absurd (omega arith))
search_below (suc n) P Q h = join (h n (omega arith)) (search_below n P Q (λ v l. h v (omega arith)))
  where
    join : P n ⊎ Q n → ((v : ℕ) → v < n → P v) ⊎ ((v : ℕ) × (v < n) × Q v) → ((v : ℕ) → v < suc n → P v) ⊎ ((v : ℕ) × (v < suc n) × Q v)
    join (inr q) r = inr (n, omega arith, q)
    join (inl p) (inr r) = inr (r.0, up r.1, r.2)
      where
        up : r.0 < n → r.0 < suc n
        up l = omega arith
    join (inl p) (inl r) = inl (λ v l. holds v l (cases_eq v n))
      where
        holds : (v : ℕ) → v < suc n → (v ≡ n) ⊎ (v ≡ n → ⊥) → P v
        holds v l (inl e) = subst P (sym e) p
        holds v l (inr e) = r v (omega arith)

module _ (shape : Shape) (game : Game) (closed : AreEdgesInside game) where
  abbrev rank_at : Table → ℕ → ℕ
  rank_at table v = rank shape (table v)

  -- the lift exceeds the value
  record Rises (table : Table) (v : ℕ) : Type 0 where
    lifted : Measure
    is_lift : IsLift shape game table v lifted
    rises : rank shape (table v) < rank shape lifted

  settled_or_rises : (table : Table) → IsTable shape game table → (v : ℕ) → v < length game → FitsAt shape game table v (table v) ⊎ Rises table v
  settled_or_rises table range v inside = with_lift (lift_exists shape game table v closed range)
    where
      with_lift : (m : Measure) × IsLift shape game table v m → FitsAt shape game table v (table v) ⊎ Rises table v
      with_lift m = of (at_most_or_less shape m.0 (table v) m.1.in_range (range v inside))
        where
          of : AtMost m.0 (table v) ⊎ (rank shape (table v) < rank shape m.0) → FitsAt shape game table v (table v) ⊎ Rises table v
          of (inl l) = inl (fits_raised shape game table v m.0 (table v) l m.1.fits)
          of (inr l) = inr record { lifted = m.0; is_lift = m.1; rises = l }

  settle : (fuel : ℕ) (table : Table) → IsTable shape game table → IsBelowAllProgress shape game table → length game * size shape < total (rank_at table) (length game) + fuel → (least : Table) × IsLeastProgress shape game least
  settle zero table range below enough = absurd (too_many (total_bound (rank_at table) (size shape) (length game) (λ v l. bounded v l)))
    where
      bounded : (v : ℕ) → v < length game → rank_at table v ≤ size shape
      bounded v l = rank_bound shape (table v) (range v l)

      too_many : total (rank_at table) (length game) ≤ length game * size shape → ⊥
      too_many h = omega arith
  settle (suc fuel) table range below enough =
      next (search_below (length game) (λ v. FitsAt shape game table v (table v)) (λ v. Rises table v) (settled_or_rises table range)) (λ t r b e. settle fuel t r b e)
    where
      next : ((v : ℕ) → v < length game → FitsAt shape game table v (table v)) ⊎ ((v : ℕ) × (v < length game) × Rises table v) →
          ((t : Table) → IsTable shape game t → IsBelowAllProgress shape game t → length game * size shape < total (rank_at t) (length game) + fuel → (least : Table) × IsLeastProgress shape game least) →
          (least : Table) × IsLeastProgress shape game least
      next (inl fits) again = (table, record { progress = record { in_range = range; fits = fits }; below = below })
      next (inr r) again = again raised raised_range raised_below (more (total_less (rank_at table) (rank_at raised) (length game) r.0 (λ u l. no_less u (cases_eq u r.0)) r.1 (strictly (cases_eq r.0 r.0))))
        where
          value_at : (u : ℕ) → (u ≡ r.0) ⊎ (u ≡ r.0 → ⊥) → Measure
          value_at u (inl e) = r.2.lifted
          value_at u (inr e) = table u

          raised : Table
          raised u = value_at u (cases_eq u r.0)

          in_range : (u : ℕ) → u < length game → (d : (u ≡ r.0) ⊎ (u ≡ r.0 → ⊥)) → IsMeasure shape (value_at u d)
          in_range u l (inl e) = r.2.is_lift.in_range
          in_range u l (inr e) = range u l

          raised_range : IsTable shape game raised
          raised_range u l = in_range u l (cases_eq u r.0)

          stays : (other : Table) → IsProgressMeasure shape game other → (u : ℕ) → u < length game → (d : (u ≡ r.0) ⊎ (u ≡ r.0 → ⊥)) → AtMost (value_at u d) (other u)
          stays other p u l (inl e) = subst (λ x. AtMost r.2.lifted (other x)) (sym e) (lift_below shape game table other r.0 r.2.lifted closed r.1 p (λ w k. below w k other p) r.2.is_lift)
          stays other p u l (inr e) = below u l other p

          raised_below : IsBelowAllProgress shape game raised
          raised_below u l other p = stays other p u l (cases_eq u r.0)

          no_less_at : (u : ℕ) → (d : (u ≡ r.0) ⊎ (u ≡ r.0 → ⊥)) → rank shape (table u) ≤ rank shape (value_at u d)
          no_less_at u (inl e) = subst (λ x. rank shape (table x) ≤ rank shape r.2.lifted) (sym e) (weak r.2.rises)
            where
              weak : rank shape (table r.0) < rank shape r.2.lifted → rank shape (table r.0) ≤ rank shape r.2.lifted
              weak l = omega arith
          no_less_at u (inr e) = omega arith

          no_less : (u : ℕ) → (u ≡ r.0) ⊎ (u ≡ r.0 → ⊥) → rank_at table u ≤ rank_at raised u
          no_less u d = no_less_at u (cases_eq u r.0)

          strictly_at : (d : (r.0 ≡ r.0) ⊎ (r.0 ≡ r.0 → ⊥)) → rank shape (table r.0) < rank shape (value_at r.0 d)
          strictly_at (inl e) = r.2.rises
          strictly_at (inr e) = absurd (e refl)

          strictly : (r.0 ≡ r.0) ⊎ (r.0 ≡ r.0 → ⊥) → rank_at table r.0 < rank_at raised r.0
          strictly d = strictly_at (cases_eq r.0 r.0)

          more : total (rank_at table) (length game) < total (rank_at raised) (length game) → length game * size shape < total (rank_at raised) (length game) + fuel
          more h = omega arith

  pub least_exists : (least : Table) × IsLeastProgress shape game least
  least_exists = settle (suc (length game * size shape)) (zero_table shape) (λ v l. zeros_in_range shape) (zero_below shape game) (omega arith)

-- a winning strategy gives a progress table below Top
pub win_gives_progress : (shape : Shape) (game : Game) (strategy : Strategy) (v : ℕ) → AreEdgesInside game → IsShape (priorities game) shape → v < length game → Wins game Even strategy v →
    (table : Table) × IsProgressMeasure shape game table × (table v ≢ Top)
win_gives_progress shape game strategy v closed is_shape inside wins = of (least_exists shape game closed)
  where
    of : (least : Table) × IsLeastProgress shape game least → (table : Table) × IsProgressMeasure shape game table × (table v ≢ Top)
    of t = (t.0, t.1.progress, λ e. top_refutes game strategy v wins closed inside shape is_shape t.0 t.1.below e)
