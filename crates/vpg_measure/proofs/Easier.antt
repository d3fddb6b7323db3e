-- What holds in a game holds in one that favours Even more.
use Rattle.std.proofs.Common.{◌≡◌, ℕ, ◌⊎◌, inl, inr, max, refl, sym, subst, Some}
use Rattle.vpg_sides.specs.declared.player.Player.{Player}
use Rattle.vpg_sides.specs.declared.player.Player.TheVariants.{Even, Odd}
use Rattle.vpg_hope.specs.Games.{Game, owner_of, priority_of}
use Rattle.vpg_hope.specs.Strategies.{Strategy, AllowsMove, Reaches, Walk, Wins, here, onward, move, moves}
use Rattle.vpg_measure.specs.Measures.{Shape, Measure, Fits}
use Rattle.vpg_measure.specs.Tables.{Table, IsProgressMeasure, IsBelowAllAt, IsBelowAllProgress, FitsAt, FitsFor}
use Rattle.vpg_hope.specs.Comparison.{IsEasier}
use Rattle.vpg_hope.proofs.Reach.{cases_player, reaches_move}

module _ (easy hard : Game) (easier : IsEasier easy hard) where
  fits_easier : (shape : Shape) (table : Table) (v : ℕ) (m : Measure) → FitsAt shape hard table v m → FitsAt shape easy table v m
  fits_easier shape table v m f = rw (easier.same_owner v) (of (owner_of hard v) refl f)
    where
      over : (w : ℕ) → Fits shape (priority_of hard v) m (table w) → Fits shape (priority_of easy v) m (table w)
      over w g = rw (easier.same_priority v) g

      of : (player : Player) → owner_of hard v ≡ player → FitsFor player shape hard table v m → FitsFor player shape easy table v m
      of Even e (inl t) = inl t
      of Even e (inr w) = inr (w.0, easier.even v w.0 e w.1, over w.0 w.2)
      of Odd e g = λ w c. over w (g w (easier.odd v w e c))

  -- a progress table of the harder game is one of the easier game
  pub progress_easier : (shape : Shape) (table : Table) → IsProgressMeasure shape hard table → IsProgressMeasure shape easy table
  progress_easier shape table h = record {
    in_range = λ v l. h.in_range v (rw easier.same_count at l);
    fits = λ v l. fits_easier shape table v (table v) (h.fits v (rw easier.same_count at l));
  }

  -- so a measure below every value there is so in the harder game
  pub value_below_harder : (shape : Shape) (v : ℕ) (m : Measure) → IsBelowAllAt shape easy v m → IsBelowAllAt shape hard v m
  value_below_harder shape v m below other progress = below other (progress_easier shape other progress)

  pub below_harder : (shape : Shape) (table : Table) → IsBelowAllProgress shape easy table → IsBelowAllProgress shape hard table
  below_harder shape table below v l = value_below_harder shape v (table v) (below v (rw easier.same_count l))

  -- a strategy of Even that wins the harder game wins the easier one
  module _ (strategy : Strategy) (start : ℕ) (wins : Wins hard Even strategy start) where
    allows_harder : (v w : ℕ) → Reaches hard Even strategy start v → AllowsMove easy Even strategy v w → AllowsMove hard Even strategy v w
    allows_harder v w r a = of (cases_player (owner_of hard v) Even)
      where
        of : (owner_of hard v ≡ Even) ⊎ (owner_of hard v ≡ Odd) → AllowsMove hard Even strategy v w
        of (inr odd) = (easier.odd v w odd a.0, λ even. clash even)
          where
            clash : owner_of hard v ≡ Even → strategy v ≡ Some w
            clash even = cc (even, odd)
        of (inl even) = chosen (wins.can_move v r even)
          where
            chosen : (x : ℕ) × AllowsMove hard Even strategy v x → AllowsMove hard Even strategy v w
            chosen x = subst (λ y. AllowsMove hard Even strategy v y) same x.1
              where
                taken : strategy v ≡ Some w
                taken = a.1 (rw (easier.same_owner v) even)

                expected : strategy v ≡ Some x.0
                expected = x.1.1 even

                same : x.0 ≡ w
                same = cc (taken, expected)

    reaches_harder : {v u : ℕ} → Reaches hard Even strategy start v → Reaches easy Even strategy v u → Reaches hard Even strategy start u
    reaches_harder r here = r
    reaches_harder r (onward {v} {w} a q) = reaches_harder (reaches_move hard Even strategy r (allows_harder v w r a)) q

    walk_harder : {v u m : ℕ} → Reaches hard Even strategy start v → Walk easy Even strategy v u m → Walk hard Even strategy v u m
    walk_harder r (move {v} {w} a) = subst (λ n. Walk hard Even strategy v w n) (sym (easier.same_priority v)) (move (allows_harder v w r a))
    walk_harder r (moves {v} {w} {u} {m} a q) =
        subst (λ n. Walk hard Even strategy v u (max n m)) (sym (easier.same_priority v)) (moves (allows_harder v w r a) (walk_harder (reaches_move hard Even strategy r (allows_harder v w r a)) q))

    pub wins_easier : Wins easy Even strategy start
    wins_easier = record { can_move = can_move; cycles = λ u m r q. wins.cycles u m (reaches_harder here r) (walk_harder (reaches_harder here r) q) }
      where
        can_move : (u : ℕ) → Reaches easy Even strategy start u → owner_of easy u ≡ Even → (w : ℕ) × AllowsMove easy Even strategy u w
        can_move u r even = chosen (wins.can_move u (reaches_harder here r) even_there)
          where
            even_there : owner_of hard u ≡ Even
            even_there = rw (easier.same_owner u) at even

            chosen : (w : ℕ) × AllowsMove hard Even strategy u w → (w : ℕ) × AllowsMove easy Even strategy u w
            chosen w = (w.0, (easier.even u w.0 even_there w.1.0, λ e. w.1.1 even_there))
