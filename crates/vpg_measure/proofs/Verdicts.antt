-- What the tables of the hopeful game and of that of the dual say of strategies in products.
use Rattle.std.proofs.Common.{true, false, cond, ◌≡◌, ◌≢◌, ℕ, ◌<◌, ◌≤◌, ◌⊎◌, ◌↔◌, inl, inr, Bool, length, refl, sym, subst, Option, Some, None, arith}
use Rattle.std.proofs.lemmas.Bool.{cases_lt}
use Rattle.std.proofs.lemmas.List.{length-map}
use Rattle.vpg_sides.specs.declared.player.Player.{Player}
use Rattle.vpg_sides.specs.declared.player.Player.TheVariants.{Even, Odd}
use Rattle.vpg_guards.specs.declared.tri.Tri.{Tri}
use Rattle.vpg_guards.specs.declared.tri.Tri.TheVariants.{No, Yes}
use Rattle.vpg_hope.specs.Games.{Game, HasEdge, owner_of, priority_of, priorities}
use Rattle.vpg_hope.specs.Strategies.{Strategy, Wins}
use Rattle.vpg_measure.specs.Measures.{Shape, IsShape, Measure, Fits, Top, Components}
use Rattle.vpg_measure.specs.Tables.{Table, IsProgressMeasure, IsBelowAllProgress, IsLeastProgress, FitsFor, FollowsLeast}
use Rattle.vpg_game.specs.Guarded.{GuardedGame, guarded_priorities, IsClosedGuarded, dual}
use Rattle.vpg_hope.specs.Hope.{product_game, hopeful_game, keeps_in_hope, AgreesWithTruth, IsFullOf}
use Rattle.vpg_measure.proofs.Winning.{FollowsFitting, fitting_wins, least_fits}
use Rattle.vpg_measure.proofs.Signature.{top_refutes}
use Rattle.vpg_hope.proofs.Both.{not_both}
use Rattle.vpg_measure.proofs.Easier.{below_harder}
use Rattle.vpg_hope.proofs.Dual.{wins_to_dual, wins_from_dual}
use Rattle.vpg_hope.proofs.Guards.{dual_guards, hopeful_easier, full_same, restrict_closed, restrict_priorities, dual_closed, product_dual, same_count}
use Rattle.vpg_hope.proofs.Edges.{AreEdgesInside}

-- a progress table has a strategy that follows it
module _ (shape : Shape) (game : Game) (table : Table) (progress : IsProgressMeasure shape game table) where
  choice : (player : Player) (v : ℕ) → FitsFor player shape game table v (table v) → Option ℕ
  choice Even v (inl e) = None
  choice Even v (inr w) = Some w.0
  choice Odd v f = None

  choice_fits : (player : Player) (v : ℕ) (f : FitsFor player shape game table v (table v)) → player ≡ Even → table v ≢ Top →
      (w : ℕ) × (choice player v f ≡ Some w) × HasEdge game v w × Fits shape (priority_of game v) (table v) (table w)
  unfolding choice
  choice_fits Even v (inl e) same low = absurd (low e)
  choice_fits Even v (inr w) same low = (w.0, refl, w.1, w.2)
  choice_fits Odd v f same low = cc

  pub fitting_strategy : (strategy : Strategy) × FollowsFitting shape game table strategy
  fitting_strategy = (strategy, λ v inside even low. found v inside even low (cases_lt v (length game)))
    where
      within : (v : ℕ) → (v < length game) ⊎ (length game ≤ v) → Option ℕ
      within v (inl l) = choice (owner_of game v) v (progress.fits v l)
      within v (inr l) = None

      strategy : Strategy
      strategy v = within v (cases_lt v (length game))

      found : (v : ℕ) → v < length game → owner_of game v ≡ Even → table v ≢ Top → (d : (v < length game) ⊎ (length game ≤ v)) →
          (w : ℕ) × (within v d ≡ Some w) × HasEdge game v w × Fits shape (priority_of game v) (table v) (table w)
      found v inside even low (inl l) = choice_fits (owner_of game v) v (progress.fits v l) even low
      found v inside even low (inr l) = absurd (omega arith)

-- below Top in a progress table Even has a winning strategy
pub progress_wins : (shape : Shape) (game : Game) (table : Table) → AreEdgesInside game → IsProgressMeasure shape game table → (strategy : Strategy) × ((v : ℕ) → v < length game → table v ≢ Top → Wins game Even strategy v)
progress_wins shape game table closed progress = of (fitting_strategy shape game table progress)
  where
    of : (strategy : Strategy) × FollowsFitting shape game table strategy → (strategy : Strategy) × ((v : ℕ) → v < length game → table v ≢ Top → Wins game Even strategy v)
    of s = (s.0, λ v inside low. fitting_wins shape game table s.0 closed progress s.1 v inside low)

-- a strategy that takes successors of least prog wins below Top
pub least_prog_wins : (shape : Shape) (game : Game) (table : Table) (strategy : Strategy) → AreEdgesInside game → IsProgressMeasure shape game table → FollowsLeast shape game table strategy → (v : ℕ) → v < length game → table v ≢ Top → Wins game Even strategy v
least_prog_wins shape game table strategy closed progress follows v inside low = fitting_wins shape game table strategy closed progress (least_fits shape game table strategy closed progress follows) v inside low

-- the least progress table is Top exactly where Even has no winning strategy
pub least_decides : (shape : Shape) (game : Game) (table : Table) → AreEdgesInside game → IsShape (priorities game) shape → IsLeastProgress shape game table → (v : ℕ) → v < length game →
    (table v ≡ Top) ↔ ((strategy : Strategy) → Wins game Even strategy v → ⊥)
least_decides shape game table closed is_shape least v inside =
    (λ e strategy wins. top_refutes game strategy v wins closed inside shape is_shape table least.below e, λ h. of (table v) refl h)
  where
    of : (m : Measure) → table v ≡ m → ((strategy : Strategy) → Wins game Even strategy v → ⊥) → table v ≡ Top
    of Top e h = e
    of (Components a) e h = absurd (lost (progress_wins shape game table closed least.progress))
      where
        low : table v ≢ Top
        low t = cc (e, t)

        lost : (strategy : Strategy) × ((v : ℕ) → v < length game → table v ≢ Top → Wins game Even strategy v) → ⊥
        lost s = h s.0 (s.1 v inside low)

module _ (Guard : Type 0) (value : Guard → Tri) where
  pub hopeless_loses : (game : GuardedGame Guard) (shape : Shape) (table : Table) → IsClosedGuarded game → IsShape (guarded_priorities game) shape → IsBelowAllProgress shape (hopeful_game value game) table →
      (v : ℕ) → v < length game → table v ≡ Top → (truth : Guard → Bool) → AgreesWithTruth value truth game → (strategy : Strategy) → Wins (product_game truth game) Even strategy v → ⊥
  hopeless_loses game shape table closed is_shape below v inside e truth agrees strategy wins =
      top_refutes (product_game truth game) strategy v wins (restrict_closed Guard keeps game closed) (rw same_count inside) shape (rw restrict_priorities is_shape) table
      (below_harder (hopeful_game value game) (product_game truth game) (hopeful_easier Guard value truth game agrees) shape table below) e
    where
      keeps : Player → Guard → Bool
      keeps mover guard = truth guard

  pub sure_wins : (game : GuardedGame Guard) (shape : Shape) (table : Table) → IsClosedGuarded game → IsShape (guarded_priorities (dual game)) shape → IsBelowAllProgress shape (hopeful_game value (dual game)) table →
      (v : ℕ) → v < length game → table v ≡ Top → (truth : Guard → Bool) → AgreesWithTruth value truth game → (strategy : Strategy) → Wins (product_game truth game) Odd strategy v → ⊥
  sure_wins game shape table closed is_shape below v inside e truth agrees strategy wins =
      hopeless_loses (dual game) shape table (dual_closed Guard game closed) is_shape below v (rw length-map inside) e truth (dual_guards Guard (λ guard. (value guard ≡ Yes → truth guard ≡ true) × (value guard ≡ No → truth guard ≡ false)) game agrees) strategy
      (subst (λ g. Wins g Even strategy v) (sym (product_dual Guard truth game))
      (wins_to_dual (product_game truth game) Odd strategy v (restrict_closed Guard keeps game closed) (rw same_count inside) wins))
    where
      keeps : Player → Guard → Bool
      keeps mover guard = truth guard

  module _ (truth : Guard → Bool) where
    pub possible_wins : (game : GuardedGame Guard) → IsFullOf value truth game → (shape : Shape) (table : Table) (strategy : Strategy) → IsClosedGuarded game → IsProgressMeasure shape (hopeful_game value game) table → FollowsLeast shape (hopeful_game value game) table strategy →
        (v : ℕ) → v < length game → table v ≢ Top → Wins (product_game truth game) Even strategy v
    possible_wins game full shape table strategy closed progress follows v inside low =
        subst (λ g. Wins g Even strategy v) (full_same Guard value truth game full)
        (least_prog_wins shape (hopeful_game value game) table strategy (restrict_closed Guard keeps game closed) progress follows v (rw same_count inside) low)
      where
        keeps : Player → Guard → Bool
        keeps mover guard = keeps_in_hope mover (value guard)

    has_win : (game : GuardedGame Guard) → IsFullOf value truth game → (shape : Shape) (table : Table) → IsClosedGuarded game → IsProgressMeasure shape (hopeful_game value game) table →
        (v : ℕ) → v < length game → table v ≢ Top → (strategy : Strategy) × Wins (product_game truth game) Even strategy v
    has_win game full shape table closed progress v inside low = of (progress_wins shape (hopeful_game value game) table (restrict_closed Guard keeps game closed) progress)
      where
        keeps : Player → Guard → Bool
        keeps mover guard = keeps_in_hope mover (value guard)

        inside_hope : v < length (hopeful_game value game)
        inside_hope = rw same_count inside

        of : (strategy : Strategy) × ((v : ℕ) → v < length (hopeful_game value game) → table v ≢ Top → Wins (hopeful_game value game) Even strategy v) → (strategy : Strategy) × Wins (product_game truth game) Even strategy v
        of s = (s.0, subst (λ g. Wins g Even s.0 v) (full_same Guard value truth game full) (s.1 v inside_hope low))

    pub unsure_wins : (game : GuardedGame Guard) → IsFullOf value truth game → (shape : Shape) (table : Table) → IsClosedGuarded game → IsProgressMeasure shape (hopeful_game value (dual game)) table →
        (v : ℕ) → v < length game → table v ≢ Top → (strategy : Strategy) × Wins (product_game truth game) Odd strategy v
    unsure_wins game full shape table closed progress v inside low = of (has_win (dual game) (dual_guards Guard (λ guard. value guard ≡ cond (truth guard) Yes No) game full) shape table (dual_closed Guard game closed) progress v (rw length-map inside) low)
      where
        keeps : Player → Guard → Bool
        keeps mover guard = truth guard

        inside_product : v < length (product_game truth game)
        inside_product = rw same_count inside

        of : (strategy : Strategy) × Wins (product_game truth (dual game)) Even strategy v → (strategy : Strategy) × Wins (product_game truth game) Odd strategy v
        of s = (
          s.0,
          wins_from_dual (product_game truth game) Odd s.0 v (restrict_closed Guard keeps game closed) inside_product
              (subst (λ g. Wins g Even s.0 v) (product_dual Guard truth game) s.1),
        )

    pub not_possible_and_unsure : (game : GuardedGame Guard) → IsFullOf value truth game → (shape dual_shape : Shape) (table dual_table : Table) → IsClosedGuarded game → IsProgressMeasure shape (hopeful_game value game) table → IsProgressMeasure dual_shape (hopeful_game value (dual game)) dual_table →
        (v : ℕ) → v < length game → table v ≢ Top → dual_table v ≢ Top → ⊥
    not_possible_and_unsure game full shape dual_shape table dual_table closed progress dual_progress v inside low dual_low =
        clash (has_win game full shape table closed progress v inside low) (unsure_wins game full dual_shape dual_table closed dual_progress v inside dual_low)
      where
        clash : (strategy : Strategy) × Wins (product_game truth game) Even strategy v → (strategy : Strategy) × Wins (product_game truth game) Odd strategy v → ⊥
        clash s t = not_both (product_game truth game) s.0 t.0 v s.1 t.1
