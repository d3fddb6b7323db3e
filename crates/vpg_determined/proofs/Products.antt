-- What determinacy says of product lines.
use Rattle.std.proofs.Common.{◌≡◌, ℕ, suc, ◌<◌, ◌≤◌, ◌⊎◌, inl, inr, Bool, true, false, List, [], ◌∷◌, length, get_or, map, filter, slice_index, refl, sym, ap, ◌∙◌, subst, arith}
use Rattle.std.proofs.lemmas.List.{length-map}
use Rattle.vpg_sides.specs.declared.player.Player.{Player}
use Rattle.vpg_sides.specs.declared.player.Player.TheVariants.{Even, Odd}
use Rattle.vpg_sides.specs.Players.{opponent}
use Rattle.vpg_guards.specs.declared.tri.Tri.{Tri}
use Rattle.vpg_guards.specs.declared.tri.Tri.TheVariants.{No, Unknown, Yes}
use Rattle.vpg_game.specs.Guarded.{GuardedGame, guarded_priorities, IsClosedGuarded, AllGuards, dual}
use Rattle.vpg_game.specs.Levels.{levels_of, top_of}
use Rattle.vpg_hope.specs.Comparison.{IsEasier, dual_game}
use Rattle.vpg_hope.specs.Games.{priorities}
use Rattle.vpg_hope.specs.Hope.{product_game, hopeful_game, cautious_game, keeps_in_hope, AgreesWithTruth}
use Rattle.vpg_hope.specs.Strategies.{Strategy, Wins}
use Rattle.vpg_hope.proofs.Both.{not_both}
use Rattle.vpg_hope.proofs.Dual.{opponent_twice, wins_to_dual, wins_from_dual}
use Rattle.vpg_hope.proofs.Edges.{AreEdgesInside}
use Rattle.vpg_hope.proofs.Guards.{restrict_closed, restrict_priorities, dual_closed, dual_guards, product_dual, same_count, same_owner, same_priority, edge_more, cautious_harder}
use Rattle.vpg_sides.specs.declared.which.Which.{Which}
use Rattle.vpg_sides.specs.declared.which.Which.TheVariants.{Hopeful, Dual}
use Rattle.vpg_measure.specs.Least.{IsValueBelow}
use Rattle.vpg_measure.specs.Lifts.{IsTableOf, IsProgressTable}
use Rattle.vpg_measure.specs.Measures.{Shape, IsShape, Top}
use Rattle.vpg_measure.specs.Orders.{other_table}
use Rattle.vpg_measure.specs.Tables.{Table, IsBelowAllProgress}
use Rattle.vpg_measure.specs.TwoGames.{game_for, levels_for, top_for, arena_for, IsTableBelow}
use Rattle.vpg_measure.proofs.Easier.{wins_easier}
use Rattle.vpg_measure.proofs.Below.{win_gives_numbers}
use Rattle.vpg_measure.proofs.Signature.{top_refutes}
use Rattle.vpg_measure.proofs.TwoGames.{arena_closed}
use Rattle.vpg_determined.specs.Determined.{HasWin}
use Rattle.vpg_determined.specs.ProductLaws.{HasWinningMoves}
use Rattle.vpg_determined.proofs.Winning.{determined}

module _ (Guard : Type 0) (value : Guard → Tri) where
  abbrev hope : Player → Guard → Bool
  hope mover guard = keeps_in_hope mover (value guard)

  abbrev caution : Player → Guard → Bool
  caution mover guard = keeps_in_hope (opponent mover) (value guard)

  -- the hopeful game of the dual is the dual of the cautious game
  hopeful_of_dual : (game : GuardedGame Guard) → hopeful_game value (dual game) ≡ dual_game (cautious_game value game)
  hopeful_of_dual [] = refl
  hopeful_of_dual (x ∷ game) = ap (λ rest. record {
    owner = opponent x.owner;
    priority = suc x.priority;
    successors = map (λ edge. edge.to) (filter (λ edge. caution x.owner edge.guard) x.edges);
  } ∷ rest) (hopeful_of_dual game)

  -- and the cautious game of the dual that of the hopeful game
  cautious_of_dual : (game : GuardedGame Guard) → cautious_game value (dual game) ≡ dual_game (hopeful_game value game)
  cautious_of_dual [] = refl
  cautious_of_dual (x ∷ game) = joined (opponent_twice x.owner) (cautious_of_dual game)
    where
      joined : opponent (opponent x.owner) ≡ x.owner →
          cautious_game value (dual game) ≡ dual_game (hopeful_game value game) →
          cautious_game value (dual (x ∷ game)) ≡ dual_game (hopeful_game value (x ∷ game))
      joined e f = λ i. record {
        owner = opponent x.owner;
        priority = suc x.priority;
        successors = map (λ edge. edge.to) (filter (λ edge. keeps_in_hope (e i) (value edge.guard)) x.edges);
      } ∷ f i

  module _ (game : GuardedGame Guard) (closed : IsClosedGuarded game) (v : ℕ) (inside : v < length game) where
    hope_edges : AreEdgesInside (hopeful_game value game)
    hope_edges = restrict_closed Guard hope game closed

    hope_inside : v < length (hopeful_game value game)
    hope_inside = rw same_count inside

    caution_edges : AreEdgesInside (cautious_game value game)
    caution_edges = restrict_closed Guard caution game closed

    caution_inside : v < length (cautious_game value game)
    caution_inside = rw same_count inside

    pub dual_inside : v < length (dual game)
    dual_inside = rw length-map inside

    -- who wins the cautious game wins every product
    won_by_caution : (mover : Which) (strategy : Strategy) →
        Wins (cautious_game value (game_for mover game)) Even strategy v → HasWinningMoves value mover game v
    won_by_caution Hopeful strategy wins = record {
      strategy = strategy;
      cautious = wins;
      wins = λ truth agrees. wins_easier (product_game truth game) (cautious_game value game)
          (cautious_harder Guard value truth game agrees) strategy v wins;
    }
    won_by_caution Dual strategy wins = record { strategy = strategy; cautious = wins; wins = in_each }
      where
        in_each : (truth : Guard → Bool) → AgreesWithTruth value truth game →
            Wins (product_game truth game) Odd strategy v
        in_each truth agrees =
            wins_from_dual (product_game truth game) Odd strategy v
            (restrict_closed Guard (λ mover guard. truth guard) game closed) (rw same_count inside)
            (subst (λ g. Wins g Even strategy v) (product_dual Guard truth game)
            (wins_easier (product_game truth (dual game)) (cautious_game value (dual game))
            (cautious_harder Guard value truth (dual game)
            (dual_guards Guard (λ guard. (value guard ≡ Yes → truth guard ≡ true) ×
            (value guard ≡ No → truth guard ≡ false)) game agrees)) strategy v wins))

    -- who loses the other player's hopeful game as Odd wins the cautious game as Even
    mirrored : (mover : Which) (strategy : Strategy) → Wins (arena_for value (other_table mover) game) Odd strategy v →
        Wins (cautious_game value (game_for mover game)) Even strategy v
    mirrored Hopeful strategy wins =
        wins_from_dual (cautious_game value game) Even strategy v caution_edges caution_inside
        (subst (λ g. Wins g Odd strategy v) (hopeful_of_dual game) wins)
    mirrored Dual strategy wins =
        subst (λ g. Wins g Even strategy v) (sym (cautious_of_dual game))
        (wins_to_dual (hopeful_game value game) Odd strategy v hope_edges hope_inside wins)

    one_wins : (which : Which) → HasWin (arena_for value which game) Even v ⊎ HasWin (arena_for value which game) Odd v
    one_wins Hopeful = determined (hopeful_game value game) v hope_edges hope_inside
    one_wins Dual =
        determined (hopeful_game value (dual game)) v
        (restrict_closed Guard hope (dual game) (dual_closed Guard game closed)) (rw same_count dual_inside)

    pub hope_or_caution : (mover : Which) → HasWin (arena_for value (other_table mover) game) Even v ⊎
        HasWinningMoves value mover game v
    hope_or_caution mover = of (one_wins (other_table mover))
      where
        of : HasWin (arena_for value (other_table mover) game) Even v ⊎
            HasWin (arena_for value (other_table mover) game) Odd v →
            HasWin (arena_for value (other_table mover) game) Even v ⊎ HasWinningMoves value mover game v
        of (inl s) = inl s
        of (inr s) = inr (won_by_caution mover s.0 (mirrored mover s.0 s.1))

    -- so where no strategy wins the hopeful game
    pub lost_hope : (mover : Which) →
        ((strategy : Strategy) → Wins (arena_for value (other_table mover) game) Even strategy v → ⊥) →
        HasWinningMoves value mover game v
    lost_hope mover none = of (hope_or_caution mover)
      where
        of : HasWin (arena_for value (other_table mover) game) Even v ⊎ HasWinningMoves value mover game v →
            HasWinningMoves value mover game v
        of (inl s) = absurd (none s.0 s.1)
        of (inr h) = h

  -- each player keeps in caution what the other keeps in hope, and that is more for Even, and less for Odd
  hope_easier : (game : GuardedGame Guard) → IsEasier (hopeful_game value game) (cautious_game value game)
  hope_easier game = record {
    same_count = same_count Guard hope game ∙ sym (same_count Guard caution game);
    same_owner = same_owner Guard hope caution game;
    same_priority = same_priority Guard hope caution game;
    even = edge_more Guard caution hope Even game each;
    odd = λ v w mover. edge_more Guard hope caution Odd game each v w (same_owner Guard hope caution game v ∙ mover);
  }
    where
      may : (t : Tri) → keeps_in_hope Odd t ≡ true → keeps_in_hope Even t ≡ true
      may No e = cc
      may Unknown e = refl
      may Yes e = refl

      each : AllGuards (λ guard. keeps_in_hope Odd (value guard) ≡ true → keeps_in_hope Even (value guard) ≡ true) game
      each = λ i d l j e k. may (value (get_or (get_or game i d).edges j e).guard)

  -- a table at the top refutes every strategy of the hopeful game
  top_refutes_hope : (game : GuardedGame Guard) → IsClosedGuarded game → (v : ℕ) → v < length game →
      (shape : Shape) (table : Table) → IsShape (guarded_priorities game) shape →
      IsBelowAllProgress shape (hopeful_game value game) table → table v ≡ Top →
      (strategy : Strategy) → Wins (hopeful_game value game) Even strategy v → ⊥
  top_refutes_hope game closed v inside shape table is_shape below e strategy wins =
      top_refutes (hopeful_game value game) strategy v wins (hope_edges game closed v inside)
      (hope_inside game closed v inside) shape (rw restrict_priorities is_shape) table below e

  module _ (game : GuardedGame Guard) (closed : IsClosedGuarded game) (v : ℕ) (inside : v < length game) where
    pub hopeless_is_lost : (shape : Shape) (table : Table) → IsShape (guarded_priorities game) shape →
        IsBelowAllProgress shape (hopeful_game value game) table → table v ≡ Top → HasWinningMoves value Dual game v
    hopeless_is_lost shape table is_shape below e =
        lost_hope game closed v inside Dual (top_refutes_hope game closed v inside shape table is_shape below e)

    pub sure_is_won : (shape : Shape) (table : Table) → IsShape (guarded_priorities (dual game)) shape →
        IsBelowAllProgress shape (hopeful_game value (dual game)) table → table v ≡ Top →
        HasWinningMoves value Hopeful game v
    sure_is_won shape table is_shape below e =
        lost_hope game closed v inside Hopeful
        (top_refutes_hope (dual game) (dual_closed Guard game closed) v
        (dual_inside game closed v inside) shape table is_shape below e)

    in_arena : (which : Which) → v < length (arena_for value which game)
    in_arena Hopeful = rw same_count inside
    in_arena Dual = rw same_count (dual_inside game closed v inside)

    pub tops_have_moves : (mover : Which) →
        IsValueBelow (levels_for (other_table mover) game) (arena_for value (other_table mover) game) v
        (top_for (other_table mover) game) → HasWinningMoves value mover game v
    tops_have_moves mover top = lost_hope game closed v inside mover (refuted (other_table mover) top)
      where
        refuted : (which : Which) →
            IsValueBelow (levels_for which game) (arena_for value which game) v (top_for which game) →
            (strategy : Strategy) → Wins (arena_for value which game) Even strategy v → ⊥
        refuted which b strategy wins =
            of (win_gives_numbers (arena_for value which game) strategy v (arena_closed Guard value which game closed)
            (in_arena which) wins)
          where
            same : priorities (arena_for value which game) ≡ guarded_priorities (game_for which game)
            same = restrict_priorities Guard hope (game_for which game)

            clash : (ps : List ℕ) → ps ≡ guarded_priorities (game_for which game) → (table : List ℕ) →
                IsTableOf (levels_of ps) (arena_for value which game) table →
                IsProgressTable (levels_of ps) (arena_for value which game) table →
                slice_index table v < top_of (levels_of ps) → ⊥
            clash ps e table t p low =
                high (b table (subst (λ qs. IsTableOf (levels_of qs) (arena_for value which game) table) e t)
                (subst (λ qs. IsProgressTable (levels_of qs) (arena_for value which game) table) e p))
                (subst (λ qs. slice_index table v < top_of (levels_of qs)) e low)
              where
                high : top_for which game ≤ slice_index table v → slice_index table v < top_for which game → ⊥
                high l k = omega arith

            of : (table : List ℕ) ×
                IsTableOf (levels_of (priorities (arena_for value which game))) (arena_for value which game) table ×
                IsProgressTable (levels_of (priorities (arena_for value which game)))
                (arena_for value which game) table ×
                (slice_index table v < top_of (levels_of (priorities (arena_for value which game)))) → ⊥
            of t = clash (priorities (arena_for value which game)) same t.0 t.1 t.2 t.3

    pub verdicts_have_moves : (mover : Which) (numbers : List ℕ) → IsTableBelow value (other_table mover) game numbers →
        slice_index numbers v ≡ top_for (other_table mover) game → HasWinningMoves value mover game v
    verdicts_have_moves mover numbers below e =
        tops_have_moves mover (λ other t p.
        subst (λ n. n ≤ slice_index other v) e
        ((below.below other t p).1 v (subst (λ n. v < n) (sym below.is_table.len) (in_arena (other_table mover)))))

    -- both tables at the top: Odd wins the hopeful game, and Even the cautious one, which is harder
    pub not_hopeless_and_sure : (hopeful dual : List ℕ) → IsTableBelow value Hopeful game hopeful →
        IsTableBelow value Dual game dual → slice_index hopeful v ≡ top_for Hopeful game →
        slice_index dual v ≡ top_for Dual game → ⊥
    not_hopeless_and_sure hopeful dual below dual_below e f =
        of (verdicts_have_moves Dual hopeful below e) (verdicts_have_moves Hopeful dual dual_below f)
      where
        of : HasWinningMoves value Dual game v → HasWinningMoves value Hopeful game v → ⊥
        of lost won =
            not_both (hopeful_game value game) won.strategy lost.strategy v
            (wins_easier (hopeful_game value game) (cautious_game value game) (hope_easier game) won.strategy v
            won.cautious)
            (wins_from_dual (hopeful_game value game) Odd lost.strategy v (hope_edges game closed v inside)
            (hope_inside game closed v inside)
            (subst (λ g. Wins g Even lost.strategy v) (cautious_of_dual game) lost.cautious))
