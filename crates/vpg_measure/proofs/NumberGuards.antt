-- The same under guards.
use Rattle.std.proofs.Common.{refl, cond, Option, Bool, ◌≡◌, ℕ, ◌<◌, true, false, List, length, slice_index, sym, ap, ◌∙◌, subst}
use Rattle.std.proofs.lemmas.List.{length-map}
use Rattle.vpg_game.specs.declared.levels.Level.{Level}
use Rattle.vpg_game.specs.Levels.{top_of, levels_of}
use Rattle.vpg_hope.specs.Arena.{Vertex as Node, IsClosed as IsClosedArena}
use Rattle.vpg_measure.specs.Lifts.{AreChoices, IsTableOf, IsProgressTable}
use Rattle.vpg_sides.specs.declared.player.Player.{Player}
use Rattle.vpg_guards.specs.declared.tri.Tri.{Tri}
use Rattle.vpg_guards.specs.declared.tri.Tri.TheVariants.{No, Yes}
use Rattle.vpg_hope.specs.Games.{priorities}
use Rattle.vpg_hope.specs.Strategies.{Strategy, Wins}
use Rattle.vpg_measure.specs.Tables.{IsProgressMeasure}
use Rattle.vpg_game.specs.Guarded.{GuardedGame, guarded_priorities, IsClosedGuarded, dual}
use Rattle.vpg_hope.specs.Hope.{product_game, hopeful_game, keeps_in_hope, AgreesWithTruth, Extends, IsFullOf}
use Rattle.vpg_hope.proofs.Edges.{AreEdgesInside}
use Rattle.vpg_measure.proofs.Easier.{progress_easier, wins_easier}
use Rattle.vpg_hope.proofs.Dual.{wins_to_dual, wins_from_dual}
use Rattle.vpg_measure.proofs.Verdicts.{not_possible_and_unsure}
use Rattle.vpg_hope.proofs.Guards.{full_same, hopeful_easier, earlier_easier, restrict_closed, restrict_priorities, product_dual, dual_guards, same_count}
use Rattle.vpg_measure.specs.Views.{strategy_of, measures_of}
use Rattle.vpg_measure.specs.Least.{IsBelowProgressTables}
use Rattle.vpg_measure.proofs.NumberTables.{number_not_top, progress_to, progress_from}
use Rattle.vpg_measure.proofs.NumberVerdicts.{top_number_refutes, choices_win}

module _ (Guard : Type 0) where
  pub settled_in_earlier : (earlier later : Guard → Tri) (game : GuardedGame Guard) → Extends later earlier game → (levels : List Level) (before after : List Node) (table : List ℕ) →
      before ≡ hopeful_game earlier game → after ≡ hopeful_game later game → IsTableOf levels after table → IsProgressTable levels after table → IsProgressTable levels before table
  settled_in_earlier earlier later game extends levels before after table b a is_table settled =
      progress_from levels before table before_table (subst (λ g. IsProgressMeasure levels g (measures_of levels table)) (sym b)
      (progress_easier (hopeful_game earlier game) (hopeful_game later game) (earlier_easier Guard earlier later game extends) levels (measures_of levels table)
      (subst (λ g. IsProgressMeasure levels g (measures_of levels table)) a (progress_to levels after table is_table settled))))
    where
      count : (arena : List Node) → length arena ≡ length arena
      count arena = refl

      hope : (Guard → Tri) → Player → Guard → Bool
      hope value mover guard = keeps_in_hope mover (value guard)

      same : length after ≡ length before
      same = sym (count after) ∙ ap length a ∙ same_count Guard (hope later) game ∙ sym (same_count Guard (hope earlier) game) ∙ sym (ap length b) ∙ count before

      before_table : IsTableOf levels before table
      before_table = record { len = is_table.len ∙ same; within = is_table.within }

  module _ (value : Guard → Tri) (game : GuardedGame Guard) (arena : List Node) (table : List ℕ) where
    hope : Player → Guard → Bool
    hope mover guard = keeps_in_hope mover (value guard)

    pub hopeless_number : arena ≡ hopeful_game value game → IsClosedArena arena → IsTableOf (levels_of (guarded_priorities game)) arena table → IsBelowProgressTables (levels_of (guarded_priorities game)) arena table →
        (v : ℕ) → v < length arena → slice_index table v ≡ top_of (levels_of (guarded_priorities game)) → (truth : Guard → Bool) → AgreesWithTruth value truth game → (strategy : Strategy) → Wins (product_game truth game) Player.Even strategy v → ⊥
    hopeless_number e closed is_table below v inside high truth agrees strategy wins =
        top_number_refutes arena table closed (subst (λ ps. IsTableOf (levels_of ps) arena table) same is_table) (subst (λ ps. IsBelowProgressTables (levels_of ps) arena table) same below) v inside
        (subst (λ ps. slice_index table v ≡ top_of (levels_of ps)) same high) strategy
        (subst (λ g. Wins g Player.Even strategy v) (sym e) (wins_easier (hopeful_game value game) (product_game truth game) (hopeful_easier Guard value truth game agrees) strategy v wins))
      where
        keeps : Player → Guard → Bool
        keeps mover guard = keeps_in_hope mover (value guard)

        same : guarded_priorities game ≡ priorities arena
        same = sym (restrict_priorities Guard keeps game) ∙ sym (ap priorities e)

  pub sure_number : (value : Guard → Tri) (game : GuardedGame Guard) (arena : List Node) (table : List ℕ) → arena ≡ hopeful_game value (dual game) → IsClosedArena arena → IsClosedGuarded game →
      IsTableOf (levels_of (guarded_priorities (dual game))) arena table → IsBelowProgressTables (levels_of (guarded_priorities (dual game))) arena table →
      (v : ℕ) → v < length arena → slice_index table v ≡ top_of (levels_of (guarded_priorities (dual game))) → (truth : Guard → Bool) → AgreesWithTruth value truth game → (strategy : Strategy) → Wins (product_game truth game) Player.Odd strategy v → ⊥
  sure_number value game arena table e closed closed_guarded is_table below v inside high truth agrees strategy wins =
      hopeless_number value (dual game) arena table e closed is_table below v inside high truth
      (dual_guards Guard (λ guard. (value guard ≡ Yes → truth guard ≡ true) × (value guard ≡ No → truth guard ≡ false)) game agrees) strategy
      (subst (λ g. Wins g Player.Even strategy v) (sym (product_dual Guard truth game)) (wins_to_dual (product_game truth game) Player.Odd strategy v edges there wins))
    where
      keeps : Player → Guard → Bool
      keeps mover guard = truth guard

      hopes : Player → Guard → Bool
      hopes mover guard = keeps_in_hope mover (value guard)

      count : length arena ≡ length (product_game truth game)
      count = sym (lengths arena) ∙ ap length e ∙ same_count Guard hopes (dual game) ∙ dual_count ∙ sym (same_count Guard keeps game)
        where
          lengths : (nodes : List Node) → length nodes ≡ length nodes
          lengths nodes = refl

          dual_count : length (dual game) ≡ length game
          dual_count = simp length-map

      there : v < length (product_game truth game)
      there = subst (λ n. v < n) count inside

      edges : AreEdgesInside (product_game truth game)
      edges = restrict_closed Guard keeps game closed_guarded

  module _ (value : Guard → Tri) (truth : Guard → Bool) (game : GuardedGame Guard) (full : IsFullOf value truth game) where
    dual_full : IsFullOf value truth (dual game)
    dual_full = dual_guards Guard (λ guard. value guard ≡ cond (truth guard) Yes No) game full

    holds : Player → Guard → Bool
    holds mover guard = truth guard

    pub possible_number : (levels : List Level) (arena : List Node) (table : List ℕ) (choices : List (Option ℕ)) → arena ≡ hopeful_game value game → IsClosedArena arena →
        IsTableOf levels arena table → IsProgressTable levels arena table → AreChoices levels arena table choices → (v : ℕ) → v < length arena → slice_index table v < top_of levels → Wins (product_game truth game) Player.Even (strategy_of choices) v
    possible_number levels arena table choices e closed is_table settled are_choices v inside below =
        subst (λ g. Wins g Player.Even (strategy_of choices) v) (e ∙ full_same Guard value truth game full) (choices_win levels arena table choices is_table settled are_choices closed v inside below)

    pub unsure_number : (levels : List Level) (arena : List Node) (table : List ℕ) (choices : List (Option ℕ)) → arena ≡ hopeful_game value (dual game) → IsClosedArena arena → IsClosedGuarded game →
        IsTableOf levels arena table → IsProgressTable levels arena table → AreChoices levels arena table choices → (v : ℕ) → v < length arena → slice_index table v < top_of levels → Wins (product_game truth game) Player.Odd (strategy_of choices) v
    unsure_number levels arena table choices e closed closed_guarded is_table settled are_choices v inside below =
        wins_from_dual (product_game truth game) Player.Odd (strategy_of choices) v (restrict_closed Guard (λ mover guard. truth guard) game closed_guarded) there
        (subst (λ g. Wins g Player.Even (strategy_of choices) v) (e ∙ full_same Guard value truth (dual game) dual_full ∙ product_dual Guard truth game) (choices_win levels arena table choices is_table settled are_choices closed v inside below))
      where
        keeps : Player → Guard → Bool
        keeps mover guard = keeps_in_hope mover (value guard)

        count : length arena ≡ length (product_game truth game)
        count = sym (lengths arena) ∙ ap length e ∙ same_count Guard keeps (dual game) ∙ dual_count ∙ sym (same_count Guard (λ mover guard. truth guard) game)
          where
            lengths : (nodes : List Node) → length nodes ≡ length nodes
            lengths nodes = refl

            dual_count : length (dual game) ≡ length game
            dual_count = simp length-map

        there : v < length (product_game truth game)
        there = subst (λ n. v < n) count inside

    pub not_both_numbers : IsClosedGuarded game → (levels dual_levels : List Level) (arena dual_arena : List Node) (table dual_table : List ℕ) → arena ≡ hopeful_game value game → dual_arena ≡ hopeful_game value (dual game) →
        IsTableOf levels arena table → IsProgressTable levels arena table → IsTableOf dual_levels dual_arena dual_table → IsProgressTable dual_levels dual_arena dual_table →
        (v : ℕ) → v < length game → slice_index table v < top_of levels → slice_index dual_table v < top_of dual_levels → ⊥
    not_both_numbers closed levels dual_levels arena dual_arena table dual_table e f is_table settled dual_is_table dual_settled v inside below dual_below =
        not_possible_and_unsure Guard value truth game full levels (dual_levels) (measures_of levels table) (measures_of dual_levels dual_table) closed
        (subst (λ g. IsProgressMeasure levels g (measures_of levels table)) e (progress_to levels arena table is_table settled))
        (subst (λ g. IsProgressMeasure (dual_levels) g (measures_of dual_levels dual_table)) f (progress_to dual_levels dual_arena dual_table dual_is_table dual_settled))
        v inside (number_not_top levels (slice_index table v) below) (number_not_top dual_levels (slice_index dual_table v) dual_below)
