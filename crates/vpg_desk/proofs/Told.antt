-- What a page whose tables are below every progress table says of the game.
use Rattle.std.proofs.Common.{refl, ◌≡◌, ℕ, zero, suc, ◌<◌, ◌≤◌, ◌⊎◌, ◌↔◌, inl, inr, Bool, List, [], ◌∷◌, Option, Some, length, slice_get, slice_index, sym, ap, ◌∙◌, subst, arith}
use Rattle.std.proofs.lemmas.Bool.{cases_eq, cases_lt}
use Rattle.std.proofs.lemmas.List.Elements.{All-from_get_or}
use Rattle.vpg_measure.specs.Lifts.{IsTableOf, AreChoices, choice_of}
use Rattle.vpg_measure.specs.Views.{strategy_of}
use Rattle.vpg_hope.specs.Arena.{Vertex as Node, vertex_at}
use Rattle.vpg_hope.specs.Strategies.{Strategy}
use Rattle.vpg_game.specs.declared.levels.Level.{Level}
use Rattle.vpg_sides.specs.declared.player.Player.{Player}
use Rattle.vpg_guards.specs.declared.tri.Tri.{Tri}
use Rattle.vpg_hope.specs.Hope.{product_game, IsFullOf}
use Rattle.vpg_hope.proofs.Both.{not_both}
use Rattle.vpg_measure.specs.Least.{IsBelowProgressTables}
use Rattle.vpg_measure.proofs.NumberGuards.{hopeless_number, sure_number, possible_number, unsure_number, not_both_numbers}
use Rattle.vpg_trail.specs.Page.{Which, Hopeful, Dual, Entry, choices_of, value_at, table_of}
use Rattle.vpg_desk.specs.Book.{IsSettledPage}
use Rattle.vpg_desk.specs.Lawful.{PageIsBelow}
use Rattle.vpg_trail.proofs.PageLemmas.{length-table_of, table_of-at}
use Rattle.vpg_desk.proofs.Below.{settled_is_least}
use Rattle.vpg_guards.specs.Formula.{Formula, truth}
use Rattle.vpg_guards.specs.Known.{kleene, AreAllKnown}
use Rattle.vpg_diagram.specs.FeatureDiagram.{feature_count}
use Rattle.vpg_partial.specs.KnownLaws.{IsRemaining}
use Rattle.vpg_partial.specs.TableLaws.{IsKnownTable}
use Rattle.vpg_desk.specs.Setting.{Setting, HasConflict}
use Rattle.vpg_desk.proofs.Sound.{IsSound}
use Rattle.vpg_measure.specs.Orders.{other_table}
use Rattle.vpg_measure.specs.TwoGames.{levels_for, arena_for, top_for, IsProgressOf, IsTableBelow}
use Rattle.vpg_determined.specs.Determined.{HasWin}
use Rattle.vpg_determined.specs.ProductLaws.{HasWinningMoves, player_for}
use Rattle.vpg_determined.proofs.Products.{verdicts_have_moves, not_hopeless_and_sure}
use Rattle.vpg_determined.proofs.Winners.{wins_each_play}
use Rattle.vpg_desk.specs.Desk.{IsProgressUnder, family_of, IsLeastUnder}
use Rattle.vpg_desk.specs.Headline.{IsTopAt, AlwaysWins, NeverWins, WinsIn, AreChoicesAt, Determines, Tells}
use Rattle.vpg_measure.proofs.TwoGames.{arena_length, arena_closed, tops, tops_progress, top_bounds}
use Rattle.vpg_measure.proofs.TwoGames.{progress_earlier}

-- the first values of a function
abbrev first_of : {X : Type 0} → (ℕ → X) → ℕ → List X
first_of f zero = []
first_of f (suc n) = f 0 ∷ first_of (λ v. f (suc v)) n

length-first_of : {X : Type 0} (f : ℕ → X) (n : ℕ) → length (first_of f n) ≡ n
length-first_of f zero = refl
length-first_of f (suc n) = ap (λ (k : ℕ). suc k) (length-first_of (λ v. f (suc v)) n)

get-first_of : {X : Type 0} (f : ℕ → X) (n v : ℕ) → v < n → slice_get (first_of f n) v ≡ Some (f v)
get-first_of f zero v l = absurd (omega (arith, l))
get-first_of f (suc n) zero l = refl
get-first_of f (suc n) (suc v) l = get-first_of (λ v. f (suc v)) n v (omega (arith, l))

-- choices can be made at each table
choices_exist : (levels : List Level) (arena : List Node) (table : List ℕ) → (choices : List (Option ℕ)) × AreChoices levels arena table choices
choices_exist levels arena table = (
  first_of (λ v. choice_of levels table (vertex_at arena v) (slice_index table v)) (length arena),
  (
    length-first_of (λ v. choice_of levels table (vertex_at arena v) (slice_index table v)) (length arena),
    λ v l. get-first_of (λ v. choice_of levels table (vertex_at arena v) (slice_index table v)) (length arena) v l,
  ),
)

module _ (setting : Setting) (sound : IsSound setting) (page : List Entry) (fine : ¬ (HasConflict setting (choices_of page))) (below : PageIsBelow (family_of setting) page) where
  module _ (known : List Tri) (is_known : IsKnownTable setting.lines (choices_of page) known) where
    numbers : Which → List ℕ
    numbers which = table_of which page (length setting.game)

    at : (which : Which) (v : ℕ) → v < length setting.game → slice_index (table_of which page (length setting.game)) v ≡ value_at which v page
    at which v l = table_of-at which page (length setting.game) v l

    under_top : (which : Which) (v : ℕ) → v < length setting.game → value_at which v page ≤ top_for which setting.game
    under_top which v l = of (below which v (tops Formula (kleene known) which setting.game) (known, (is_known, tops_progress Formula (kleene known) which setting.game))) (top_bounds Formula (kleene known) which setting.game v l)
      where
        of : value_at which v page ≤ slice_index (tops Formula (kleene known) which setting.game) v → slice_index (tops Formula (kleene known) which setting.game) v ≤ top_for which setting.game → value_at which v page ≤ top_for which setting.game
        of a b = omega arith

    count : (which : Which) → length (table_of which page (length setting.game)) ≡ length (arena_for (kleene known) which setting.game)
    count which = length-table_of which page (length setting.game) ∙ sym (arena_length Formula (kleene known) which setting.game)

    is_table : (which : Which) → IsTableOf (levels_for which setting.game) (arena_for (kleene known) which setting.game) (table_of which page (length setting.game))
    is_table which = record {
      len = count which;
      within = All-from_get_or (λ n. n ≤ top_for which setting.game) (table_of which page (length setting.game)) 0
          (λ v l. within v (subst (λ n. v < n) (length-table_of which page (length setting.game)) l));
    }
      where
        within : (v : ℕ) → v < length setting.game → slice_index (table_of which page (length setting.game)) v ≤ top_for which setting.game
        within v l = subst (λ n. n ≤ top_for which setting.game) (sym (at which v l)) (under_top which v l)

    below_all : (which : Which) → IsBelowProgressTables (levels_for which setting.game) (arena_for (kleene known) which setting.game) (table_of which page (length setting.game))
    below_all which other table settled = (
      count which ∙ sym table.len,
      λ v l. of v (subst (λ n. v < n) (length-table_of which page (length setting.game)) l),
    )
      where
        of : (v : ℕ) → v < length setting.game → slice_index (table_of which page (length setting.game)) v ≤ slice_index other v
        of v l = subst (λ n. n ≤ slice_index other v) (sym (at which v l)) (below which v other (known, (is_known, record { is_table = table; settled = settled })))

    inside : (which : Which) (v : ℕ) → v < length setting.game → v < length (arena_for (kleene known) which setting.game)
    inside which v l = subst (λ n. v < n) (sym (arena_length Formula (kleene known) which setting.game)) l

    high : (which : Which) (v : ℕ) → v < length setting.game → IsTopAt setting page which v → slice_index (table_of which page (length setting.game)) v ≡ top_for which setting.game
    high which v l t = at which v l ∙ t

    low : (which : Which) (v : ℕ) → v < length setting.game → ¬ (IsTopAt setting page which v) → slice_index (table_of which page (length setting.game)) v < top_for which setting.game
    low which v l t = subst (λ n. n < top_for which setting.game) (sym (at which v l)) (split (cases_lt (value_at which v page) (top_for which setting.game)))
      where
        split : (value_at which v page < top_for which setting.game) ⊎ (top_for which setting.game ≤ value_at which v page) → value_at which v page < top_for which setting.game
        split (inl k) = k
        split (inr k) = absurd (t (omega (arith, under_top which v l)))

    settled_table : (which : Which) → IsProgressUnder setting (choices_of page) which (table_of which page (length setting.game)) →
        IsProgressOf (kleene known) which setting.game (table_of which page (length setting.game))
    settled_table which p = progress_earlier Formula (kleene p.0) (kleene known) setting.game which (table_of which page (length setting.game))
        (sound.grows (choices_of page) (choices_of page) known p.0 (λ c s. s) is_known p.1.0) p.1.1

    pub never_even : (v : ℕ) → v < length setting.game → IsTopAt setting page Hopeful v → NeverWins setting page Player.Even v
    never_even v l t set remaining strategy wins =
        hopeless_number Formula (kleene known) setting.game (arena_for (kleene known) Hopeful setting.game) (table_of Hopeful page (length setting.game))
        refl (arena_closed Formula (kleene known) Hopeful setting.game sound.is_setting.closed) (is_table Hopeful) (below_all Hopeful)
        v (inside Hopeful v l) (high Hopeful v l t) (truth set) (sound.agrees (choices_of page) known set is_known remaining) strategy wins

    pub never_odd : (v : ℕ) → v < length setting.game → IsTopAt setting page Dual v → NeverWins setting page Player.Odd v
    never_odd v l t set remaining strategy wins =
        sure_number Formula (kleene known) setting.game (arena_for (kleene known) Dual setting.game) (table_of Dual page (length setting.game))
        refl (arena_closed Formula (kleene known) Dual setting.game sound.is_setting.closed) sound.is_setting.closed (is_table Dual) (below_all Dual)
        v (inside Dual v l) (high Dual v l t) (truth set) (sound.agrees (choices_of page) known set is_known remaining) strategy wins

    table_below : (which : Which) → IsTableBelow (kleene known) which setting.game (table_of which page (length setting.game))
    table_below which = record { is_table = is_table which; below = below_all which }

    -- who wins where a table is at the top wins in every product that is left
    module _ (mover : Which) (v : ℕ) (l : v < length setting.game) (t : IsTopAt setting page (other_table mover) v) where
      moves : HasWinningMoves (kleene known) mover setting.game v
      moves = verdicts_have_moves Formula (kleene known) setting.game sound.is_setting.closed v l mover
          (table_of (other_table mover) page (length setting.game)) (table_below (other_table mover)) (high (other_table mover) v l t)

      wins : (set : List Bool) → IsRemaining setting.lines (choices_of page) set → WinsIn setting set (player_for mover) moves.strategy v
      wins set remaining = moves.wins (truth set) (sound.agrees (choices_of page) known set is_known remaining)

      pub always : AlwaysWins setting page (player_for mover) v
      always = record {
        strategy = moves.strategy;
        wins = wins;
        plays = λ set remaining. wins_each_play (product_game (truth set) setting.game) (player_for mover) moves.strategy v (wins set remaining);
      }

    pub not_both_tops : (v : ℕ) → v < length setting.game → IsTopAt setting page Hopeful v → IsTopAt setting page Dual v → ⊥
    not_both_tops v l t u =
        not_hopeless_and_sure Formula (kleene known) setting.game sound.is_setting.closed v l
        (table_of Hopeful page (length setting.game)) (table_of Dual page (length setting.game))
        (table_below Hopeful) (table_below Dual) (high Hopeful v l t) (high Dual v l u)

    top_or_not : (which : Which) (v : ℕ) → IsTopAt setting page which v ⊎ ¬ (IsTopAt setting page which v)
    top_or_not which v = cases_eq (value_at which v page) (top_for which setting.game)

    pub decided : AreAllKnown (feature_count setting.lines) known → IsSettledPage (family_of setting) page → (set : List Bool) × Determines setting page known set
    decided full settled = of (sound.full (choices_of page) known fine is_known full)
      where
        of : (set : List Bool) × IsRemaining setting.lines (choices_of page) set × IsFullOf (kleene known) (truth set) setting.game × ((other : List Bool) → IsRemaining setting.lines (choices_of page) other → other ≡ set) →
            (set : List Bool) × Determines setting page known set
        of s = (
          s.0,
          record {
            remaining = s.1;
            only = s.3;
            possible = possible;
            unsure = unsure;
            even_wins = λ v l t. of_choices Player.Even Hopeful possible v l t;
            odd_wins = λ v l t. of_choices Player.Odd Dual unsure v l t;
            decided = one_of;
            hopeless = λ v l. hopeless v l;
            sure = λ v l. sure v l;
            not_both = λ v l t u. neither v l t u;
          },
        )
          where
            neither : (v : ℕ) → v < length setting.game → ¬ (IsTopAt setting page Hopeful v) → ¬ (IsTopAt setting page Dual v) → ⊥
            neither v l t u = not_both_numbers Formula (kleene known) (truth s.0) setting.game s.2 sound.is_setting.closed (levels_for Hopeful setting.game) (levels_for Dual setting.game)
                (arena_for (kleene known) Hopeful setting.game) (arena_for (kleene known) Dual setting.game) (table_of Hopeful page (length setting.game)) (table_of Dual page (length setting.game))
                refl refl
                (is_table Hopeful) (settled_table Hopeful (settled Hopeful)).settled (is_table Dual) (settled_table Dual (settled Dual)).settled v l (low Hopeful v l t) (low Dual v l u)

            one_of : (v : ℕ) → v < length setting.game → IsTopAt setting page Hopeful v ⊎ IsTopAt setting page Dual v
            one_of v l = either (top_or_not Hopeful v) (top_or_not Dual v)
              where
                either : IsTopAt setting page Hopeful v ⊎ ¬ (IsTopAt setting page Hopeful v) → IsTopAt setting page Dual v ⊎ ¬ (IsTopAt setting page Dual v) →
                    IsTopAt setting page Hopeful v ⊎ IsTopAt setting page Dual v
                either (inl t) u = inl t
                either (inr n) (inl u) = inr u
                either (inr n) (inr m) = absurd (neither v l n m)

            -- in the one product Odd wins where the vertex is hopeless, and Even where it is sure
            odd_has : (v : ℕ) → v < length setting.game → IsTopAt setting page Hopeful v → HasWin (product_game (truth s.0) setting.game) Player.Odd v
            odd_has v l t = ((always Dual v l t).strategy, (always Dual v l t).wins s.0 s.1)

            even_has : (v : ℕ) → v < length setting.game → IsTopAt setting page Dual v → HasWin (product_game (truth s.0) setting.game) Player.Even v
            even_has v l u = ((always Hopeful v l u).strategy, (always Hopeful v l u).wins s.0 s.1)

            hopeless : (v : ℕ) → v < length setting.game → IsTopAt setting page Hopeful v ↔ HasWin (product_game (truth s.0) setting.game) Player.Odd v
            hopeless v l = (odd_has v l, λ w. chosen w (one_of v l))
              where
                chosen : HasWin (product_game (truth s.0) setting.game) Player.Odd v → IsTopAt setting page Hopeful v ⊎ IsTopAt setting page Dual v → IsTopAt setting page Hopeful v
                chosen w (inl t) = t
                chosen w (inr u) = absurd (not_both (product_game (truth s.0) setting.game) (even_has v l u).0 w.0 v (even_has v l u).1 w.1)

            sure : (v : ℕ) → v < length setting.game → IsTopAt setting page Dual v ↔ HasWin (product_game (truth s.0) setting.game) Player.Even v
            sure v l = (even_has v l, λ w. chosen w (one_of v l))
              where
                chosen : HasWin (product_game (truth s.0) setting.game) Player.Even v → IsTopAt setting page Hopeful v ⊎ IsTopAt setting page Dual v → IsTopAt setting page Dual v
                chosen w (inl t) = absurd (not_both (product_game (truth s.0) setting.game) w.0 (odd_has v l t).0 v w.1 (odd_has v l t).1)
                chosen w (inr u) = u

            possible : (choices : List (Option ℕ)) → AreChoicesAt setting known page Hopeful choices → (v : ℕ) → v < length setting.game → ¬ (IsTopAt setting page Hopeful v) → WinsIn setting s.0 Player.Even (strategy_of choices) v
            possible choices are v l t = possible_number Formula (kleene known) (truth s.0) setting.game s.2 (levels_for Hopeful setting.game) (arena_for (kleene known) Hopeful setting.game)
                (table_of Hopeful page (length setting.game)) choices refl (arena_closed Formula (kleene known) Hopeful setting.game sound.is_setting.closed)
                (is_table Hopeful) (settled_table Hopeful (settled Hopeful)).settled are v (inside Hopeful v l) (low Hopeful v l t)

            unsure : (choices : List (Option ℕ)) → AreChoicesAt setting known page Dual choices → (v : ℕ) → v < length setting.game → ¬ (IsTopAt setting page Dual v) → WinsIn setting s.0 Player.Odd (strategy_of choices) v
            unsure choices are v l t = unsure_number Formula (kleene known) (truth s.0) setting.game s.2 (levels_for Dual setting.game) (arena_for (kleene known) Dual setting.game)
                (table_of Dual page (length setting.game)) choices refl (arena_closed Formula (kleene known) Dual setting.game sound.is_setting.closed) sound.is_setting.closed
                (is_table Dual) (settled_table Dual (settled Dual)).settled are v (inside Dual v l) (low Dual v l t)

            of_choices : (player : Player) (which : Which) →
                ((choices : List (Option ℕ)) → AreChoicesAt setting known page which choices → (v : ℕ) → v < length setting.game → ¬ (IsTopAt setting page which v) → WinsIn setting s.0 player (strategy_of choices) v) →
                (v : ℕ) → v < length setting.game → ¬ (IsTopAt setting page which v) → (strategy : Strategy) × WinsIn setting s.0 player strategy v
            of_choices player which wins v l t =
                let c : (choices : List (Option ℕ)) × AreChoicesAt setting known page which choices = choices_exist (levels_for which setting.game) (arena_for (kleene known) which setting.game) (table_of which page (length setting.game)) in
                (strategy_of c.0, wins c.0 c.1 v l t)

  pub page_tells : Tells setting page
  page_tells = record {
    consistent = fine;
    below = below;
    tables = table_below;
    settled = λ s which. least which (settled_is_least (family_of setting) page below s which);
    hopeless = λ v l t. never_even (sound.exists (choices_of page) fine).0 (sound.exists (choices_of page) fine).1 v l t;
    sure = λ v l t. never_odd (sound.exists (choices_of page) fine).0 (sound.exists (choices_of page) fine).1 v l t;
    lost = λ v l t. always (sound.exists (choices_of page) fine).0 (sound.exists (choices_of page) fine).1 Dual v l t;
    won = λ v l t. always (sound.exists (choices_of page) fine).0 (sound.exists (choices_of page) fine).1 Hopeful v l t;
    not_both = λ v l t u. not_both_tops (sound.exists (choices_of page) fine).0 (sound.exists (choices_of page) fine).1 v l t u;
    full = λ known is_known full settled. decided known is_known full settled;
  }
    where
      least : (which : Which) → IsProgressUnder setting (choices_of page) which (table_of which page (length setting.game))
          × ((other : List ℕ) → IsProgressUnder setting (choices_of page) which other → (v : ℕ) → v < length setting.game → slice_index (table_of which page (length setting.game)) v ≤ slice_index other v) →
          IsLeastUnder setting (choices_of page) which (table_of which page (length setting.game))
      least which p = record { progress = p.0; below = p.1 }
