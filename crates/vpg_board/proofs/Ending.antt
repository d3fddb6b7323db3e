-- The tables that a board ends with.
use Rattle.std.proofs.Common.{◌≡◌, ℕ, ◌+◌, ◌<◌, List, ◌∷◌, ◌++◌, length, take, drop, sym, ap, ◌∙◌, subst, arith, add-one}
use Rattle.std.proofs.lemmas.List.{take_all, take_at, drop_at, length-drop, length-append}
use Rattle.vpg_guards.specs.Formula.{Formula}
use Rattle.vpg_guards.specs.Known.{kleene}
use Rattle.vpg_game.specs.Game.{graph_of}
use Rattle.vpg_sides.specs.declared.which.Which.{Which}
use Rattle.vpg_sides.specs.declared.which.Which.TheVariants.{Hopeful, Dual}
use Rattle.vpg_measure.specs.Lifts.{IsBelowTable}
use Rattle.vpg_measure.specs.Orders.{OrderView, HarvestView, IsOrder, IsRaised, harvest_table}
use Rattle.vpg_measure.specs.TwoGames.{IsProgressOf}
use Rattle.vpg_measure.proofs.OrderLemmas.{arena_count}
use Rattle.vpg_measure.proofs.TwoGames.{tops}
use mathlib.Core.Option.{some}
use lib.ListN.{get_elem?}
use Rattle.atomic_table.specs.Table.{Final, Seen}
use Rattle.vpg_board.specs.declared.lifter.Lifter.{Lifter}
use Rattle.vpg_board.specs.Steps.{IsBoard}
use Rattle.vpg_board.specs.Run.{BoardState, Move, ran, IsBoardRun}
use Rattle.vpg_board.specs.Joins.{IsOfRun, IsEndOf}
use Rattle.vpg_board.proofs.Joins.{of_run}
use Rattle.vpg_board.proofs.Atomic.{ends}
use Rattle.vpg_board.specs.Places.{vertices, places, values, table_in, AreProgress, Below}
use Rattle.vpg_board.proofs.Halves.{halves_below, values_wide, values_in, top_table, top_wide}

module _ (order : OrderView) where
  both_progress : (first second : List ℕ) → IsProgressOf (kleene order.known) Hopeful (graph_of order.game) first → IsProgressOf (kleene order.known) Dual (graph_of order.game) second → AreProgress order (first ++ second)
  both_progress first second p q = record {
    wide = length-append first second ∙ (let a = p.is_table.len ∙ arena_count order.known Hopeful order.game in let b = q.is_table.len ∙ arena_count order.known Dual order.game in omega arith);
    each = at;
  }
    where
      one : length first ≡ vertices order
      one = p.is_table.len ∙ arena_count order.known Hopeful order.game

      at : (which : Which) → IsProgressOf (kleene order.known) which (graph_of order.game) (table_in order which (first ++ second))
      at Hopeful = subst (λ (t : List ℕ). IsProgressOf (kleene order.known) Hopeful (graph_of order.game) t) (sym (take_at first second (vertices order) one)) p
      at Dual = subst (λ (t : List ℕ). IsProgressOf (kleene order.known) Dual (graph_of order.game) t) (sym (drop_at first second (vertices order) one)) q

  -- a progress table of one game, with some progress table of the other
  pair_of : (which : Which) (table : List ℕ) → IsProgressOf (kleene order.known) which (graph_of order.game) table → (u : List ℕ) × AreProgress order u × (table_in order which u ≡ table)
  pair_of Hopeful table p =
      let other : List ℕ = tops Formula (kleene order.known) Dual (graph_of order.game) in
      (table ++ other, both_progress table other p (top_table order Dual), take_at table other (vertices order) (p.is_table.len ∙ arena_count order.known Hopeful order.game))
  pair_of Dual table p =
      let other : List ℕ = tops Formula (kleene order.known) Hopeful (graph_of order.game) in
      (other ++ table, both_progress other table (top_table order Hopeful) p, drop_at other table (vertices order) (top_wide order Hopeful))

  -- what lies between the order's tables and every pair of progress tables may stand in a harvest
  pub raised_from : IsOrder order → (which : Which) (measures : List ℕ) → length measures ≡ places order → Below (values order) measures → ((t : List ℕ) → AreProgress order t → Below measures t) → IsRaised which order (table_in order which measures)
  raised_from is which measures wide over under = record {
    above = subst (λ (t : List ℕ). IsBelowTable t (table_in order which measures)) (values_in order is which) (halves_below order which (values order) measures (values_wide order is) wide over);
    below = λ other t p.
        let u = pair_of which other (record { is_table = t; settled = p }) in
        subst (λ (x : List ℕ). IsBelowTable (table_in order which measures) x) u.2 (halves_below order which measures u.0 wide u.1.wide (under u.0 u.1));
  }

  -- the words behind the first one
  pub first_words : (words measures : List ℕ) (c : ℕ) → words ≡ c ∷ measures → take (vertices order) (drop 1 words) ≡ table_in order Hopeful measures
  first_words words measures c is = ap (λ l. take (vertices order) (drop 1 l)) is

  pub second_words : (words measures : List ℕ) (c : ℕ) → words ≡ c ∷ measures → length measures ≡ places order → take (vertices order) (drop (vertices order + 1) words) ≡ table_in order Dual measures
  second_words words measures c is wide =
      ap (λ l. take (vertices order) (drop (vertices order + 1) l)) is
      ∙ ap (λ n. take (vertices order) (drop n (c ∷ measures))) (add-one (vertices order))
      ∙ take_all (vertices order) (drop (vertices order) measures) (let e = length-drop (vertices order) measures in omega arith)

-- the words of either table at the end
abbrev pub words_of : ℕ → Which → List ℕ → List ℕ
words_of n Hopeful words = take n (drop 1 words)
words_of n Dual words = take n (drop (n + 1) words)

module _ (order key : OrderView) (is : IsOrder order) (same : key ≡ order) (id : ℕ) (v : Lifter) (words : List ℕ) (xs : List (Unit {0})) (stands : 0 < v.stands) (handed : Final (Seen (IsBoard key) id v) words xs) where
  final : Final (Seen (IsBoard order) id v) words xs
  final = subst (λ (x : OrderView). Final (Seen (IsBoard x) id v) words xs) same handed

  table_of : (which : Which) (n : ℕ) → n ≡ vertices order → words_of n which words ≡ table_in order which (ends order is id v words xs stands final).1
  table_of which n count = ap (λ k. words_of k which words) count ∙ at which
    where
      at : (which : Which) → words_of (vertices order) which words ≡ table_in order which (ends order is id v words xs stands final).1
      at Hopeful = let e = ends order is id v words xs stands final in first_words order words e.1 e.0 e.2
      at Dual = let e = ends order is id v words xs stands final in second_words order words e.1 e.0 e.2 e.4

  -- it may stand in a harvest
  pub may_be_harvested : (which : Which) (n : ℕ) (items : List ℕ) → n ≡ vertices order → items ≡ words_of n which words → IsRaised which order items
  may_be_harvested which n items count copied =
      let e = ends order is id v words xs stands final in
      subst (IsRaised which order) (sym (copied ∙ table_of which n count)) (raised_from order is which e.1 e.4 e.5 e.6)

  -- it is on or above what the seat has seen
  pub was_seen : (which : Which) (n : ℕ) (items : List ℕ) → n ≡ vertices order → items ≡ words_of n which words → length v.seen ≡ places order → IsBelowTable (table_in order which v.seen) items
  was_seen which n items count copied wide =
      let e = ends order is id v words xs stands final in
      subst (λ (t : List ℕ). IsBelowTable (table_in order which v.seen) t) (sym (copied ∙ table_of which n count)) (halves_below order which v.seen e.1 wide e.4 e.3)

  -- the run that led to the words, and to the seat
  last_run : List Move
  last_run = final.1.0.1.0

  last_board : ran order last_run ≡ final.1.0.0
  unfolding last_run final
  last_board = final.1.0.1.2

  last_seat : IsOfRun order last_run v
  unfolding last_run final
  last_seat =
      of_run order last_run id v final.1.0.1.1
      (subst (λ (b : BoardState). get_elem? b.lifters id ≡ some v) (sym last_board) (subst (λ (vs : List Lifter). get_elem? vs id ≡ some v) final.1.0.2.views final.1.1))

  shown : words ≡ final.1.0.0.claimed ∷ final.1.0.0.measures
  shown = sym final.2 ∙ final.1.0.2.words

  same_measures : (ends order is id v words xs stands final).1 ≡ final.1.0.0.measures
  same_measures = ap (λ (l : List ℕ). drop 1 l) (sym (ends order is id v words xs stands final).2 ∙ shown)

  last_words : (which : Which) (n : ℕ) (items : List ℕ) → n ≡ vertices order → items ≡ words_of n which words → items ≡ table_in order which (ran order last_run).measures
  last_words which n items count copied =
      copied ∙ table_of which n count ∙ ap (λ (t : List ℕ). table_in order which t) same_measures ∙ ap (λ (b : BoardState). table_in order which b.measures) (sym last_board)

  pub end_of : (n : ℕ) (harvest : HarvestView) → n ≡ vertices order → harvest.hopeful ≡ words_of n Hopeful words → harvest.dual ≡ words_of n Dual words → IsEndOf order v harvest
  end_of n harvest count hopeful dual = record { run = last_run; seat = last_seat; words = at }
    where
      at : (which : Which) → harvest_table which harvest ≡ table_in order which (ran order last_run).measures
      at Hopeful = last_words Hopeful n harvest.hopeful count hopeful
      at Dual = last_words Dual n harvest.dual count dual
