-- Tables that stay settled where something else is known.
use Rattle.std.proofs.Common.{◌≡◌, ℕ, ◌<◌, ◌≤◌, ◌↔◌, List, All, Bool, false, length, slice_index, IsTrue, sym, ap, ◌∙◌, subst}
use Rattle.std.proofs.lemmas.Bool.{false≢true}
use Rattle.vpg_game.specs.Game.{NamedGame, graph_of}
use Rattle.vpg_game.specs.Levels.{top_of}
use Rattle.vpg_game.specs.declared.levels.Level.{Level}
use Rattle.vpg_guards.specs.Formula.{Formula}
use Rattle.vpg_guards.specs.Known.{kleene}
use Rattle.vpg_guards.specs.declared.tri.Tri.{Tri}
use Rattle.vpg_hope.specs.Games.{Vertex}
use Rattle.vpg_hope.specs.Unmarked.{AreSameUnmarked}
use Rattle.vpg_measure.specs.Games.{GamesView, games_levels, games_arena}
use Rattle.vpg_measure.specs.Lifts.{IsTableOf, IsProgressTable, lift_of}
use Rattle.vpg_measure.specs.Still.{AreGamesOver, AreBothProgress, IsProgressUnmarked}
use Rattle.vpg_measure.specs.TwoGames.{IsProgressOf, levels_for, arena_for}
use Rattle.vpg_sides.specs.declared.which.Which.{Which}
use Rattle.vpg_sides.specs.declared.which.Which.TheVariants.{Hopeful, Dual}
use Rattle.vpg_measure.proofs.Rounds.{progress_at}
use Rattle.vpg_measure.proofs.TwoGames.{arena_length}

module _ (game : NamedGame) (games : GamesView) (over : AreGamesOver game games) (which : Which) (table : List ℕ) where
  -- a table of one game is one of every other
  pub table_stays : (value : Formula → Tri) → IsTableOf (levels_for which (graph_of game)) (arena_for value which (graph_of game)) table → IsTableOf (games_levels which games) (games_arena which games) table
  table_stays value t =
      let same : length (arena_for value which (graph_of game)) ≡ length (games_arena which games) =
      arena_length Formula value which (graph_of game) ∙ sym (arena_length Formula (kleene games.known) which (graph_of game)) ∙ ap length (sym (over.are.1.arena which)) in
      record { len = t.len ∙ same; within = subst (λ (levels : List Level). All (λ n. n ≤ top_of levels) table) (sym (over.are.1.levels which)) t.within }

  -- one mark for each vertex of the game is one for each of its arenas
  pub marks_count : (marks : List Bool) → length marks ≡ length (graph_of game) → length marks ≡ length (games_arena which games)
  marks_count marks e = e ∙ sym (arena_length Formula (kleene games.known) which (graph_of game)) ∙ ap length (sym (over.are.1.arena which))

  pub settled_told : IsTableOf (games_levels which games) (games_arena which games) table → IsProgressTable (games_levels which games) (games_arena which games) table → IsProgressOf (kleene games.known) which (graph_of game) table
  settled_told t p = record {
    is_table = coe 0 1 (k. IsTableOf (over.are.1.levels which k) (over.are.1.arena which k) table) t;
    settled = coe 0 1 (k. IsProgressTable (over.are.1.levels which k) (over.are.1.arena which k) table) p;
  }

  pub settled_back : IsProgressOf (kleene games.known) which (graph_of game) table → IsProgressTable (games_levels which games) (games_arena which games) table
  settled_back p = coe 1 0 (k. IsProgressTable (over.are.1.levels which k) (over.are.1.arena which k) table) p.settled

  -- where it was settled no lift raises it at a vertex that is as it was
  pub unmarked_stays : (before : List Tri) (marks : List Bool) → AreSameUnmarked marks (arena_for (kleene before) which (graph_of game)) (arena_for (kleene games.known) which (graph_of game)) →
      IsProgressOf (kleene before) which (graph_of game) table → IsProgressUnmarked marks (games_levels which games) (games_arena which games) table
  unmarked_stays before marks same was =
      coe 1 0 (k. IsProgressUnmarked marks (over.are.1.levels which k) (over.are.1.arena which k) table)
      (λ v less unmarked. subst (λ (x : Vertex). lift_of (levels_for which (graph_of game)) table x ≤ slice_index table v) (same v unmarked)
      (progress_at (levels_for which (graph_of game)) (arena_for (kleene before) which (graph_of game)) table was.is_table was.settled v
      (subst (λ (n : ℕ). v < n) (arena_length Formula (kleene games.known) which (graph_of game) ∙ sym (arena_length Formula (kleene before) which (graph_of game))) less)))

-- both tables
module _ (game : NamedGame) (games : GamesView) (over : AreGamesOver game games) (table dual_table : List ℕ)
    (first : IsTableOf (games_levels Hopeful games) (games_arena Hopeful games) table) (second : IsTableOf (games_levels Dual games) (games_arena Dual games) dual_table) where
  pub both_by_second : (b : Bool) → IsProgressTable (games_levels Hopeful games) (games_arena Hopeful games) table → IsTrue b ↔ IsProgressTable (games_levels Dual games) (games_arena Dual games) dual_table →
      IsTrue b ↔ AreBothProgress (kleene games.known) (graph_of game) table dual_table
  both_by_second b p e = (
    λ t. record { hopeful = settled_told game games over Hopeful table first p; dual = settled_told game games over Dual dual_table second (e.0 t) },
    λ both. e.1 (settled_back game games over Dual dual_table both.dual),
  )

  pub both_by_first : (b : Bool) → b ≡ false → IsTrue b ↔ IsProgressTable (games_levels Hopeful games) (games_arena Hopeful games) table →
      IsTrue b ↔ AreBothProgress (kleene games.known) (graph_of game) table dual_table
  both_by_first b off e = (λ t. absurd (false≢true (sym off ∙ t)), λ both. e.1 (settled_back game games over Hopeful table both.hopeful))
