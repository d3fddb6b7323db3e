-- Whether both tables are progress tables.
use Rattle.std.proofs.Common.{◌≡◌, ℕ, ◌≤◌, Bool, true, false, List, length, sym, ◌∙◌, subst, All}
use Rattle.std.specs.Prelude.{◌↔◌, IsTrue}
use Rattle.std.specs.Bool.{Decides}
use Rattle.std.proofs.lemmas.List.{length-map}
use Rattle.vpg_guards.specs.Formula.{Formula}
use Rattle.vpg_guards.specs.Known.{kleene}
use Rattle.vpg_guards.specs.declared.tri.Tri.{Tri}
use Rattle.vpg_game.specs.declared.levels.Level.{Level}
use Rattle.vpg_game.specs.Game.{NamedGame, unnamed, graph_of}
use Rattle.vpg_diagram.specs.DiagramText.{NamedDiagram}
use Rattle.vpg_diagram.specs.declared.clause.Literal.{Literal}
use Rattle.vpg_hope.specs.Games.{Game}
use Rattle.vpg_measure.specs.Games.{GamesView, ArePageGames, games_levels, games_arena}
use Rattle.vpg_sides.specs.declared.which.Which.{Which}
use Rattle.vpg_sides.specs.declared.which.Which.TheVariants.{Hopeful, Dual}
use Rattle.vpg_measure.specs.Lifts.{IsTableOf, IsProgressTable}
use Rattle.vpg_measure.specs.TwoGames.{levels_for, top_for, arena_for, IsProgressOf}
use Rattle.vpg_measure.proofs.TwoGames.{arena_length}
use Rattle.vpg_texts.specs.Scene.{AreProgressTables, AreSettledTables, table_in}

-- a table of the game's length up to the top
pub table_of_game : (game : NamedGame) (known : List Tri) (which : Which) (table : List ℕ) → length table ≡ length game.vertices →
    All (λ n. n ≤ top_for which (graph_of game)) table → IsTableOf (levels_for which (graph_of game)) (arena_for (kleene known) which (graph_of game)) table
table_of_game game known which table len within =
    record { len = len ∙ sym (length-map game.vertices unnamed) ∙ sym (arena_length Formula (kleene known) which (graph_of game)); within = within }

-- a table that passed the test, in the code's words
pub settled_one : (game : NamedGame) (known : List Tri) (which : Which) (shape : List Level) (arena : Game) (table : List ℕ) →
    shape ≡ levels_for which (graph_of game) → arena ≡ arena_for (kleene known) which (graph_of game) → length table ≡ length game.vertices →
    All (λ n. n ≤ top_for which (graph_of game)) table → IsProgressTable shape arena table → IsProgressOf (kleene known) which (graph_of game) table
settled_one game known which shape arena table shape_is arena_is len within progress =
    record {
      is_table = table_of_game game known which table len within;
      settled = subst (λ (a : Game). IsProgressTable (levels_for which (graph_of game)) a table) arena_is (subst (λ (s : List Level). IsProgressTable s arena table) shape_is progress);
    }

-- ---- the tables of a page's games

-- what a test refutes
pub refuted : (b : Bool) (P : Type 0) → b ≡ false → (IsTrue b ↔ P) → ¬ P
refuted b P fails tells p = absurd (cc (fails, tells.1 p))

module _ (game : NamedGame) (diagram : NamedDiagram) (choices : List Literal) (games : GamesView) (are : ArePageGames game diagram choices games) where
  -- a table of the game's length up to the top
  pub table_of_games : (which : Which) (table : List ℕ) → length table ≡ length game.vertices → All (λ n. n ≤ top_for which (graph_of game)) table →
      IsTableOf (games_levels which games) (games_arena which games) table
  table_of_games which table len within =
      subst (λ (a : Game). IsTableOf (games_levels which games) a table) (sym (are.arena which))
      (subst (λ (s : List Level). IsTableOf s (arena_for (kleene games.known) which (graph_of game)) table) (sym (are.levels which)) (table_of_game game games.known which table len within))

  module _ (hopeful dual : List ℕ) where
    pub settled_back : AreProgressTables games.known (graph_of game) hopeful dual → AreSettledTables games hopeful dual
    settled_back all which =
        subst (λ (a : Game). IsProgressTable (games_levels which games) a (table_in hopeful dual which)) (sym (are.arena which))
        (subst (λ (s : List Level). IsProgressTable s (arena_for (kleene games.known) which (graph_of game)) (table_in hopeful dual which)) (sym (are.levels which)) (all which).settled)

    module _ (hopeful_len : length hopeful ≡ length game.vertices) (dual_len : length dual ≡ length game.vertices)
        (hopeful_within : All (λ n. n ≤ top_for Hopeful (graph_of game)) hopeful) (dual_within : All (λ n. n ≤ top_for Dual (graph_of game)) dual) where
      pub all_settled : AreSettledTables games hopeful dual → AreProgressTables games.known (graph_of game) hopeful dual
      all_settled all Hopeful = settled_one game games.known Hopeful games.hopeful_levels games.hopeful_arena hopeful (are.levels Hopeful) (are.arena Hopeful) hopeful_len hopeful_within (all Hopeful)
      all_settled all Dual = settled_one game games.known Dual games.dual_levels games.dual_arena dual (are.levels Dual) (are.arena Dual) dual_len dual_within (all Dual)

      both : IsProgressTable games.hopeful_levels games.hopeful_arena hopeful → IsProgressTable games.dual_levels games.dual_arena dual → AreSettledTables games hopeful dual
      both first second Hopeful = first
      both first second Dual = second

      -- where the first is raised by a lift, they are not settled
      pub first_fails : (b : Bool) → b ≡ false → (IsTrue b ↔ IsProgressTable games.hopeful_levels games.hopeful_arena hopeful) → Decides false (AreProgressTables games.known (graph_of game) hopeful dual)
      first_fails b fails tells = (λ h. absurd (cc), λ all. absurd (cc (fails, tells.1 (settled_back all Hopeful))))

      -- where it isn't, the second decides
      pub second_tells : (a b : Bool) → a ≡ true → (IsTrue a ↔ IsProgressTable games.hopeful_levels games.hopeful_arena hopeful) →
          (IsTrue b ↔ IsProgressTable games.dual_levels games.dual_arena dual) → Decides b (AreProgressTables games.known (graph_of game) hopeful dual)
      second_tells a b holds first second = (λ h. all_settled (both (first.0 holds) (second.0 h)), λ all. second.1 (settled_back all Dual))
