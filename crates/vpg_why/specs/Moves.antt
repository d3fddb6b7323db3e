-- Moves that win in every product that is left, whatever is still open. This project's own; winning is the standard of
-- parity games, progress tables are those of Jurdzinski 2000.
use Rattle.std.specs.Prelude.{◌≡◌, ℕ, ◌<◌, ⊤, All, Bool, IfSome, Option, List, length, replicate, slice_index}
use Rattle.vpg_guards.specs.declared.tri.Tri.{Tri}
use Rattle.vpg_guards.specs.Formula.{Formula, truth}
use Rattle.vpg_guards.specs.Known.{kleene}
use Rattle.vpg_diagram.specs.FeatureDiagram.{Line}
use Rattle.vpg_diagram.specs.declared.clause.Literal.{Literal}
use Rattle.vpg_sides.specs.declared.player.Player.{Player}
use Rattle.vpg_game.specs.Guarded.{GuardedGame}
use Rattle.vpg_hope.specs.Games.{Game}
use Rattle.vpg_hope.specs.Hope.{product_game, cautious_game}
use Rattle.vpg_hope.specs.Strategies.{Strategy, Wins}
use Rattle.vpg_partial.specs.KnownLaws.{IsRemaining}
use Rattle.vpg_partial.specs.TableLaws.{IsKnownTable}
use Rattle.vpg_sides.specs.declared.which.Which.{Which}
use Rattle.vpg_measure.specs.Least.{IsLeastTable}
use Rattle.vpg_measure.specs.Lifts.{IsProgressTable, AreChoices, after_rounds}
use Rattle.vpg_measure.specs.TwoGames.{game_for, levels_for, top_for}
use Rattle.vpg_measure.specs.Views.{strategy_of}
use Rattle.vpg_why.specs.Products.{loser}
use Rattle.vpg_why.specs.Played.{ArePlayed}
use Rattle.vpg_why.specs.declared.winning.Moves.{Moves}
use Rattle.vpg_why.specs.declared.winning.Moves.TheVariants.{Winning, Nothing, Unsettled}

-- In the game of each product that agrees with the choices the player wins from the vertex by this strategy.
abbrev pub WinsInEach : GuardedGame Formula → List Line → List Literal → Player → Strategy → ℕ → Type 0
WinsInEach game lines choices player strategy vertex =
    (set : List Bool) → IsRemaining lines choices set →
    Wins (product_game (truth set) game) player strategy vertex

-- the cautious game under what is known, of the game or of its dual; the player of the moves stands as Even there
abbrev pub caution_for : List Tri → Which → GuardedGame Formula → Game
caution_for known which game = cautious_game (kleene known) (game_for which game)

-- The moves are those of the least progress table of the cautious game: at each vertex the first successor of least
-- `prog`.
pub record AreLeastMoves (game : GuardedGame Formula) (which : Which) (known : List Tri) (vertex : ℕ)
    (moves : List (Option ℕ)) : Type 0 where
  pub table : List ℕ
  pub least : IsLeastTable (levels_for which game) (caution_for known which game) table
  pub low : slice_index table vertex < top_for which game
  pub chosen : AreChoices (levels_for which game) (caution_for known which game) table moves

-- No strategy wins from the vertex in the cautious game, against all that may still be there.
abbrev pub NoneWins : GuardedGame Formula → Which → List Tri → ℕ → Type 0
NoneWins game which known vertex =
    (strategy : Strategy) → Wins (caution_for known which game) Player.Even strategy vertex → ⊥

-- The moves win in each product that agrees with the choices. They are the moves of the least table of the cautious
-- game under what is known. They are given at the vertices that a play from this one can come to there, and at no
-- others.
pub record AreWinning (game : GuardedGame Formula) (lines : List Line) (choices : List Literal) (which : Which)
    (vertex : ℕ) (moves : List (Option ℕ)) : Type 0 where
  pub wins : WinsInEach game lines choices (loser which) (strategy_of moves) vertex
  pub count : length moves ≡ length game
  pub inside : All (λ m. IfSome m (λ w. w < length game)) moves
  pub known : List Tri
  pub is_known : IsKnownTable lines choices known
  pub cautious : Wins (caution_for known which game) Player.Even (strategy_of moves) vertex
  pub all : List (Option ℕ)
  pub least : AreLeastMoves game which known vertex all
  pub played : ArePlayed (caution_for known which game) all vertex moves

-- under what the choices make known, no strategy wins the cautious game
abbrev pub NoneWinsUnder : GuardedGame Formula → List Line → List Literal → Which → ℕ → Type 0
NoneWinsUnder game lines choices which vertex =
    (known : List Tri) × IsKnownTable lines choices known × NoneWins game which known vertex

-- moves that win in each product that agrees with the choices, or none win against all that may still be there
abbrev pub AreFound : GuardedGame Formula → List Line → List Literal → Which → ℕ → Moves → Type 0
AreFound game lines choices which vertex (Winning moves) = AreWinning game lines choices which vertex moves.items
AreFound game lines choices which vertex Nothing = NoneWinsUnder game lines choices which vertex
AreFound game lines choices which vertex Unsettled = ⊤

-- under what is known, this many rounds of lifts from zeros leave a progress table of the cautious game
abbrev pub SettlesInCaution : ℕ → GuardedGame Formula → Which → List Tri → Type 0
SettlesInCaution rounds game which known =
    IsProgressTable (levels_for which game) (caution_for known which game)
    (after_rounds (levels_for which game) (caution_for known which game) rounds
    (replicate (length (caution_for known which game)) 0))

-- the cautious game settles so under what the choices make known
abbrev pub ChoicesSettleInCaution : ℕ → GuardedGame Formula → List Line → List Literal → Which → Type 0
ChoicesSettleInCaution rounds game lines choices which =
    (known : List Tri) → IsKnownTable lines choices known → SettlesInCaution rounds game which known
