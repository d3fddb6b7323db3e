-- The hopeful and the cautious game when choices of a diagram's features make features known.
use Rattle.std.specs.Prelude.{◌≡◌, Bool, List}
use Rattle.vpg_guards.specs.declared.tri.Tri.{Tri}
use Rattle.vpg_guards.specs.Formula.{Formula, truth, IsBelow}
use Rattle.vpg_guards.specs.Known.{kleene, AreAllKnown}
use Rattle.vpg_diagram.specs.declared.clause.Literal.{Literal}
use Rattle.vpg_diagram.specs.FeatureDiagram.{Line, IsDiagram, feature_count}
use Rattle.vpg_partial.specs.KnownLaws.{IsRemaining}
use Rattle.vpg_partial.specs.TableLaws.{IsKnownTable, AreAmong, AreChoicesOf}
use Rattle.vpg_game.specs.Guarded.{GuardedGame, AllGuards, dual}
use Rattle.vpg_hope.specs.Comparison.{IsEasier, dual_game}
use Rattle.vpg_hope.specs.Hope.{product_game, hopeful_game, cautious_game}

-- the hopeful game favours Even at least as much as the game of each product that agrees with the choices
abbrev pub RemainingProductsAreHarder : Type 0
RemainingProductsAreHarder =
    (lines : List Line) (choices : List Literal) (known : List Tri) (set : List Bool) (game : GuardedGame Formula) →
    IsDiagram lines → IsKnownTable lines choices known → IsRemaining lines choices set →
    IsEasier (hopeful_game (kleene known) game) (product_game (truth set) game)

-- the hopeful game of the dual favours Even, who stands for Odd, at least as much as the dual of each of these games
abbrev pub DualsOfRemainingProductsAreHarder : Type 0
DualsOfRemainingProductsAreHarder =
    (lines : List Line) (choices : List Literal) (known : List Tri) (set : List Bool) (game : GuardedGame Formula) →
    IsDiagram lines → IsKnownTable lines choices known → IsRemaining lines choices set →
    IsEasier (hopeful_game (kleene known) (dual game)) (dual_game (product_game (truth set) game))

-- the cautious game favours Even at most as much as the game of each product that agrees with the choices
abbrev pub RemainingProductsAreEasier : Type 0
RemainingProductsAreEasier =
    (lines : List Line) (choices : List Literal) (known : List Tri) (set : List Bool) (game : GuardedGame Formula) →
    IsDiagram lines → IsKnownTable lines choices known → IsRemaining lines choices set →
    IsEasier (product_game (truth set) game) (cautious_game (kleene known) game)

-- the hopeful game favours Even at least as much as the one after further choices
abbrev pub MoreChoicesAreHarder : Type 0
MoreChoicesAreHarder =
    (lines : List Line) (few many : List Literal) (known more : List Tri) (game : GuardedGame Formula) →
    AreAmong few many → IsKnownTable lines few known → IsKnownTable lines many more →
    IsEasier (hopeful_game (kleene known) game) (hopeful_game (kleene more) game)

-- if every feature is known, both are exact: the game of the one product that agrees with the choices, and its dual
abbrev pub FullPagesHaveTheProductsGame : Type 0
FullPagesHaveTheProductsGame =
    (lines : List Line) (choices : List Literal) (known : List Tri) (game : GuardedGame Formula) →
    IsDiagram lines → AreChoicesOf lines choices → IsKnownTable lines choices known →
    AreAllKnown (feature_count lines) known → AllGuards (IsBelow (feature_count lines)) game →
    (set : List Bool) × IsRemaining lines choices set ×
    ((other : List Bool) → IsRemaining lines choices other → other ≡ set) ×
    (hopeful_game (kleene known) game ≡ product_game (truth set) game) ×
    (hopeful_game (kleene known) (dual game) ≡ dual_game (product_game (truth set) game))
