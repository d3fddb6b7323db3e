-- The winner at a vertex in the products that choices leave. Products: Schobbens et al. 2007; winning: the standard of
-- parity games.
use Rattle.std.specs.Prelude.{ℕ, ⊤, Bool, List, IsTrue}
use Rattle.vpg_sides.specs.declared.player.Player.{Player}
use Rattle.vpg_sides.specs.declared.player.Player.TheVariants.{Even, Odd}
use Rattle.vpg_guards.specs.Formula.{Formula, truth}
use Rattle.vpg_diagram.specs.FeatureDiagram.{Line}
use Rattle.vpg_diagram.specs.declared.clause.Literal.{Literal}
use Rattle.vpg_game.specs.Guarded.{GuardedGame}
use Rattle.vpg_hope.specs.Hope.{product_game}
use Rattle.vpg_determined.specs.Determined.{HasWin}
use Rattle.vpg_partial.specs.KnownLaws.{IsRemaining}
use Rattle.vpg_why.specs.Products.{ComesBefore}
use Rattle.vpg_why.specs.declared.searching.Example.{Example}
use Rattle.vpg_why.specs.declared.searching.Found.{Found}
use Rattle.vpg_why.specs.declared.searching.Found.TheVariants as founds
use Rattle.vpg_winners.specs.declared.deciding.Decided.{Decided}
use Rattle.vpg_winners.specs.declared.deciding.Decided.TheVariants as decides

-- in the game of the product some positional strategy of the player wins from the vertex
abbrev pub WinsProduct : GuardedGame Formula → Player → ℕ → List Bool → Type 0
WinsProduct game player vertex set = HasWin (product_game (truth set) game) player vertex

-- the player wins from the vertex in each product that agrees with the choices
abbrev pub WinsEach : GuardedGame Formula → List Line → List Literal → Player → ℕ → Type 0
WinsEach game lines choices player vertex =
    (set : List Bool) → IsRemaining lines choices set → WinsProduct game player vertex set

-- some product agrees with the choices
abbrev pub HasRemaining : List Line → List Literal → Type 0
HasRemaining lines choices = (set : List Bool) × IsRemaining lines choices set

-- no product agrees with the choices
abbrev pub NoneRemains : List Line → List Literal → Type 0
NoneRemains lines choices = (set : List Bool) → IsRemaining lines choices set → ⊥

-- A product that agrees with the choices and that the player wins. It is the first one in the order of the features, if
-- that is shown.
pub record IsWonProduct (game : GuardedGame Formula) (lines : List Line) (choices : List Literal) (player : Player)
    (vertex : ℕ) (example : Example) : Type 0 where
  pub remaining : IsRemaining lines choices example.features.items
  pub wins : WinsProduct game player vertex example.features.items
  pub is_first : IsTrue example.first → (other : List Bool) → IsRemaining lines choices other →
      ComesBefore other example.features.items → WinsProduct game player vertex other → ⊥

-- the winners at the vertex in the products that agree with the choices
abbrev pub IsDecidedAs : GuardedGame Formula → List Line → List Literal → ℕ → Decided → Type 0
IsDecidedAs game lines choices vertex decides.Won = HasRemaining lines choices × WinsEach game lines choices Even vertex
IsDecidedAs game lines choices vertex decides.Lost = HasRemaining lines choices × WinsEach game lines choices Odd vertex
IsDecidedAs game lines choices vertex (decides.Mixed won lost) =
    IsWonProduct game lines choices Even vertex won × IsWonProduct game lines choices Odd vertex lost
IsDecidedAs game lines choices vertex decides.Empty = NoneRemains lines choices
IsDecidedAs game lines choices vertex decides.Unsettled = ⊤

-- no limit was met
abbrev pub IsDecidedExact : Decided → Type 0
IsDecidedExact decides.Won = ⊤
IsDecidedExact decides.Lost = ⊤
IsDecidedExact (decides.Mixed won lost) = IsTrue won.first × IsTrue lost.first
IsDecidedExact decides.Empty = ⊤
IsDecidedExact decides.Unsettled = ⊥

-- the joint result of two searches: for a product that Even wins, and for one that Odd wins
abbrev pub decided_by : Found → Found → Decided
decided_by (founds.Product won) (founds.Product lost) = decides.Mixed won lost
decided_by (founds.Product won) founds.Nothing = decides.Won
decided_by (founds.Product won) founds.Unsettled = decides.Unsettled
decided_by founds.Nothing (founds.Product lost) = decides.Lost
decided_by founds.Nothing founds.Nothing = decides.Empty
decided_by founds.Nothing founds.Unsettled = decides.Unsettled
decided_by founds.Unsettled lost = decides.Unsettled
