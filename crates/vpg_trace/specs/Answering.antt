-- The answer for a vertex: a trace of how the verdict comes about. This project's own.
use Rattle.std.specs.Prelude.{◌≡◌, ℕ, ◌⊎◌, Option, List, ◌++◌, codes, decimal, slice_index}
use Rattle.vpg_guards.specs.declared.tri.Tri.{Tri}
use Rattle.vpg_diagram.specs.FeatureDiagram.{Line}
use Rattle.vpg_guards.specs.Formula.{Formula}
use Rattle.vpg_game.specs.Game.{graph_of, vertex_ids}
use Rattle.vpg_game.specs.Guarded.{GuardedGame}
use Rattle.vpg_partial.specs.TableLaws.{IsKnownTable}
use Rattle.vpg_partial.specs.declared.decision.Decision.{Decision}
use Rattle.vpg_checking.specs.Behaviours.{Behaviour}
use Rattle.vpg_sides.specs.declared.which.Which.{Which}
use Rattle.vpg_sides.specs.declared.which.Which.TheVariants.{Hopeful, Dual}
use Rattle.vpg_measure.specs.Orders.{OrderView, other_table}
use Rattle.vpg_measure.specs.TwoGames.{top_for}
use Rattle.vpg_why.specs.Explained.{choices}
use Rattle.vpg_why.specs.Moves.{AreWinning, ChoicesSettleInCaution, caution_for}
use Rattle.vpg_why.specs.declared.question.Limits.{Limits}
use Rattle.vpg_trace.specs.Texts.{Family, family_of, trace_text}
use Rattle.vpg_trace.specs.Walks.{Walked, walk_from, is_left}

-- A page: its game, the identifiers of the vertices, the names of its features, the lines of its diagram, its
-- decisions, and both tables.
pub record Page : Type 0 where
  pub game : GuardedGame Formula
  pub identifiers : List ℕ
  pub features : List (List ℕ)
  pub lines : List Line
  pub decisions : List Decision
  pub hopeful : List ℕ
  pub dual : List ℕ

-- the page of an order
abbrev pub page_of : OrderView → Page
page_of order = record {
  game = graph_of order.game;
  identifiers = vertex_ids order.game.vertices;
  features = order.diagram.names;
  lines = order.diagram.lines;
  decisions = order.decisions;
  hopeful = order.hopeful;
  dual = order.dual;
}

-- the words of a walk on the page, under this knowledge of its features
abbrev pub family_on : Page → List Tri → Behaviour → Family
family_on page known behaviour = family_of page.features behaviour.actions known behaviour.states behaviour.sets
    behaviour.parts behaviour.pairs

-- either table
abbrev pub page_table : Which → Page → List ℕ
page_table Hopeful page = page.hopeful
page_table Dual page = page.dual

-- the page has the table's verdict at the vertex
abbrev pub HasVerdict : Page → Which → ℕ → Type 0
HasVerdict page which vertex = slice_index (page_table which page) vertex ≡ top_for which page.game

abbrev pub identifier_of : Page → ℕ → ℕ
identifier_of page vertex = slice_index page.identifiers vertex

-- the verdict of a table at a vertex, and what stands beside it
abbrev pub head_line : Which → ℕ → (beside : List ℕ) → List ℕ
head_line Hopeful identifier beside = codes "hopeless " ++ decimal identifier ++ beside ++ codes "\n"
head_line Dual identifier beside = codes "sure " ++ decimal identifier ++ beside ++ codes "\n"

-- the vertex has neither verdict
abbrev pub neither_line : ℕ → (beside : List ℕ) → List ℕ
neither_line identifier beside = codes "possible " ++ decimal identifier ++ codes " unsure" ++ beside ++ codes "\n"

-- a limit was met
abbrev pub unsettled_line : List ℕ
unsettled_line = codes "unsettled\n"

-- the walk along these moves of a player: Even for the hopeful table, Odd for the dual one
abbrev pub walk_along : Page → List Tri → Which → ℕ → List (Option ℕ) → Walked
walk_along page known mover vertex moves = walk_from (caution_for known mover page.game) moves vertex

-- the verdict by which the player wins, and the walk
abbrev pub walk_text : Page → List Tri → Behaviour → Which → ℕ → (beside : List ℕ) → List (Option ℕ) → List ℕ
walk_text page known behaviour mover vertex beside moves =
    head_line (other_table mover) (identifier_of page vertex) beside
    ++ trace_text (family_on page known behaviour) (walk_along page known mover vertex moves).visits
    (is_left (walk_along page known mover vertex moves).waiting)

-- The text added is the walk along these moves, under what the decisions make known.
pub record IsWalkTold (page : Page) (behaviour : Behaviour) (mover : Which) (vertex : ℕ) (beside : List ℕ)
    (moves : List (Option ℕ)) (before after : List ℕ) : Type 0 where
  pub known : List Tri
  pub is_known : IsKnownTable page.lines (choices page.decisions) known
  pub appended : after ≡ before ++ walk_text page known behaviour mover vertex beside moves

-- The moves win in each product that is left, and the text is that of the walk along them, under what is known.
pub record TellsWalk (page : Page) (behaviour : Behaviour) (mover : Which) (vertex : ℕ) (beside text : List ℕ) :
    Type 0 where
  pub moves : List (Option ℕ)
  pub win : AreWinning page.game page.lines (choices page.decisions) mover vertex moves
  pub known : List Tri
  pub is_known : IsKnownTable page.lines (choices page.decisions) known
  pub text_is : text ≡ walk_text page known behaviour mover vertex beside moves

-- the limits leave no room to find such moves
abbrev pub IsTooShort : Page → Limits → Which → Type 0
IsTooShort page limits mover =
    ¬ (ChoicesSettleInCaution limits.rounds page.game page.lines (choices page.decisions) mover)

-- A walk along moves of the player that win; or the limits leave no room to find them.
abbrev pub TellsWon : Page → Behaviour → Limits → (mover : Which) → (vertex : ℕ) → (beside text : List ℕ) → Type 0
TellsWon page behaviour limits mover vertex beside text =
    TellsWalk page behaviour mover vertex beside text ⊎ (IsTooShort page limits mover × (text ≡ unsettled_line))

-- If the vertex is hopeless on the page, the walk is along Odd's moves; if it is sure, along Even's. Otherwise the text
-- says that it is neither. What stands beside the vertex ends its line.
abbrev pub TellsTrace : Page → Behaviour → Limits → (vertex : ℕ) → (beside text : List ℕ) → Type 0
TellsTrace page behaviour limits vertex beside text =
    (HasVerdict page Hopeful vertex × TellsWon page behaviour limits Dual vertex beside text)
    ⊎ (¬ (HasVerdict page Hopeful vertex) × HasVerdict page Dual vertex
    × TellsWon page behaviour limits Hopeful vertex beside text)
    ⊎ (¬ (HasVerdict page Hopeful vertex) × ¬ (HasVerdict page Dual vertex)
    × (text ≡ neither_line (identifier_of page vertex) beside))

-- such a text is appended
abbrev pub Appends : (List ℕ → Type 0) → List ℕ → List ℕ → Type 0
Appends Tells before after = (text : List ℕ) × Tells text × (after ≡ before ++ text)
