-- A game over the features of a diagram, with the names that texts write.
use Rattle.std.specs.Prelude.{◌≡◌, ℕ, ◌<◌, Bool, List, length, map, All}
use Rattle.std.specs.Bool.{Decides}
use Rattle.vpg_guards.specs.declared.tri.Tri.{Tri}
use Rattle.vpg_guards.specs.Formula.{Formula}
use Rattle.vpg_guards.specs.Known.{kleene, AreAllKnown}
use Rattle.vpg_diagram.specs.FeatureDiagram.{Line}
use Rattle.vpg_diagram.specs.DiagramText.{NamedDiagram}
use Rattle.vpg_game.specs.Game.{NamedGame, graph_of, vertex_ids}
use Rattle.vpg_partial.specs.TableLaws.{IsKnownTable}
use Rattle.vpg_game.specs.Guarded.{GuardedGame}
use Rattle.vpg_measure.specs.Games.{GamesView, games_levels, games_arena}
use Rattle.vpg_measure.specs.Lifts.{IsProgressTable}
use Rattle.vpg_measure.specs.TwoGames.{top_for, IsProgressOf}
use Rattle.vpg_trail.specs.Page.{Which, Hopeful, Dual, Entry, Decided, Lifted, Decision, literal_of}
use Rattle.vpg_texts.specs.Text.{show_text, count_text, products_text, known_text}

-- the part of a game, and of the diagram with its features, that texts need
pub record Scene : Type 0 where
  pub game : GuardedGame Formula
  pub lines : List Line
  -- of the features, and of the vertices
  pub names : List (List ℕ)
  pub identifiers : List ℕ
  -- the names of vertices that stand beside lines; none if no names are asked for
  pub labels : List (List ℕ)

-- the scene of a game and the diagram with its features, with these names of its vertices
abbrev pub scene_of : (labels : List (List ℕ)) → NamedGame → NamedDiagram → Scene
scene_of labels game diagram =
    record {
      game = graph_of game;
      lines = diagram.lines;
      names = diagram.names;
      identifiers = vertex_ids game.vertices;
      labels = labels;
    }

-- this holds of the features that the decisions make known
abbrev pub UnderKnown : Scene → List Decision → (List Tri → Type 0) → Type 0
UnderKnown scene decisions P =
    (known : List Tri) × (IsKnownTable scene.lines (map literal_of decisions) known × P known)

-- the one of two tables
abbrev pub table_in : List ℕ → List ℕ → Which → List ℕ
table_in hopeful dual Hopeful = hopeful
table_in hopeful dual Dual = dual

-- no lift raises either of two tables of these games
abbrev pub AreSettledTables : GamesView → (hopeful dual : List ℕ) → Type 0
AreSettledTables games hopeful dual =
    (which : Which) → IsProgressTable (games_levels which games) (games_arena which games) (table_in hopeful dual which)

-- under what is known, both are progress tables of their games
abbrev pub AreProgressTables : List Tri → GuardedGame Formula → (hopeful dual : List ℕ) → Type 0
AreProgressTables known game hopeful dual =
    (table : Which) → IsProgressOf (kleene known) table game (table_in hopeful dual table)

-- Under what is known, the text, or the answer, is made of whether each feature is known, and of whether both tables
-- are progress tables.
pub record TellsUnder {A : Type 0} (game : GuardedGame Formula) (known : List Tri) (hopeful dual : List ℕ)
    (text_of : (full settled : Bool) → A) (text : A) : Type 0 where
  pub full : Bool
  pub settled : Bool
  pub full_is : Decides full (AreAllKnown (length known) known)
  pub settled_is : Decides settled (AreProgressTables known game hopeful dual)
  pub text_is : text ≡ text_of full settled

-- the lines of these decisions and tables
abbrev pub shown_lines : Scene → List Decision → (hopeful dual : List ℕ) → (full settled : Bool) → List ℕ
shown_lines scene decisions hopeful dual full settled =
    show_text scene.names scene.identifiers scene.labels (top_for Hopeful scene.game) (top_for Dual scene.game)
    (map literal_of decisions) full settled hopeful dual

-- The text shows these decisions, under what they make known, and these tables.
abbrev pub IsShown : Scene → List Decision → (hopeful dual text : List ℕ) → Type 0
IsShown scene decisions hopeful dual text =
    UnderKnown scene decisions
    (λ known. TellsUnder scene.game known hopeful dual (shown_lines scene decisions hopeful dual) text)

-- the number of vertices with each verdict by these tables; a mark ends the last line
abbrev pub counted_lines : Scene → (hopeful dual mark : List ℕ) → (full settled : Bool) → List ℕ
counted_lines scene hopeful dual mark full settled =
    count_text (top_for Hopeful scene.game) (top_for Dual scene.game) full settled mark hopeful dual

-- The text counts the verdicts by these tables, under what the decisions make known, and ends in this mark.
abbrev pub IsCounted : Scene → List Decision → (hopeful dual mark text : List ℕ) → Type 0
IsCounted scene decisions hopeful dual mark text =
    UnderKnown scene decisions
    (λ known. TellsUnder scene.game known hopeful dual (counted_lines scene hopeful dual mark) text)

-- The text says of each feature whether the decisions make it known.
abbrev pub TellsKnown : Scene → List Decision → List ℕ → Type 0
TellsKnown scene decisions text = UnderKnown scene decisions (λ known. text ≡ products_text scene.names known)

-- The text says of this feature whether the decisions make it known.
abbrev pub TellsFeature : Scene → List Decision → ℕ → List ℕ → Type 0
TellsFeature scene decisions f text = UnderKnown scene decisions (λ known. text ≡ known_text scene.names known f)

-- the features and the vertex of an entry are below these counts
abbrev pub EntryIsWithin : ℕ → ℕ → Entry → Type 0
EntryIsWithin features vertices (Decided d) = d.feature < features
EntryIsWithin features vertices (Lifted l) = (l.vertex < vertices) × All (λ c. c.feature < features) l.under
