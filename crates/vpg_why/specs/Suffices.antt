-- Questions on a list of choices, and when the choices alone make it so. This project's own.
use Rattle.std.specs.Prelude.{◌≡◌, ℕ, zero, suc, ◌+◌, ◌<◌, ◌≤◌, ⊤, Bool, true, false, List, [], ◌∷◌, ◌++◌, count_by, length, replicate, slice_index, IsTrue}
use Rattle.vpg_guards.specs.declared.tri.Tri.{Tri}
use Rattle.vpg_guards.specs.declared.tri.Tri.TheVariants.{No, Unknown, Yes}
use Rattle.vpg_guards.specs.Formula.{Formula}
use Rattle.vpg_guards.specs.Known.{kleene}
use Rattle.vpg_diagram.specs.DiagramText.{NamedDiagram}
use Rattle.vpg_diagram.specs.FeatureDiagram.{Line, feature_count}
use Rattle.vpg_diagram.specs.declared.clause.Literal.{Literal}
use Rattle.vpg_game.specs.Game.{NamedGame, graph_of}
use Rattle.vpg_game.specs.Guarded.{GuardedGame}
use Rattle.vpg_partial.specs.KnownLaws.{HasConflictOf}
use Rattle.vpg_partial.specs.KnownTable.{literals_in}
use Rattle.vpg_partial.specs.TableLaws.{AreAmong, IsKnownTable}
use Rattle.vpg_measure.specs.Least.{IsValueBelow}
use Rattle.vpg_measure.specs.Lifts.{IsProgressTable, after_rounds}
use Rattle.vpg_measure.specs.TwoGames.{levels_for, arena_for, top_for, IsProgressOf}
use Rattle.vpg_sides.specs.declared.which.Which.{Which}
use Rattle.vpg_why.specs.Products.{NoneMeetsIn}
use Rattle.vpg_why.specs.declared.question.Aim.{Aim}
use Rattle.vpg_why.specs.declared.question.Aim.TheVariants as aims
use Rattle.vpg_why.specs.declared.question.Limits.{Limits}
use Rattle.vpg_why.specs.declared.question.Question.{Question}
use Rattle.vpg_why.specs.declared.question.Question.TheVariants as asks

-- the feature, in or out
abbrev pub choice : ℕ → Bool → Literal
choice feature value = record { feature = feature; value = value }

-- under what is known, every progress table of the game has the top at the vertex
abbrev pub IsTopIn : GuardedGame Formula → Which → ℕ → List Tri → Type 0
IsTopIn game which vertex known = IsValueBelow (levels_for which game) (arena_for (kleene known) which game) vertex (top_for which game)

abbrev pub IsTopUnder : NamedGame → Which → ℕ → List Tri → Type 0
IsTopUnder game = IsTopIn (graph_of game)

-- The choices alone make it so, for a game over the features of a diagram's lines. (If they contradict the diagram,
-- they make everything so.)
abbrev pub SufficeIn : GuardedGame Formula → List Line → Question → List Literal → Type 0
SufficeIn game lines (asks.Verdict which vertex) choices = (known : List Tri) → IsKnownTable lines choices known → IsTopIn game which vertex known
SufficeIn game lines (asks.Lost aim) choices = NoneMeetsIn game lines aim choices
SufficeIn game lines (asks.Known feature value) choices = (known : List Tri) → IsKnownTable lines choices known → IsTrue (literals_in known (choice feature value))
SufficeIn game lines (asks.Conflict feature value) choices = HasConflictOf lines (choices ++ choice feature value ∷ [])

-- the choices alone make it so, for a game with identifiers over the features of a diagram with names
abbrev pub Suffice : NamedGame → NamedDiagram → Question → List Literal → Type 0
Suffice game diagram = SufficeIn (graph_of game) diagram.lines

-- a vertex in the aim is one of the game's
abbrev pub IsAim : NamedGame → Aim → Type 0
IsAim game aims.Any = ⊤
IsAim game (aims.Won which vertex) = vertex < length game.vertices

-- the question is on a vertex of the game, or on a feature of the diagram
abbrev pub IsAskable : NamedGame → NamedDiagram → Question → Type 0
IsAskable game diagram (asks.Verdict which vertex) = vertex < length game.vertices
IsAskable game diagram (asks.Lost aim) = IsAim game aim
IsAskable game diagram (asks.Known feature value) = feature < feature_count diagram.lines
IsAskable game diagram (asks.Conflict feature value) = feature < feature_count diagram.lines

-- under what is known, some progress table of the game is below the top at the vertex
pub record IsLowUnder (game : NamedGame) (which : Which) (vertex : ℕ) (known : List Tri) : Type 0 where
  pub table : List ℕ
  pub progress : IsProgressOf (kleene known) which (graph_of game) table
  pub low : slice_index table vertex < top_for which (graph_of game)

-- The verdict under what is known bars the aim, or some progress table doesn't.
abbrev pub IsBarred : NamedGame → Aim → List Tri → Type 0
IsBarred game aims.Any known = ⊥
IsBarred game (aims.Won which vertex) known = IsTopUnder game which vertex known

abbrev pub MayMeet : NamedGame → Aim → List Tri → Type 0
MayMeet game aims.Any known = ⊤
MayMeet game (aims.Won which vertex) known = IsLowUnder game which vertex known

-- ---- limits

-- under what is known, this many rounds of lifts from zeros leave a progress table
abbrev pub SettlesWithin : ℕ → NamedGame → Which → List Tri → Type 0
SettlesWithin rounds game which known = IsProgressTable (levels_for which (graph_of game)) (arena_for (kleene known) which (graph_of game))
    (after_rounds (levels_for which (graph_of game)) (arena_for (kleene known) which (graph_of game)) rounds (replicate (length (arena_for (kleene known) which (graph_of game))) 0))

-- under what is known, this many rounds of lifts from zeros bring the vertex to the top
abbrev pub RoundsReachTop : ℕ → NamedGame → Which → ℕ → List Tri → Type 0
RoundsReachTop rounds game which vertex known =
    slice_index (after_rounds (levels_for which (graph_of game)) (arena_for (kleene known) which (graph_of game)) rounds
    (replicate (length (arena_for (kleene known) which (graph_of game))) 0)) vertex ≡ top_for which (graph_of game)

-- the table settles so under what the choices make known
abbrev pub SettlesUnder : ℕ → NamedGame → NamedDiagram → Which → List Literal → Type 0
SettlesUnder rounds game diagram which choices =
    (known : List Tri) → IsKnownTable diagram.lines choices known → SettlesWithin rounds game which known

-- this many rounds of lifts from zeros settle the game in which a product is to be won
abbrev pub AimSettlesWithin : ℕ → NamedGame → Aim → List Tri → Type 0
AimSettlesWithin rounds game aims.Any known = ⊤
AimSettlesWithin rounds game (aims.Won which vertex) known = SettlesWithin rounds game which known

-- the game of an aim settles so under what the choices make known
abbrev pub AimSettlesUnder : ℕ → NamedGame → NamedDiagram → Aim → List Literal → Type 0
AimSettlesUnder rounds game diagram aim choices =
    (known : List Tri) → IsKnownTable diagram.lines choices known → AimSettlesWithin rounds game aim known

-- it does under the choices, whatever else is chosen
abbrev pub AimSettles : ℕ → NamedGame → NamedDiagram → Aim → List Literal → Type 0
AimSettles rounds game diagram aim choices =
    (more : List Literal) → AimSettlesUnder rounds game diagram aim (choices ++ more)

-- the greatest number of trials of a search over this many features, less one
abbrev pub most_trials : ℕ → ℕ
most_trials zero = 0
most_trials (suc n) = suc (most_trials n + most_trials n)

abbrev pub is_open : Tri → Bool
is_open No = false
is_open Unknown = true
is_open Yes = false

-- At most this many features are open: the choices make known all others, or contradict the diagram.
abbrev pub AreOpenUpTo : ℕ → List Line → List Literal → Type 0
AreOpenUpTo most lines choices = (known : List Tri) → IsKnownTable lines choices known → count_by is_open known ≤ most

-- the trials suffice for each case of the features that are open
pub record HasTrials (lines : List Line) (choices : List Literal) (trials : ℕ) : Type 0 where
  pub most : ℕ
  pub are_open : AreOpenUpTo most lines choices
  pub enough : most_trials (most + 1) ≤ trials

-- The limits leave room for an answer on these choices: the rounds settle each table that is needed, of the choices and
-- of the cases that they leave, and the trials suffice for these cases. (The known features are computed without a
-- limit.)
abbrev pub IsSettled : NamedGame → NamedDiagram → Limits → Question → List Literal → Type 0
IsSettled game diagram limits (asks.Verdict which vertex) choices = SettlesUnder limits.rounds game diagram which choices
IsSettled game diagram limits (asks.Lost aim) choices =
    AimSettles limits.rounds game diagram aim choices × HasTrials diagram.lines choices limits.trials
IsSettled game diagram limits (asks.Known feature value) choices = ⊤
IsSettled game diagram limits (asks.Conflict feature value) choices = ⊤

-- they leave room for an answer on any of these choices
abbrev pub EachIsSettled : NamedGame → NamedDiagram → Limits → Question → List Literal → Type 0
EachIsSettled game diagram limits question choices =
    (own : List Literal) → AreAmong own choices → IsSettled game diagram limits question own
