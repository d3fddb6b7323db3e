-- When limits leave room for an exact answer. This project's own.
use Rattle.std.specs.Prelude.{ℕ, ◌+◌, ◌≤◌, ⊤, List, [], ◌++◌, length, replicate}
use Rattle.vpg_guards.specs.declared.tri.Tri.{Tri}
use Rattle.vpg_guards.specs.Known.{kleene}
use Rattle.vpg_diagram.specs.declared.clause.Literal.{Literal}
use Rattle.vpg_measure.specs.Lifts.{IsProgressTable, after_rounds}
use Rattle.vpg_measure.specs.TwoGames.{levels_for, arena_for}
use Rattle.vpg_sides.specs.declared.which.Which.{Which}
use Rattle.vpg_sides.specs.declared.which.Which.TheVariants.{Hopeful, Dual}
use Rattle.vpg_partial.specs.TableLaws.{AreAmong, IsKnownTable}
use Rattle.vpg_texts.specs.Scene.{Scene}
use Rattle.vpg_why.specs.Suffices.{AreOpenUpTo, HasTrials}
use Rattle.vpg_why.specs.declared.question.Aim.{Aim}
use Rattle.vpg_why.specs.declared.question.Aim.TheVariants as aims
use Rattle.vpg_why.specs.declared.question.Limits.{Limits}
use Rattle.vpg_winners.specs.Winners.{most_looks}

-- the scene without names of vertices, which no search reads
abbrev pub unlabelled : Scene → Scene
unlabelled scene = record scene { labels = [] }

-- under what these choices make known, this many rounds of lifts from zeros leave a progress table
abbrev pub RoundsSettle : Scene → (rounds : ℕ) → Which → List Literal → Type 0
RoundsSettle scene rounds which choices = (known : List Tri) → IsKnownTable scene.lines choices known →
    IsProgressTable (levels_for which scene.game) (arena_for (kleene known) which scene.game)
    (after_rounds (levels_for which scene.game) (arena_for (kleene known) which scene.game) rounds
    (replicate (length (arena_for (kleene known) which scene.game)) 0))

-- they do so under each list of some of these choices
abbrev pub RoundsSettleEach : Scene → (rounds : ℕ) → Which → List Literal → Type 0
RoundsSettleEach scene rounds which choices =
    (own : List Literal) → AreAmong own choices → RoundsSettle scene rounds which own

-- The tables that a search for such a product needs are settled under these choices, whatever else is chosen. It needs
-- none if any product will do.
abbrev pub RoundsSettleFor : Scene → (rounds : ℕ) → Aim → List Literal → Type 0
RoundsSettleFor scene rounds aims.Any choices = ⊤
RoundsSettleFor scene rounds (aims.Won which vertex) choices =
    (more : List Literal) → RoundsSettle scene rounds which (choices ++ more)

-- and the trials suffice for each case of the features that are open
abbrev pub SearchEnds : Scene → Limits → Aim → List Literal → Type 0
SearchEnds scene limits aim choices =
    RoundsSettleFor scene limits.rounds aim choices × HasTrials scene.lines choices limits.trials

-- a search ends so from each list of some of these choices
abbrev pub EachSearchEnds : Scene → Limits → Aim → List Literal → Type 0
EachSearchEnds scene limits aim choices =
    (own : List Literal) → AreAmong own choices → SearchEnds scene limits aim own

-- both searches end, for a product that Even wins from the vertex and for one that Odd wins
abbrev pub BothSearchesEnd : Scene → Limits → (vertex : ℕ) → List Literal → Type 0
BothSearchesEnd scene limits vertex choices =
    SearchEnds scene limits (aims.Won Hopeful vertex) choices × SearchEnds scene limits (aims.Won Dual vertex) choices

-- A split of these choices ends. Both tables are settled under them, whatever else is chosen, and the trials suffice
-- for all looks at the cases of the features that are open.
pub record SplitEnds (scene : Scene) (limits : Limits) (choices : List Literal) : Type 0 where
  pub hopeful : (more : List Literal) → RoundsSettle scene limits.rounds Hopeful (choices ++ more)
  pub dual : (more : List Literal) → RoundsSettle scene limits.rounds Dual (choices ++ more)
  pub most : ℕ
  pub are_open : AreOpenUpTo most scene.lines choices
  pub trials : most_looks (most + 1) ≤ limits.trials
