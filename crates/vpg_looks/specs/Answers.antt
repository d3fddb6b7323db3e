-- The meaning of answers that searches give. This project's own.
use Rattle.std.specs.Prelude.{◌≡◌, ℕ, ◌⊎◌, Bool, true, false, Option, Some, None, List, [], ◌++◌, codes, length, slice_index, IsTrue}
use Rattle.std.specs.List.{list_all, list_any}
use Rattle.vpg_guards.specs.declared.tri.Tri.{Tri}
use Rattle.vpg_diagram.specs.declared.clause.Literal.{Literal}
use Rattle.vpg_sides.specs.declared.player.Player.TheVariants.{Even, Odd}
use Rattle.vpg_measure.specs.Orders.{other_table}
use Rattle.vpg_measure.specs.TwoGames.{top_for}
use Rattle.vpg_sides.specs.declared.which.Which.{Which}
use Rattle.vpg_sides.specs.declared.which.Which.TheVariants.{Hopeful, Dual}
use Rattle.vpg_why.specs.Moves.{AreWinning, ChoicesSettleInCaution}
use Rattle.vpg_partial.specs.KnownLaws.{IsRemaining}
use Rattle.vpg_partial.specs.TableLaws.{IsKnownTable}
use Rattle.vpg_partial.specs.declared.decision.Decision.{Decision}
use Rattle.vpg_checking.specs.Behaviours.{Behaviour}
use Rattle.vpg_trace.specs.Answering.{Page, TellsTrace}
use Rattle.vpg_script.specs.Answer.{Answer, IsDone}
use Rattle.vpg_texts.specs.Labels.{label_of, beside}
use Rattle.vpg_texts.specs.Scene.{Scene}
use Rattle.vpg_why.specs.Explained.{choices, Explains}
use Rattle.vpg_why.specs.Products.{MeetsIn, NoneMeetsIn, IsFirstIn, AreNeedsIn}
use Rattle.vpg_why.specs.Repaired.{IsRepair}
use Rattle.vpg_why.specs.Suffices.{SufficeIn, choice}
use Rattle.vpg_why.specs.declared.question.Aim.{Aim}
use Rattle.vpg_why.specs.declared.question.Aim.TheVariants as aims
use Rattle.vpg_why.specs.declared.question.Limits.{Limits}
use Rattle.vpg_why.specs.declared.question.Question.{Question}
use Rattle.vpg_why.specs.declared.question.Question.TheVariants as asks
use Rattle.vpg_number.specs.declared.counted.Count.{Count}
use Rattle.vpg_winners.specs.Decided.{HasRemaining, NoneRemains, WinsEach}
use Rattle.vpg_winners.specs.Joined.{PartView}
use Rattle.vpg_looks.specs.declared.offers.Offered.{Offered}
use Rattle.vpg_looks.specs.declared.retracting.Tried.{Tried}
use Rattle.vpg_looks.specs.Texts.{marked_text, verdict_line, other_line, lost_head, lost_line, known_line, not_known, conflict_line, no_conflict, product_line, none_line, unsettled_line, number_line, part_line, part_lines, offers_text, forced_text, singles_text, several_text, moves_word, moves_text, winners_text, fact_line, mixed_text, empty_line}
use Rattle.vpg_looks.specs.Numbers.{AreAmounts, IsAmount, looks_each}
use Rattle.vpg_looks.specs.Offers.{AreOffers}
use Rattle.vpg_looks.specs.Repairs.{AreTried, HasWinner, IsLostBy, is_shown, is_winning}
use Rattle.vpg_looks.specs.Room.{BothSearchesEnd, EachSearchEnds, RoundsSettleEach, SearchEnds, unlabelled}
use Rattle.vpg_looks.specs.Winners.{AreWinners, IsExample}

-- these choices alone are the question's reason, in the scene's game and diagram
abbrev pub MakeSo : Scene → Question → List Literal → Type 0
MakeSo scene question = SufficeIn scene.game scene.lines question

-- Some of the page's decisions that alone are the reason, in its order. If `exact`, none of them can be left out, and
-- there is only one such list.
abbrev pub IsReason : Scene → Question → List Decision → (listed : List Decision) → (exact : Bool) → Type 0
IsReason scene question decisions listed exact = Explains (MakeSo scene question) decisions listed exact

-- ---- a vertex

abbrev pub identifier_of : Scene → ℕ → ℕ
identifier_of scene vertex = slice_index scene.identifiers vertex

-- the name that stands at the end of lines about a vertex
abbrev pub label_in : Scene → ℕ → List ℕ
label_in scene vertex = label_of scene.labels vertex

-- The page's table has the top at the vertex, and these decisions are the reason, exactly if the limits leave room for
-- each list of decisions; or it hasn't.
abbrev pub TellsVerdict : Scene → Limits → Which → (vertex : ℕ) → List Decision → (table text : List ℕ) → Type 0
TellsVerdict scene limits which vertex decisions table text =
    ((slice_index table vertex ≡ top_for which scene.game)
    × ((listed : List Decision) × (exact : Bool) × IsReason scene (asks.Verdict which vertex) decisions listed exact ×
    (text ≡ verdict_line scene.names which (identifier_of scene vertex) (label_in scene vertex) listed exact)
    × (RoundsSettleEach scene limits.rounds which (choices decisions) → IsTrue exact)))
    ⊎ (¬ (slice_index table vertex ≡ top_for which scene.game)
    × (text ≡ other_line which (identifier_of scene vertex) (label_in scene vertex)))

-- the text of both verdicts of a vertex
abbrev pub TellsVertex : Scene → Limits → (vertex : ℕ) → List Decision → (hopeful dual text : List ℕ) → Type 0
TellsVertex scene limits vertex decisions hopeful dual text =
    (first : List ℕ) × (second : List ℕ) × TellsVerdict scene limits Hopeful vertex decisions hopeful first ×
    TellsVerdict scene limits Dual vertex decisions dual second × (text ≡ first ++ second)

-- ---- a feature

-- it is known to have this value, by these decisions
abbrev pub TellsKnownBy : Scene → (feature : ℕ) → (value : Bool) → List Decision → (text : List ℕ) → Type 0
TellsKnownBy scene feature value decisions text =
    (listed : List Decision) × IsReason scene (asks.Known feature value) decisions listed true ×
    (text ≡ known_line scene.names value feature listed)

-- the decisions don't make this value known
abbrev pub IsNotKnown : Scene → (feature : ℕ) → (value : Bool) → List Decision → Type 0
IsNotKnown scene feature value decisions = ¬ (MakeSo scene (asks.Known feature value) (choices decisions))

-- it is known to be in, or else to be out, or neither
abbrev pub TellsFeature : Scene → (feature : ℕ) → List Decision → Answer → Type 0
TellsFeature scene feature decisions answer =
    IsDone (TellsKnownBy scene feature true decisions) answer
    ⊎ (IsNotKnown scene feature true decisions × IsDone (TellsKnownBy scene feature false decisions) answer)
    ⊎ (IsNotKnown scene feature true decisions × IsNotKnown scene feature false decisions × (answer ≡ not_known))

-- ---- one more decision

-- these decisions contradict it
abbrev pub TellsConflict : Scene → (feature : ℕ) → (value : Bool) → List Decision → (text : List ℕ) → Type 0
TellsConflict scene feature value decisions text =
    (listed : List Decision) × IsReason scene (asks.Conflict feature value) decisions listed true ×
    (text ≡ conflict_line scene.names (choice feature value) listed)

-- some decisions contradict it, or none do
abbrev pub TellsChoice : Scene → (feature : ℕ) → (value : Bool) → List Decision → Answer → Type 0
TellsChoice scene feature value decisions answer =
    IsDone (TellsConflict scene feature value decisions) answer
    ⊎ (¬ (MakeSo scene (asks.Conflict feature value) (choices decisions)) × (answer ≡ no_conflict))

-- ---- a product

-- A product left that meets the aim (any one, or one in which the verdict's loser wins from the vertex), the first one
-- if the limits leave room.
abbrev pub TellsProduct : Scene → Limits → Aim → List Decision → (text : List ℕ) → Type 0
TellsProduct scene limits aim decisions text =
    (set : List Bool) × (first : Bool) × IsRemaining scene.lines (choices decisions) set × MeetsIn scene.game aim set
    × (IsTrue first → IsFirstIn scene.game scene.lines aim (choices decisions) set) ×
    (text ≡ product_line scene.names set first)
    × (SearchEnds scene limits aim (choices decisions) → IsTrue first)

-- there is such a product; or there is none; or the limits leave no room
abbrev pub TellsExample : Scene → Limits → Aim → List Decision → (text : List ℕ) → Type 0
TellsExample scene limits aim decisions text =
    TellsProduct scene limits aim decisions text
    ⊎ (NoneMeetsIn scene.game scene.lines aim (choices decisions) × (text ≡ none_line))
    ⊎ (¬ (SearchEnds scene limits aim (choices decisions)) × (text ≡ unsettled_line))

-- the head of the line if no product left meets the aim: there is none at all, or the vertex is lost, or won
abbrev pub lost_for : Scene → Aim → List ℕ
lost_for scene aims.Any = codes "empty"
lost_for scene (aims.Won which vertex) = lost_head which (identifier_of scene vertex)

-- the name at the end of this line
abbrev pub lost_label : Scene → Aim → List ℕ
lost_label scene aims.Any = []
lost_label scene (aims.Won which vertex) = label_in scene vertex

-- These decisions of the page alone leave no such product, exactly if the limits leave room for each list of them; or
-- there is one; or the limits leave no room.
abbrev pub TellsLost : Scene → Limits → Aim → List Decision → (text : List ℕ) → Type 0
TellsLost scene limits aim decisions text =
    ((listed : List Decision) × (exact : Bool) × IsReason scene (asks.Lost aim) decisions listed exact ×
    (text ≡ lost_line (lost_for scene aim) (lost_label scene aim) scene.names listed exact)
    × (EachSearchEnds scene limits aim (choices decisions) → IsTrue exact))
    ⊎ TellsProduct scene limits aim decisions text
    ⊎ (¬ (SearchEnds scene limits aim (choices decisions)) × (text ≡ unsettled_line))

-- ---- offers

-- for each feature that isn't known, the vertex's verdicts after deciding it in, and out
abbrev pub TellsOffers : Scene → Limits → (vertex : ℕ) → List Decision → (text : List ℕ) → Type 0
TellsOffers scene limits vertex decisions text =
    (known : List Tri) × (listed : List Offered) × IsKnownTable scene.lines (choices decisions) known ×
    AreOffers (unlabelled scene) limits vertex decisions known (length known) listed
    × (text ≡ offers_text scene.names listed)

-- ---- forced and needed features

abbrev pub forced_word : Aim → List ℕ
forced_word aims.Any = codes "forced"
forced_word (aims.Won which vertex) = codes "needs"

-- The features that all products left have, or lack, that meet the aim, if there is one; or there is none; or the
-- limits leave no room.
abbrev pub TellsForced : Scene → Limits → Aim → List Decision → (text : List ℕ) → Type 0
TellsForced scene limits aim decisions text =
    ((listed : List Literal) × (exact : Bool) × (set : List Bool) × IsRemaining scene.lines (choices decisions) set ×
    MeetsIn scene.game aim set × AreNeedsIn scene.game scene.lines aim (choices decisions) listed exact ×
    (text ≡ forced_text (forced_word aim) scene.names listed exact)
    × (SearchEnds scene limits aim (choices decisions) → IsTrue exact))
    ⊎ (NoneMeetsIn scene.game scene.lines aim (choices decisions) × (text ≡ none_line))
    ⊎ (¬ (SearchEnds scene limits aim (choices decisions)) × (text ≡ unsettled_line))

-- ---- retractions

-- some decision leaves a product that Even wins if it alone is retracted
abbrev pub HasSingle : List Tried → Type 0
HasSingle tried = list_any (λ t. is_winning t.effect) tried ≡ true

-- no effect met a limit
abbrev pub all_shown : List Tried → Bool
all_shown tried = list_all (λ t. is_shown t.effect) tried

-- Several do together, so that the oldest are kept; or the limits leave no room.
abbrev pub TellsSeveral : Scene → Limits → (vertex : ℕ) → List Decision → List Tried → (text : List ℕ) → Type 0
TellsSeveral scene limits vertex decisions tried text =
    ((kept : List Decision) × (given : List Decision) × (sure : Bool) ×
    IsRepair (IsLostBy scene vertex) decisions kept given sure ×
    (text ≡ several_text scene.names given sure tried (all_shown tried))
    × (EachSearchEnds scene limits (aims.Won Hopeful vertex) (choices decisions) → IsTrue sure))
    ⊎ (¬ (EachSearchEnds scene limits (aims.Won Hopeful vertex) (choices decisions))
    × (text ≡ marked_text scene.names 0 tried false))

-- The decisions that leave a product that Even wins if they alone are retracted; or, if there are none, several. Those
-- that change the verdict alone come last. Or Even wins in no product of the diagram.
abbrev pub TellsRetractions : Scene → Limits → (vertex : ℕ) → (was_hopeless : Bool) → List Decision →
    (text : List ℕ) → Type 0
TellsRetractions scene limits vertex was_hopeless decisions text =
    ((tried : List Tried) × AreTried (unlabelled scene) limits vertex was_hopeless decisions (length decisions) tried ×
    ((HasSingle tried × (text ≡ singles_text scene.names tried (all_shown tried)))
    ⊎ (¬ (HasSingle tried) × TellsSeveral scene limits vertex decisions tried text)))
    ⊎ (IsLostBy scene vertex [] × (text ≡ none_line))

-- The page's table has the top at the vertex, and these decisions can be retracted. Or it hasn't, and Even wins in no
-- product left; or in some; or the limits leave no room.
abbrev pub TellsRepair : Scene → Limits → (vertex : ℕ) → List Decision → (hopeful text : List ℕ) → Type 0
TellsRepair scene limits vertex decisions hopeful text =
    ((slice_index hopeful vertex ≡ top_for Hopeful scene.game)
    × TellsRetractions scene limits vertex true decisions text)
    ⊎ (¬ (slice_index hopeful vertex ≡ top_for Hopeful scene.game)
    × ((IsLostBy scene vertex (choices decisions) × TellsRetractions scene limits vertex false decisions text)
    ⊎ (HasWinner scene vertex (choices decisions)
    × (text ≡ other_line Hopeful (identifier_of scene vertex) (label_in scene vertex)))
    ⊎ (¬ (SearchEnds scene limits (aims.Won Hopeful vertex) (choices decisions)) × (text ≡ unsettled_line))))

-- ---- moves

-- Moves that win in each product left; or the limits leave no room.
abbrev pub TellsWinning : Scene → Limits → (mover : Which) → (vertex : ℕ) → List Decision → (text : List ℕ) → Type 0
TellsWinning scene limits mover vertex decisions text =
    ((moves : List (Option ℕ)) × AreWinning scene.game scene.lines (choices decisions) mover vertex moves ×
    (text ≡ moves_text (moves_word mover) scene.identifiers scene.labels moves))
    ⊎ (¬ (ChoicesSettleInCaution limits.rounds scene.game scene.lines (choices decisions) mover)
    × (text ≡ unsettled_line))

-- The moves are Even's for the hopeful table, Odd's for the dual. The page's other table has the top at the vertex, so
-- this player wins, by these moves; or it hasn't.
abbrev pub TellsMoves : Scene → Limits → (mover : Which) → (vertex : ℕ) → List Decision → (table text : List ℕ) →
    Type 0
TellsMoves scene limits mover vertex decisions table text =
    ((slice_index table vertex ≡ top_for (other_table mover) scene.game)
    × TellsWinning scene limits mover vertex decisions text)
    ⊎ (¬ (slice_index table vertex ≡ top_for (other_table mover) scene.game)
    × (text ≡ other_line (other_table mover) (identifier_of scene vertex) (label_in scene vertex)))

-- ---- traces

-- the page of a trace: the scene, with these decisions and tables
abbrev pub page_in : Scene → List Decision → (hopeful dual : List ℕ) → Page
page_in scene decisions hopeful dual = record {
  game = scene.game;
  identifiers = scene.identifiers;
  features = scene.names;
  lines = scene.lines;
  decisions = decisions;
  hopeful = hopeful;
  dual = dual;
}

-- the game was made of a system over this many features
abbrev pub IsOver : ℕ → Option Behaviour → Type 0
IsOver features None = ⊥
IsOver features (Some behaviour) = behaviour.features ≡ features

-- The trace of the verdict, as steps of the system that the game was made of. Without one there is no answer.
abbrev pub TellsTraced : Option Behaviour → Scene → Limits → (vertex : ℕ) → List Decision →
    (hopeful dual text : List ℕ) → Type 0
TellsTraced None scene limits vertex decisions hopeful dual text = ⊥
TellsTraced (Some behaviour) scene limits vertex decisions hopeful dual text =
    TellsTrace (page_in scene decisions hopeful dual) behaviour limits vertex (beside (label_in scene vertex)) text

-- ---- who wins

-- a part, with the number of products that agree with the choices and with its literals
abbrev pub TellsPartLine : Scene → (looks vertex : ℕ) → List Literal → PartView → (text : List ℕ) → Type 0
TellsPartLine scene looks vertex choices part text =
    (count : Count) × IsAmount scene.lines looks (choices ++ part.literals) count
    × (text ≡ part_line scene.names (identifier_of scene vertex) (label_in scene vertex) part count)

abbrev pub TellsPartLines : Scene → (looks vertex : ℕ) → List Literal → List PartView → (text : List ℕ) → Type 0
TellsPartLines scene looks vertex choices parts text =
    (counts : List Count) × AreAmounts scene looks choices parts counts
    × (text ≡ part_lines scene.names (identifier_of scene vertex) (label_in scene vertex) parts counts)

-- The products left, in parts by the winner at the vertex. Each line has the number of products that agree with it, or
-- a lower bound.
abbrev pub TellsWinners : Scene → Limits → (vertex : ℕ) → List Decision → (text : List ℕ) → Type 0
TellsWinners scene limits vertex decisions text =
    (parts : List PartView) × (counts : List Count) × AreWinners scene limits vertex (choices decisions) parts
    × AreAmounts scene (looks_each limits.trials (length parts)) (choices decisions) parts counts
    × (text ≡ winners_text scene.names (identifier_of scene vertex) (label_in scene vertex) parts counts)

-- a product left that Even wins, and one that Odd wins, the first ones if the limits leave room
abbrev pub TellsMixed : Scene → Limits → (vertex : ℕ) → List Decision → (text : List ℕ) → Type 0
TellsMixed scene limits vertex decisions text =
    (won : List Bool) × (lost : List Bool) × (first : Bool) × (second : Bool) ×
    IsExample scene (aims.Won Hopeful vertex) (choices decisions) won first
    × IsExample scene (aims.Won Dual vertex) (choices decisions) lost second
    × (text ≡ mixed_text scene.names (identifier_of scene vertex) (label_in scene vertex) won first lost second)
    × (BothSearchesEnd scene limits vertex (choices decisions) → IsTrue first × IsTrue second)

-- Even wins in each product left, or Odd does, and there is one; or each of them wins in some; or no product is left;
-- or the limits leave no room.
abbrev pub TellsDecided : Scene → Limits → (vertex : ℕ) → List Decision → (text : List ℕ) → Type 0
TellsDecided scene limits vertex decisions text =
    (HasRemaining scene.lines (choices decisions) × WinsEach scene.game scene.lines (choices decisions) Even vertex
    × (text ≡ fact_line Dual (identifier_of scene vertex) (label_in scene vertex)))
    ⊎ (HasRemaining scene.lines (choices decisions) × WinsEach scene.game scene.lines (choices decisions) Odd vertex
    × (text ≡ fact_line Hopeful (identifier_of scene vertex) (label_in scene vertex)))
    ⊎ TellsMixed scene limits vertex decisions text
    ⊎ (NoneRemains scene.lines (choices decisions) × (text ≡ empty_line))
    ⊎ (¬ (BothSearchesEnd scene limits vertex (choices decisions)) × (text ≡ unsettled_line))

-- ---- numbers

-- the number of products left, or a lower bound if a limit was met
abbrev pub TellsNumber : Scene → Limits → List Decision → (text : List ℕ) → Type 0
TellsNumber scene limits decisions text =
    (count : Count) × IsAmount scene.lines limits.trials (choices decisions) count × (text ≡ number_line count)

-- ---- texts

-- a text with the property was appended
abbrev pub Appends : (List ℕ → Type 0) → (before after : List ℕ) → Type 0
Appends Holds before after = (text : List ℕ) × (Holds text × (after ≡ before ++ text))

-- some line ends in this mark, and perhaps in a name after it
abbrev pub EndsIn : (mark text : List ℕ) → Type 0
EndsIn mark text = (before : List ℕ) × (name : List ℕ) × (behind : List ℕ)
    × (text ≡ before ++ mark ++ beside name ++ codes "\n" ++ behind)

-- A limit was met. Some line says that fewer decisions may do, or that there may be more lines or products. Or the text
-- gives some product, or only says that it is unsettled; or it is unsettled what some decision would change, or whether
-- what is asserted holds. Or a product of a mixed vertex need not be the first.
abbrev pub HasDoubt : List ℕ → Type 0
HasDoubt text =
    EndsIn (codes " or fewer") text
    ⊎ ((behind : List ℕ) × (text ≡ codes "some product" ++ behind))
    ⊎ (text ≡ unsettled_line)
    ⊎ ((before : List ℕ) × (behind : List ℕ) × (text ≡ codes "offer" ++ before ++ codes " unsettled" ++ behind))
    ⊎ EndsIn (codes " or more") text
    ⊎ (text ≡ codes "fails unsettled\n")
    ⊎ ((before : List ℕ) × (behind : List ℕ) × (text ≡ codes "mixed" ++ before ++ codes "\nsome product" ++ behind))
