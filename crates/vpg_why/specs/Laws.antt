-- Laws of explanations, as statements.
use Rattle.std.specs.Prelude.{◌≡◌, ℕ, ◌<◌, Bool, true, List, length}
use Rattle.vpg_diagram.specs.DiagramText.{NamedDiagram, IsNamedDiagram}
use Rattle.vpg_diagram.specs.FeatureDiagram.{Line, IsDiagram}
use Rattle.vpg_diagram.specs.declared.clause.Literal.{Literal}
use Rattle.vpg_guards.specs.Formula.{Formula}
use Rattle.vpg_game.specs.Game.{NamedGame, IsGame}
use Rattle.vpg_game.specs.Guarded.{GuardedGame}
use Rattle.vpg_partial.specs.KnownLaws.{IsRemaining}
use Rattle.vpg_partial.specs.TableLaws.{AreChoicesOf, AreAmong}
use Rattle.vpg_partial.specs.declared.decision.Decision.{Decision}
use Rattle.vpg_sides.specs.declared.which.Which.{Which}
use Rattle.vpg_why.specs.declared.question.Question.{Question}
use Rattle.vpg_why.specs.declared.question.Question.TheVariants as asks
use Rattle.vpg_why.specs.Explained.{choices, Explains}
use Rattle.vpg_why.specs.declared.question.Aim.{Aim}
use Rattle.vpg_why.specs.declared.question.Aim.TheVariants as aims
use Rattle.vpg_why.specs.Products.{NoneMeets, MeetsIn, IsFirstIn, AreNeedsIn}
use Rattle.vpg_why.specs.Repaired.{IsRepair}
use Rattle.vpg_why.specs.Suffices.{Suffice, SufficeIn}

-- choices that suffice still suffice with more choices
abbrev pub MoreChoicesSuffice : Type 0
MoreChoicesSuffice = (game : GuardedGame Formula) (lines : List Line) (question : Question) (few many : List Literal) →
    IsDiagram lines → AreChoicesOf lines few → AreAmong few many → SufficeIn game lines question few → SufficeIn game lines question many

-- If choices suffice for a verdict, its loser loses.
abbrev pub SufficientChoicesLose : Type 0
SufficientChoicesLose = (game : NamedGame) (diagram : NamedDiagram) (which : Which) (vertex : ℕ) (choices : List Literal) →
    IsGame game → IsNamedDiagram diagram → AreChoicesOf diagram.lines choices → vertex < length game.vertices → Suffice game diagram (asks.Verdict which vertex) choices →
    NoneMeets game diagram (aims.Won which vertex) choices

-- Two explanations of one question from the same decisions are the same, if it is shown of both that none can be left
-- out.
abbrev pub ExplanationsAreOne : Type 0
ExplanationsAreOne = (game : GuardedGame Formula) (lines : List Line) (question : Question) (decisions one other : List Decision) →
    IsDiagram lines → AreChoicesOf lines (choices decisions) → Explains (SufficeIn game lines question) decisions one true → Explains (SufficeIn game lines question) decisions other true → one ≡ other

-- Two first products that agree with the same choices and meet the same aim are the same.
abbrev pub FirstProductsAreOne : Type 0
FirstProductsAreOne = (game : GuardedGame Formula) (lines : List Line) (aim : Aim) (choices : List Literal) (one other : List Bool) →
    IsRemaining lines choices one → MeetsIn game aim one → IsFirstIn game lines aim choices one →
    IsRemaining lines choices other → MeetsIn game aim other → IsFirstIn game lines aim choices other → one ≡ other

-- Two lists of needs for one aim are the same, if it is shown of both that there are no others.
abbrev pub NeedsAreOne : Type 0
NeedsAreOne = (game : GuardedGame Formula) (lines : List Line) (aim : Aim) (choices one other : List Literal) →
    AreNeedsIn game lines aim choices one true → AreNeedsIn game lines aim choices other true → one ≡ other

-- Two repairs of one page give up the same decisions, if it is shown of both that each of them has to be given up.
abbrev pub RepairsAreOne : Type 0
RepairsAreOne =
    (game : GuardedGame Formula) (lines : List Line) (question : Question)
    (decisions kept given others gone : List Decision) →
    IsDiagram lines → AreChoicesOf lines (choices decisions) →
    IsRepair (SufficeIn game lines question) decisions kept given true →
    IsRepair (SufficeIn game lines question) decisions others gone true → given ≡ gone
