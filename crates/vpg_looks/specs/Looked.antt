-- Answers that need to know whether a product is left: an assertion of a vertex's verdicts needs one, and `count` tells
-- whether there is one.
-- This project's own.
use Rattle.std.specs.Prelude.{◌≡◌, ℕ, ◌⊎◌, List, [], ◌++◌, codes}
use Rattle.vpg_diagram.specs.declared.clause.Literal.{Literal}
use Rattle.vpg_partial.specs.declared.decision.Decision.{Decision}
use Rattle.vpg_script.specs.declared.look.Claim.{Claim}
use Rattle.vpg_script.specs.Answer.{Answer, IsDone, done}
use Rattle.vpg_texts.specs.Scene.{Scene, IsCounted}
use Rattle.vpg_texts.specs.Sights.{AreClaimed}
use Rattle.vpg_why.specs.Explained.{choices}
use Rattle.vpg_why.specs.declared.question.Aim.TheVariants as aims
use Rattle.vpg_why.specs.declared.question.Limits.{Limits}
use Rattle.vpg_winners.specs.Decided.{HasRemaining, NoneRemains}
use Rattle.vpg_looks.specs.declared.left.Left.{Left}
use Rattle.vpg_looks.specs.declared.left.Left.TheVariants as lefts
use Rattle.vpg_looks.specs.Asserted.{failing}
use Rattle.vpg_looks.specs.Room.{SearchEnds, unlabelled}

-- some product agrees with the choices, or none does; or the limits leave no room to find out
abbrev pub IsLeft : Scene → Limits → List Literal → Left → Type 0
IsLeft scene limits choices lefts.Product = HasRemaining scene.lines choices
IsLeft scene limits choices lefts.Nothing = NoneRemains scene.lines choices
IsLeft scene limits choices lefts.Unsettled = ¬ (SearchEnds scene limits aims.Any choices)

-- The answer to claims about a vertex. They fail if no product is left, or if the limits leave no room to find one.
abbrev pub TellsClaims : Scene → Limits → (vertex : ℕ) → List Claim → List Decision → (hopeful dual : List ℕ) →
    Answer → Type 0
TellsClaims scene limits vertex claims decisions hopeful dual answer =
    (NoneRemains scene.lines (choices decisions) × (answer ≡ failing (codes "empty")))
    ⊎ (¬ (SearchEnds scene limits aims.Any (choices decisions)) × (answer ≡ failing (codes "unsettled")))
    ⊎ (HasRemaining scene.lines (choices decisions)
    × AreClaimed scene vertex claims decisions hopeful dual answer)

-- ---- count

-- the mark at the end of the last line of `count`
abbrev pub left_mark : Left → List ℕ
left_mark lefts.Product = []
left_mark lefts.Nothing = codes " empty"
left_mark lefts.Unsettled = codes " unsettled"

-- The counts of a page. The last line says if no product is left, or if the limits leave no room to find one.
abbrev pub IsCountAnswer : Scene → Limits → List Decision → (hopeful dual : List ℕ) → Answer → Type 0
IsCountAnswer scene limits decisions hopeful dual answer =
    (left : Left) × (IsLeft (unlabelled scene) limits (choices decisions) left
    × IsDone (IsCounted scene decisions hopeful dual (left_mark left)) answer)

-- ---- limits

-- A limit was met in the search for a product.
abbrev pub HasMetLimit : Answer → Type 0
HasMetLimit answer =
    (answer ≡ failing (codes "unsettled")) ⊎ ((before : List ℕ) × (answer ≡ done (before ++ codes " unsettled\n")))
