-- Assertions of exact verdicts. This project's own.
use Rattle.std.specs.Prelude.{◌≡◌, ℕ, ◌⊎◌, Bool, true, false, if◌then◌else◌, List, ◌++◌, codes}
use Rattle.vpg_sides.specs.declared.player.Player.{Player}
use Rattle.vpg_sides.specs.declared.player.Player.TheVariants.{Even, Odd}
use Rattle.vpg_diagram.specs.declared.clause.Literal.{Literal}
use Rattle.vpg_partial.specs.KnownLaws.{IsRemaining}
use Rattle.vpg_partial.specs.declared.decision.Decision.{Decision}
use Rattle.vpg_script.specs.declared.exact.ExactVerdict.{ExactVerdict}
use Rattle.vpg_script.specs.declared.exact.ExactVerdict.TheVariants as exacts
use Rattle.vpg_script.specs.Answer.{Answer, failed}
use Rattle.vpg_texts.specs.Scene.{Scene}
use Rattle.vpg_texts.specs.Sights.{holding}
use Rattle.vpg_why.specs.Explained.{choices}
use Rattle.vpg_why.specs.declared.question.Limits.{Limits}
use Rattle.vpg_winners.specs.Decided.{HasRemaining, NoneRemains, WinsEach, WinsProduct}
use Rattle.vpg_winners.specs.declared.deciding.Decided.{Decided}
use Rattle.vpg_winners.specs.declared.deciding.Decided.TheVariants as decides
use Rattle.vpg_looks.specs.Room.{BothSearchesEnd, unlabelled}

-- the player wins from the vertex in some product that agrees with the choices
abbrev pub WinsSome : Scene → List Literal → Player → (vertex : ℕ) → Type 0
WinsSome scene choices player vertex =
    (set : List Bool) × IsRemaining scene.lines choices set × WinsProduct scene.game player vertex set

-- The vertex has this exact verdict: Even wins from it in each product that agrees with the choices, and there is one;
-- Odd does; or each of them wins in some.
abbrev pub HasExact : Scene → List Literal → (vertex : ℕ) → ExactVerdict → Type 0
HasExact scene choices vertex exacts.Won =
    HasRemaining scene.lines choices × WinsEach scene.game scene.lines choices Even vertex
HasExact scene choices vertex exacts.Lost =
    HasRemaining scene.lines choices × WinsEach scene.game scene.lines choices Odd vertex
HasExact scene choices vertex exacts.Mixed = WinsSome scene choices Even vertex × WinsSome scene choices Odd vertex

abbrev pub exact_word : ExactVerdict → List ℕ
exact_word exacts.Won = codes "won"
exact_word exacts.Lost = codes "lost"
exact_word exacts.Mixed = codes "mixed"

-- an assertion fails, for the reason of this word
abbrev pub failing : (word : List ℕ) → Answer
failing word = failed (codes "fails " ++ word ++ codes "\n")

abbrev pub is_same : ExactVerdict → ExactVerdict → Bool
is_same exacts.Won exacts.Won = true
is_same exacts.Lost exacts.Lost = true
is_same exacts.Mixed exacts.Mixed = true
is_same _ _ = false

-- the answer to an assertion of a vertex with this exact verdict
abbrev pub exact_answer : (asserted found : ExactVerdict) → Answer
exact_answer asserted found = if is_same asserted found then holding else failing (exact_word asserted)

-- the answer to an assertion, by who wins at the vertex
abbrev pub answer_by : (asserted : ExactVerdict) → (found : Decided) → Answer
answer_by asserted decides.Won = exact_answer asserted exacts.Won
answer_by asserted decides.Lost = exact_answer asserted exacts.Lost
answer_by asserted (decides.Mixed won lost) = exact_answer asserted exacts.Mixed
answer_by asserted decides.Empty = failing (codes "empty")
answer_by asserted decides.Unsettled = failing (codes "unsettled")

-- The vertex has the exact verdict that is asserted; or it has not, and a product is left; or no product is left; or
-- the limits leave no room.
abbrev pub TellsExact : Scene → Limits → ExactVerdict → (vertex : ℕ) → List Decision → Answer → Type 0
TellsExact scene limits asserted vertex decisions answer =
    (HasExact (unlabelled scene) (choices decisions) vertex asserted × (answer ≡ holding))
    ⊎ (HasRemaining scene.lines (choices decisions)
    × ¬ (HasExact (unlabelled scene) (choices decisions) vertex asserted) × (answer ≡ failing (exact_word asserted)))
    ⊎ (NoneRemains scene.lines (choices decisions) × (answer ≡ failing (codes "empty")))
    ⊎ (¬ (BothSearchesEnd scene limits vertex (choices decisions)) × (answer ≡ failing (codes "unsettled")))
