-- Assertions of exact verdicts.
use Rattle.std.proofs.Common.{◌≡◌, ℕ, List, refl, ap, inl, inr, arith}
use Rattle.std.specs.Prelude.{◌⊎◌, codes}
use Rattle.vpg_diagram.specs.declared.clause.Literal.{Literal}
use Rattle.vpg_game.specs.Game.{graph_of}
use Rattle.vpg_measure.specs.Orders.{OrderView}
use Rattle.vpg_partial.specs.declared.decision.Decision.{Decision}
use Rattle.vpg_script.specs.declared.exact.ExactVerdict.{ExactVerdict}
use Rattle.vpg_script.specs.declared.exact.ExactVerdict.TheVariants as exacts
use Rattle.vpg_script.specs.Answer.{Answer}
use Rattle.vpg_texts.specs.Scene.{Scene, scene_of}
use Rattle.vpg_texts.specs.Sights.{holding}
use Rattle.vpg_why.specs.Explained.{choices}
use Rattle.vpg_why.specs.declared.question.Limits.{Limits}
use Rattle.vpg_winners.specs.Decided.{HasRemaining, IsDecidedAs, IsDecidedExact, NoneRemains}
use Rattle.vpg_winners.specs.declared.deciding.Decided.{Decided}
use Rattle.vpg_winners.specs.declared.deciding.Decided.TheVariants as decides
use Rattle.vpg_looks.specs.Answers.{HasDoubt}
use Rattle.vpg_looks.specs.Asserted.{HasExact, TellsExact, answer_by, exact_answer, exact_word, failing}
use Rattle.vpg_looks.specs.Room.{BothSearchesEnd, unlabelled}
use Rattle.vpg_looks.proofs.Facts.{no_even, no_odd, one_each, some_left}

module _ (scene : Scene) (chosen : List Literal) (vertex : ℕ) where
  -- a vertex with an exact verdict has a product
  pub has_some : (verdict : ExactVerdict) → HasExact scene chosen vertex verdict → HasRemaining scene.lines chosen
  has_some exacts.Won has = has.0
  has_some exacts.Lost has = has.0
  has_some exacts.Mixed has = (has.0.0, has.0.1)

  -- what is asserted of a vertex with this exact verdict holds, or the vertex hasn't the asserted one
  abbrev Compares : ExactVerdict → Answer → Type 0
  Compares asserted answer =
      (HasExact scene chosen vertex asserted × (answer ≡ holding))
      ⊎ (HasRemaining scene.lines chosen × ¬ (HasExact scene chosen vertex asserted) × (answer ≡ failing (exact_word asserted)))

  compares : (asserted found : ExactVerdict) → HasExact scene chosen vertex found → Compares asserted (exact_answer asserted found)
  compares exacts.Won exacts.Won has = inl (has, refl)
  compares exacts.Lost exacts.Lost has = inl (has, refl)
  compares exacts.Mixed exacts.Mixed has = inl (has, refl)
  compares asserted found has =
      inr (has_some found has, (λ other. search (one_each scene chosen vertex, no_odd scene chosen vertex, no_even scene chosen vertex)), refl)

-- ---- what is told

module _ (labels : List (List ℕ)) (order : OrderView) (limits : Limits) (vertex : ℕ) (asserted : ExactVerdict) where
  abbrev page : Scene
  page = scene_of labels order.game order.diagram

  abbrev Tells : Answer → Type 0
  Tells = TellsExact page limits asserted vertex order.decisions

  told : (found : ExactVerdict) → HasExact (unlabelled page) (choices order.decisions) vertex found → Tells (exact_answer asserted found)
  told found has = of (exact_answer asserted found) (compares (unlabelled page) (choices order.decisions) vertex asserted found has)
    where
      of : (answer : Answer) → Compares (unlabelled page) (choices order.decisions) vertex asserted answer → Tells answer
      of answer (inl a) = inl a
      of answer (inr b) = inr (inl b)

  pub exact_told : (found : Decided) → IsDecidedAs (graph_of order.game) order.diagram.lines (choices order.decisions) vertex found →
      (BothSearchesEnd page limits vertex (choices order.decisions) → IsDecidedExact found) → Tells (answer_by asserted found)
  exact_told decides.Won is settled = told exacts.Won is
  exact_told decides.Lost is settled = told exacts.Lost is
  exact_told (decides.Mixed won lost) is settled =
      told exacts.Mixed ((won.features.items, is.0.remaining, is.0.wins), (lost.features.items, is.1.remaining, is.1.wins))
  exact_told decides.Empty is settled = inr (inr (inl (is, refl)))
  exact_told decides.Unsettled is settled = inr (inr (inr (settled, refl)))

-- ---- one page

-- an assertion that met a limit has a doubt
unsettled_doubt : (answer : Answer) → answer ≡ failing (codes "unsettled") → HasDoubt answer.text
unsettled_doubt answer is = inr (inr (inr (inr (inr (inl (ap (λ (a : Answer). a.text) is))))))

-- of the four kinds of answer each rules out the others
of_kinds : {A H R N Q S : Type 0} (held fails empty short one other : A) → (H → N → ⊥) → (R → N → ⊥) → ¬ (one ≡ short) → ¬ (other ≡ short) →
    (H × (one ≡ held)) ⊎ (R × ¬ H × (one ≡ fails)) ⊎ (N × (one ≡ empty)) ⊎ (Q × (one ≡ short)) →
    (H × (other ≡ held)) ⊎ (R × ¬ H × (other ≡ fails)) ⊎ (N × (other ≡ empty)) ⊎ (S × (other ≡ short)) → one ≡ other
of_kinds held fails empty short one other has left sure also a b = grind arith

module _ (scene : Scene) (limits others : Limits) (asserted : ExactVerdict) (vertex : ℕ) (decisions : List Decision) where
  has_none : HasExact (unlabelled scene) (choices decisions) vertex asserted → NoneRemains scene.lines (choices decisions) → ⊥
  has_none has none = let some = has_some (unlabelled scene) (choices decisions) vertex asserted has in none some.0 some.1

  pub exact_one : (one other : Answer) → TellsExact scene limits asserted vertex decisions one → TellsExact scene others asserted vertex decisions other → ¬ (HasDoubt one.text) → ¬ (HasDoubt other.text) → one ≡ other
  exact_one one other a b sure also =
      of_kinds holding (failing (exact_word asserted)) (failing (codes "empty")) (failing (codes "unsettled")) one other
      has_none (some_left (unlabelled scene) (choices decisions) vertex) (λ e. sure (unsettled_doubt one e)) (λ e. also (unsettled_doubt other e)) a b
