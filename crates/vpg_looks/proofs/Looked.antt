-- Answers that need to know whether a product is left.
use Rattle.std.proofs.Common.{◌≡◌, ℕ, Bool, List, [], ◌∷◌, ◌++◌, sym, ap, ◌∙◌, inl, inr, append_assoc}
use Rattle.std.specs.Prelude.{codes}
use Rattle.vpg_partial.specs.declared.decision.Decision.{Decision}
use Rattle.vpg_script.specs.declared.look.Claim.{Claim}
use Rattle.vpg_script.specs.Answer.{Answer, IsDone, done}
use Rattle.vpg_script.proofs.Given.{done_one, is_done}
use Rattle.vpg_measure.specs.TwoGames.{top_for}
use Rattle.vpg_trail.specs.Page.{Hopeful, Dual}
use Rattle.vpg_texts.specs.Scene.{Scene, IsCounted}
use Rattle.vpg_texts.specs.Text.{answer_line, answer_word, count_lines}
use Rattle.vpg_texts.specs.Sights.{verdicts_at}
use Rattle.vpg_texts.proofs.Seen.{asserted_one, counted_one}
use Rattle.vpg_why.specs.declared.question.Limits.{Limits}
use Rattle.vpg_looks.specs.declared.left.Left.{Left}
use Rattle.vpg_looks.specs.declared.left.Left.TheVariants as lefts
use Rattle.vpg_looks.specs.Looked.{HasMetLimit, IsCountAnswer, TellsClaims, left_mark}

-- ---- claims

module _ (scene : Scene) (limits others : Limits) (vertex : ℕ) (claims : List Claim) (decisions : List Decision) (hopeful dual : List ℕ) where
  -- two answers are one, unless a limit was met
  pub claims_one : (one other : Answer) → TellsClaims scene limits vertex claims decisions hopeful dual one → TellsClaims scene others vertex claims decisions hopeful dual other → ¬ (HasMetLimit one) → ¬ (HasMetLimit other) → one ≡ other
  claims_one one other (inl a) (inl b) sure also = a.1 ∙ sym b.1
  claims_one one other (inl a) (inr (inr b)) sure also = absurd (a.0 b.0.0 b.0.1)
  claims_one one other (inr (inr a)) (inl b) sure also = absurd (b.0 a.0.0 a.0.1)
  claims_one one other a (inr (inl b)) sure also = absurd (also (inl b.1))
  claims_one one other (inr (inl a)) b sure also = absurd (sure (inl a.1))
  claims_one one other (inr (inr a)) (inr (inr b)) sure also =
      asserted_one scene decisions hopeful dual
      (λ full settled. verdicts_at (top_for Hopeful scene.game) (top_for Dual scene.game) hopeful dual settled claims vertex) one other a.1 b.1

-- ---- count

module _ (scene : Scene) (limits others : Limits) (decisions : List Decision) (hopeful dual : List ℕ) where
  abbrev counts_of : List ℕ
  counts_of =
      count_lines (codes "hopeless") (codes "possible") (top_for Hopeful scene.game) hopeful ++ count_lines (codes "sure") (codes "unsure") (top_for Dual scene.game) dual

  abbrev states_of : (full settled : Bool) → List ℕ
  states_of full settled = codes "settled" ++ answer_line settled ++ codes "full" ++ answer_word full

  -- a mark ends the last line
  marked : (states mark : List ℕ) → counts_of ++ (states ++ mark ++ 10 ∷ []) ≡ (counts_of ++ states) ++ (mark ++ 10 ∷ [])
  marked states mark = ap (λ (l : List ℕ). counts_of ++ l) (append_assoc states mark (10 ∷ [])) ∙ sym (append_assoc counts_of states (mark ++ 10 ∷ []))

  -- where a limit was met, the text says so
  met : (answer : Answer) → IsDone (IsCounted scene decisions hopeful dual (left_mark lefts.Unsettled)) answer → HasMetLimit answer
  met answer (tone_is, (known, (table, told))) =
      inr (counts_of ++ states_of told.full told.settled, is_done answer _ tone_is (told.text_is ∙ marked (states_of told.full told.settled) (codes " unsettled")))

  alike : (left : Left) (one other : Answer) → IsDone (IsCounted scene decisions hopeful dual (left_mark left)) one → IsDone (IsCounted scene decisions hopeful dual (left_mark left)) other → one ≡ other
  alike left one other =
      done_one (IsCounted scene decisions hopeful dual (left_mark left)) (IsCounted scene decisions hopeful dual (left_mark left)) one other (counted_one scene decisions hopeful dual (left_mark left) one.text other.text)

  -- two answers are one, unless a limit was met
  pub count_one : (one other : Answer) → IsCountAnswer scene limits decisions hopeful dual one → IsCountAnswer scene others decisions hopeful dual other → ¬ (HasMetLimit one) → ¬ (HasMetLimit other) → one ≡ other
  count_one one other (lefts.Unsettled, (left, done)) b sure also = absurd (sure (met one done))
  count_one one other (lefts.Product, a) (lefts.Unsettled, (left, done)) sure also = absurd (also (met other done))
  count_one one other (lefts.Nothing, a) (lefts.Unsettled, (left, done)) sure also = absurd (also (met other done))
  count_one one other (lefts.Product, (left, done)) (lefts.Nothing, (none, found)) sure also = absurd (none left.0 left.1)
  count_one one other (lefts.Nothing, (none, found)) (lefts.Product, (left, done)) sure also = absurd (none left.0 left.1)
  count_one one other (lefts.Product, (left, done)) (lefts.Product, (some, found)) sure also = alike lefts.Product one other done found
  count_one one other (lefts.Nothing, (left, done)) (lefts.Nothing, (none, found)) sure also = alike lefts.Nothing one other done found
