-- Two answers on numbers of products are one text.
use Rattle.std.proofs.Common.{◌≡◌, ℕ, List, [], ◌∷◌, ◌++◌, refl, sym, ap, ap₂, ◌∙◌, inl, inr, append-nil, append_assoc}
use Rattle.std.specs.Prelude.{codes}
use Rattle.std.specs.List.{AllByRecursion}
use Rattle.vpg_diagram.specs.declared.clause.Literal.{Literal}
use Rattle.vpg_number.specs.Counted.{IsExact}
use Rattle.vpg_number.specs.Digits.{numeral_of}
use Rattle.vpg_number.specs.declared.counted.Count.{Count}
use Rattle.vpg_number.specs.declared.counted.Count.TheVariants.{Exactly, AtLeast}
use Rattle.vpg_number.proofs.Same.{count_is_one}
use Rattle.vpg_partial.specs.declared.decision.Decision.{Decision}
use Rattle.vpg_texts.specs.Labels.{beside}
use Rattle.vpg_texts.specs.Scene.{Scene}
use Rattle.vpg_texts.specs.Text.{blank_number, choices_text}
use Rattle.vpg_why.specs.Explained.{choices}
use Rattle.vpg_why.specs.declared.question.Limits.{Limits}
use Rattle.vpg_winners.specs.Joined.{PartView}
use Rattle.vpg_looks.specs.Answers.{HasDoubt, TellsNumber}
use Rattle.vpg_looks.specs.Numbers.{AreAmounts}
use Rattle.vpg_looks.specs.Texts.{amount_text, number_line, part_label, part_line, part_lines, winner_word}

-- ---- doubts

in_line : (f h n m e x r b : List ℕ) → f ++ (((((h ++ (n ++ m)) ++ e) ++ x) ++ r) ++ b) ≡ ((((f ++ (h ++ n)) ++ m) ++ e) ++ x) ++ (r ++ b)
in_line f h n m e x r b = simp append_assoc

-- a line with a number, before and behind other text, that has no doubt
exact_in : (front head label back : List ℕ) (rest : List ℕ) (count : Count) (text : List ℕ) → text ≡ front ++ (((((head ++ amount_text count) ++ beside label) ++ codes "\n") ++ rest) ++ back) → ¬ (HasDoubt text) → IsExact count
exact_in front head label back rest (Exactly number) text is sure = tt
exact_in front head label back rest (AtLeast few) text is sure =
    absurd (sure (inr (inr (inr (inr (inl (
      front ++ (head ++ 32 ∷ numeral_of few),
      label,
      rest ++ back,
      is ∙ in_line front head (32 ∷ numeral_of few) (codes " or more") (beside label) (codes "\n") rest back,
    )))))))

behind_line : (f l r b : List ℕ) → f ++ ((l ++ r) ++ b) ≡ (f ++ l) ++ (r ++ b)
behind_line f l r b = simp append_assoc

module _ (scene : Scene) (chosen : List Literal) where
  pub counts_exact : (names : List (List ℕ)) (identifier : ℕ) (label : List ℕ) (looks : ℕ) (parts : List PartView) (counts : List Count) → AreAmounts scene looks chosen parts counts → (front back text : List ℕ) →
      text ≡ front ++ (part_lines names identifier label parts counts ++ back) → ¬ (HasDoubt text) → AllByRecursion IsExact counts
  counts_exact names identifier label looks [] [] are front back text is sure = tt
  counts_exact names identifier label looks [] (c ∷ counts) are front back text is sure = absurd are
  counts_exact names identifier label looks (p ∷ parts) [] are front back text is sure = absurd are
  counts_exact names identifier label looks (p ∷ parts) (c ∷ counts) are front back text is sure = (
    exact_in front ((winner_word p.winner ++ blank_number identifier) ++ choices_text names p.literals) (part_label p.winner label) back (part_lines names identifier label parts counts) c text is sure,
    counts_exact names identifier label looks parts counts are.1 (front ++ part_line names identifier label p c) back text
        (is ∙ behind_line front (part_line names identifier label p c) (part_lines names identifier label parts counts) back) sure,
  )

  pub counts_one : (looks others : ℕ) (parts : List PartView) (one other : List Count) → AreAmounts scene looks chosen parts one → AreAmounts scene others chosen parts other →
      AllByRecursion IsExact one → AllByRecursion IsExact other → one ≡ other
  counts_one looks others [] [] [] a b sure also = refl
  counts_one looks others [] [] (d ∷ other) a b sure also = absurd b
  counts_one looks others [] (c ∷ one) other a b sure also = absurd a
  counts_one looks others (p ∷ parts) [] other a b sure also = absurd a
  counts_one looks others (p ∷ parts) (c ∷ one) [] a b sure also = absurd b
  counts_one looks others (p ∷ parts) (c ∷ one) (d ∷ other) a b sure also =
      ap₂ (λ (x : Count) (xs : List Count). x ∷ xs)
      (count_is_one scene.lines (chosen ++ p.literals) c d a.0.number b.0.number sure.0 also.0)
      (counts_one looks others parts one other a.1 b.1 sure.1 also.1)

-- ---- the number of products left

number_exact : (count : Count) (text : List ℕ) → text ≡ number_line count → ¬ (HasDoubt text) → IsExact count
number_exact count text is sure = exact_in [] (codes "number") [] [] [] count text (is ∙ around (codes "number" ++ amount_text count) (codes "\n")) sure
  where
    around : (line end : List ℕ) → line ++ end ≡ ((((line ++ []) ++ end) ++ []) ++ [])
    around line end = simp (append_assoc, append-nil)

pub tells_number_one : (scene : Scene) (limits others : Limits) (decisions : List Decision) (one other : List ℕ) → TellsNumber scene limits decisions one → TellsNumber scene others decisions other →
    ¬ (HasDoubt one) → ¬ (HasDoubt other) → one ≡ other
tells_number_one scene limits others decisions one other a b sure also =
    a.2
    ∙ ap number_line (count_is_one scene.lines (choices decisions) a.0 b.0 a.1.number b.1.number (number_exact a.0 one a.2 sure) (number_exact b.0 other b.2 also))
    ∙ sym b.2
