-- Texts without a doubt.
use Rattle.std.proofs.Common.{◌≡◌, ℕ, Bool, true, false, List, [], ◌++◌, refl, ◌∙◌, inl, inr, append-nil, append_assoc, arith}
use Rattle.std.specs.Prelude.{◌⊎◌, codes, map}
use Rattle.vpg_partial.specs.Known.{literal_of}
use Rattle.vpg_partial.specs.declared.decision.Decision.{Decision}
use Rattle.vpg_texts.specs.Labels.{beside}
use Rattle.vpg_texts.specs.Text.{blank_number, choices_text}
use Rattle.vpg_looks.specs.Answers.{HasDoubt}
use Rattle.vpg_looks.specs.Texts.{more_text, reason_text, total_line, unsettled_line}

in_reason : (f c d e n q : List ℕ) → (f ++ (((c ++ d) ++ e) ++ n)) ++ q ≡ ((((f ++ c) ++ d) ++ e) ++ n) ++ q
in_reason f c d e n q = simp append_assoc

in_total : (f w b m n : List ℕ) → f ++ (((w ++ b) ++ m) ++ n) ≡ ((((f ++ (w ++ b)) ++ m) ++ []) ++ n) ++ []
in_total f w b m n = simp (append_assoc, append-nil)

module _ (text : List ℕ) (sure : ¬ (HasDoubt text)) where
  pub not_open : text ≡ unsettled_line → ⊥
  not_open is = sure (inr (inr (inl is)))

  -- none of the decisions of a reason can be left out
  pub is_sharp : (front : List ℕ) (names : List (List ℕ)) (listed : List Decision) (exact : Bool) (label behind : List ℕ) →
      text ≡ (front ++ reason_text names listed exact label) ++ behind → exact ≡ true
  is_sharp front names listed true label behind is = refl
  is_sharp front names listed false label behind is =
      let chosen : List ℕ = choices_text names (map literal_of listed) in
      absurd (sure (inl (front ++ chosen, label, behind, is ∙ in_reason front chosen (codes " or fewer") (beside label) (codes "\n") behind)))

  -- there are no other lines
  pub are_all : (front label behind : List ℕ) (exact : Bool) → text ≡ (((front ++ more_text exact) ++ beside label) ++ codes "\n") ++ behind → exact ≡ true
  are_all front label behind true is = refl
  are_all front label behind false is = absurd (sure (inr (inr (inr (inr (inl (front, label, behind, is)))))))

  pub no_more : (front word : List ℕ) (lines : ℕ) (exact : Bool) → text ≡ front ++ total_line word lines exact → exact ≡ true
  no_more front word lines exact is =
      are_all (front ++ (word ++ blank_number lines)) [] [] exact (is ∙ in_total front word (blank_number lines) (more_text exact) (codes "\n"))

-- two answers to a search are one text
pub sought_one : {P Q R S : Type 0} (one other : List ℕ) → P ⊎ (Q × (one ≡ unsettled_line)) → R ⊎ (S × (other ≡ unsettled_line)) →
    ¬ (HasDoubt one) → ¬ (HasDoubt other) → (P → R → one ≡ other) → one ≡ other
sought_one one other (inl a) (inl b) sure also same = same a b
sought_one one other a (inr b) sure also same = absurd (not_open other also b.1)
sought_one one other (inr a) b sure also same = absurd (not_open one sure a.1)

-- so are two by one test, and by two tests
pub either_one : {H P Q R S G : Type 0} → (H × P) ⊎ (¬ H × Q) → (H × R) ⊎ (¬ H × S) → (P → R → G) → (Q → S → G) → G
either_one a b same also = grind arith

pub each_one : {H I P Q R S T U G : Type 0} → (H × P) ⊎ (¬ H × I × Q) ⊎ (¬ H × ¬ I × R) → (H × S) ⊎ (¬ H × I × T) ⊎ (¬ H × ¬ I × U) →
    (P → S → G) → (Q → T → G) → (R → U → G) → G
each_one a b same also last = grind arith
