-- The word `rule` at the front of a line.
use Rattle.std.proofs.Common.{◌≡◌, ℕ, Bool, true, false, cond, List, [], ◌∷◌, ◌++◌, filter, Option, Some, None, IsTrue, bytes_eq, refl, sym, ap, ◌∙◌, eqb-true}
use Rattle.std.specs.Prelude.{⊤, codes, option_and_then, ◌&&◌, ◌==◌}
use Rattle.std.specs.List.{list_all, slice_split, onto_first}
use Rattle.std.proofs.lemmas.Bool.{both_ways}
use Rattle.vpg_rules.specs.Reading.{stripped}
use Rattle.vpg_rules.proofs.Marks.{strip_is}
use Rattle.vpg_diagram.specs.DiagramText.{is_blank, is_nonempty, words}
use Rattle.vpg_diagram.specs.DiagramReading.{after_blank, behind_rule}
use Rattle.vpg_diagram.proofs.NameLemmas.{same_eq}

-- nothing, or a colon
abbrev pub EndsWord : List ℕ → Type 0
EndsWord [] = ⊤
EndsWord (b ∷ bs) = b ≡ 58

chosen : {A : Type 0} (t : Bool) (x : Option A) (y : A) → cond t x None ≡ Some y → (t ≡ true) × (x ≡ Some y)
chosen true x y e = (refl, e)
chosen false x y e = absurd cc

module _ (t : List ℕ) where
  blank_ends : (more : List ℕ) → EndsWord more → after_blank more ≡ Some t → ⊥
  blank_ends [] ends e = absurd cc
  blank_ends (b ∷ bs) ends e = let w = (chosen (is_blank b) (Some bs) t e).0 in both_ways (is_blank 58) refl (ap is_blank (sym ends) ∙ w)

  -- no colon in the mark, and no blank
  abbrev IsWord : List ℕ → Type 0
  IsWord [] = ⊤
  IsWord (m ∷ mark) = ((58 == m) ≡ false) × (is_blank m ≡ false) × IsWord mark

  no_start : (m : ℕ) (mark more : List ℕ) → (58 == m) ≡ false → EndsWord more → option_and_then after_blank (stripped (m ∷ mark) more) ≡ Some t → ⊥
  no_start m mark [] other ends e = absurd cc
  no_start m mark (b ∷ bs) other ends e =
      let w : stripped (m ∷ mark) (b ∷ bs) ≡ None = ap (λ (x : ℕ). cond (x == m) (stripped mark bs) None) ends ∙ ap (λ (x : Bool). cond x (stripped mark bs) None) other in
      let z : option_and_then after_blank None ≡ Some t = ap (option_and_then after_blank) (sym w) ∙ e in
      absurd cc

  word_split : (mark front more : List ℕ) → IsWord mark → EndsWord more → option_and_then after_blank (stripped mark (front ++ more)) ≡ Some t → (ws : List (List ℕ)) × (slice_split is_blank front ≡ mark ∷ ws)
  word_split [] [] more is ends e = absurd (blank_ends more ends e)
  word_split [] (b ∷ bs) more is ends e =
      let w = (chosen (is_blank b) (Some (bs ++ more)) t e).0 in
      (slice_split is_blank bs, ap (λ (x : Bool). cond x ([] ∷ slice_split is_blank bs) (onto_first b (slice_split is_blank bs))) w)
  word_split (m ∷ mark) [] more is ends e = absurd (no_start m mark more is.0 ends e)
  word_split (m ∷ mark) (b ∷ bs) more is ends e = go (b == m) refl e (λ f. word_split mark bs more is.2 ends f)
    where
      go : (x : Bool) → (b == m) ≡ x → option_and_then after_blank (cond x (stripped mark (bs ++ more)) None) ≡ Some t
          → (option_and_then after_blank (stripped mark (bs ++ more)) ≡ Some t → (ws : List (List ℕ)) × (slice_split is_blank bs ≡ mark ∷ ws))
          → (ws : List (List ℕ)) × (slice_split is_blank (b ∷ bs) ≡ (m ∷ mark) ∷ ws)
      go false same e later = absurd cc
      go true same e later =
          let h = later e in
          let here : b ≡ m = eqb-true b m same in
          let plain : is_blank b ≡ false = ap is_blank here ∙ is.1 in
          (h.0, ap (λ (x : Bool). cond x ([] ∷ slice_split is_blank bs) (onto_first b (slice_split is_blank bs))) plain ∙ ap (onto_first b) h.1 ∙ ap (λ (x : ℕ). (x ∷ mark) ∷ h.0) here)

  rule_word : IsWord (codes "rule")
  rule_word = (refl, refl, (refl, refl, (refl, refl, (refl, refl, tt))))

  -- a line that begins so has this word first, also before a colon
  pub first_word : (front more : List ℕ) → EndsWord more → behind_rule (front ++ more) ≡ Some t → (ws : List (List ℕ)) × (words front ≡ codes "rule" ∷ ws)
  first_word [] [] ends e = absurd cc
  first_word [] (b ∷ bs) ends e = absurd (go (is_blank b) refl e)
    where
      go : (x : Bool) → is_blank b ≡ x → cond x (behind_rule bs) (option_and_then after_blank (stripped (codes "rule") (b ∷ bs))) ≡ Some t → ⊥
      go true is e = both_ways (is_blank 58) refl (ap is_blank (sym ends) ∙ is)
      go false is e = no_start 114 (117 ∷ 108 ∷ 101 ∷ []) (b ∷ bs) refl ends e
  first_word (b ∷ bs) more ends e = go (is_blank b) refl e (λ f. first_word bs more ends f)
    where
      go : (x : Bool) → is_blank b ≡ x → cond x (behind_rule (bs ++ more)) (option_and_then after_blank (stripped (codes "rule") (b ∷ (bs ++ more)))) ≡ Some t
          → (behind_rule (bs ++ more) ≡ Some t → (ws : List (List ℕ)) × (words bs ≡ codes "rule" ∷ ws))
          → (ws : List (List ℕ)) × (words (b ∷ bs) ≡ codes "rule" ∷ ws)
      go true is e later =
          let h = later e in
          (h.0, ap (λ (x : Bool). filter is_nonempty (cond x ([] ∷ slice_split is_blank bs) (onto_first b (slice_split is_blank bs)))) is ∙ h.1)
      go false is e later =
          let h = word_split (codes "rule") (b ∷ bs) more rule_word ends e in
          (filter is_nonempty h.0, ap (filter is_nonempty) h.1)

-- a line with another word first
pub no_rule : (front more word : List ℕ) (ws : List (List ℕ)) → EndsWord more → words front ≡ word ∷ ws → bytes_eq word (codes "rule") ≡ false → behind_rule (front ++ more) ≡ None
no_rule front more word ws ends is other = go (behind_rule (front ++ more)) refl
  where
    go : (o : Option (List ℕ)) → behind_rule (front ++ more) ≡ o → o ≡ None
    go None e = refl
    go (Some t) e =
        let h = first_word t front more ends e in
        let w : word ∷ ws ≡ codes "rule" ∷ h.0 = sym is ∙ h.1 in
        let same : word ≡ codes "rule" = cc in
        absurd (both_ways (bytes_eq word (codes "rule")) other (same_eq word (codes "rule") same))

-- what stands before and behind the word
pub record RuleParts (bytes text : List ℕ) : Type 0 where
  pub front : List ℕ
  pub blank : ℕ
  pub bytes_are : bytes ≡ front ++ codes "rule" ++ blank ∷ text
  pub front_blank : IsTrue (list_all is_blank front)
  pub is_one : IsTrue (is_blank blank)

after_parts : (mark rest text : List ℕ) (o : Option (List ℕ)) → stripped mark rest ≡ o → option_and_then after_blank o ≡ Some text → (b : ℕ) × (rest ≡ mark ++ b ∷ text) × (is_blank b ≡ true)
after_parts mark rest text None e f = absurd cc
after_parts mark rest text (Some []) e f = absurd cc
after_parts mark rest text (Some (b ∷ bs)) e f =
    let h = chosen (is_blank b) (Some bs) text f in
    let w : bs ≡ text = (let x = h.1 in cc) in
    (b, strip_is mark rest (b ∷ bs) e ∙ ap (λ (x : List ℕ). mark ++ b ∷ x) w, h.0)

pub rule_parts : (bytes text : List ℕ) → behind_rule bytes ≡ Some text → RuleParts bytes text
rule_parts [] text e = absurd cc
rule_parts (b ∷ bs) text e = go (is_blank b) refl e (λ f. rule_parts bs text f)
  where
    go : (x : Bool) → is_blank b ≡ x → cond x (behind_rule bs) (option_and_then after_blank (stripped (codes "rule") (b ∷ bs))) ≡ Some text → (behind_rule bs ≡ Some text → RuleParts bs text) → RuleParts (b ∷ bs) text
    go true is e later =
        let h = later e in
        record { front = b ∷ h.front; blank = h.blank; bytes_are = ap (λ xs. b ∷ xs) h.bytes_are; front_blank = ap (λ (x : Bool). x && list_all is_blank h.front) is ∙ h.front_blank; is_one = h.is_one }
    go false is e later =
        let h = after_parts (codes "rule") (b ∷ bs) text (stripped (codes "rule") (b ∷ bs)) refl e in
        record { front = []; blank = h.0; bytes_are = h.1; front_blank = refl; is_one = h.2 }

and_split : (a b : Bool) → (a && b) ≡ true → (a ≡ true) × (b ≡ true)
and_split true b e = (refl, e)
and_split false b e = absurd cc

pub parts_rule : (front text : List ℕ) (blank : ℕ) → IsTrue (list_all is_blank front) → IsTrue (is_blank blank) → behind_rule (front ++ (codes "rule" ++ blank ∷ text)) ≡ Some text
parts_rule [] text blank all one = ap (λ (x : Bool). cond x (Some text) None) one
parts_rule (b ∷ front) text blank all one =
    let h = and_split (is_blank b) (list_all is_blank front) all in
    ap (λ (x : Bool). cond x (behind_rule (front ++ (codes "rule" ++ blank ∷ text))) (option_and_then after_blank (stripped (codes "rule") (b ∷ (front ++ (codes "rule" ++ blank ∷ text)))))) h.0
    ∙ parts_rule front text blank h.1 one
