-- Words, and what stands behind `!` and `(`, are read as they are spelled, both ways.
use Rattle.std.proofs.Common.{◌≡◌, ℕ, Bool, true, false, cond, eqb, List, [], ◌∷◌, ◌++◌, length, take, drop, Option, Some, None, refl, sym, ap, subst, ◌∙◌, inl, inr, arith, ◌⊎◌, append_assoc}
use Rattle.std.specs.Prelude.{codes, ◌&&◌, nat_le, is_none}
use Rattle.std.specs.List.{list_all, prefix_len}
use Rattle.std.specs.Str.{bytes_eq}
use Rattle.std.proofs.lemmas.Bool.Decides.{nat_tests}
use Rattle.std.proofs.lemmas.Bool.{leb-true, le-leb}
use Rattle.std.proofs.lemmas.List.{take_at, drop_at}
use Rattle.vpg_features.specs.Names.{is_name_start, is_name_byte, starts_as_name, constant_of, IsFeatureName}
use Rattle.vpg_features.proofs.Held.{eq_bytes}
use Rattle.vpg_guards.specs.Grammar.{is_blank, AreBlank, constant_text}
use Rattle.vpg_guards.specs.Reading.{◌>>=◌, after_blanks}
use Rattle.vpg_guards.proofs.Blanks.{bind_some, front_all, front_split, Stops, front_stops, after_blanks_is}
use Rattle.vpg_rules.specs.Constraint.{feature, negation}
use Rattle.vpg_rules.specs.Grammar.{NamedRule, Factor, constant, name, inverted, enclosed, constant_rule}
use Rattle.vpg_rules.specs.Reading.{Read, after_mark, is_feature_name, constant_or, word_rule, word_at, choice, close, enclosed_with, inverted_with, factor_with}
use Rattle.vpg_rules.proofs.Marks.{choice_some, some_is, mark_behind, mark_next, Behind}
use Rattle.vpg_rules.proofs.Series.{Found, Finds, Rereads}

-- ---- what a word stands for

word_constant : (word : List ℕ) (b : Bool) → constant_of word ≡ Some b → word ≡ constant_text b
word_constant word b e = go (bytes_eq word (constant_text true)) (bytes_eq word (constant_text false)) (eq_bytes word (constant_text true)) (eq_bytes word (constant_text false)) e
  where
    go : (t u : Bool) → (t ≡ true → word ≡ constant_text true) → (u ≡ true → word ≡ constant_text false) → cond t (Some true) (cond u (Some false) None) ≡ Some b → word ≡ constant_text b
    go true u one other e = one refl ∙ ap constant_text (some_is true b e)
    go false true one other e = other refl ∙ ap constant_text (some_is false b e)
    go false false one other e = absurd cc

-- a name stands for itself
abbrev pub same : List ℕ → List ℕ
same word = word

and_split : (a b : Bool) → (a && b) ≡ true → (a ≡ true) × (b ≡ true)
and_split true b e = (refl, e)
and_split false b e = absurd cc

none_from_test : {A : Type 0} (o : Option A) → is_none o ≡ true → o ≡ None
none_from_test None e = refl
none_from_test (Some x) e = absurd cc

pub name_from_test : (w : List ℕ) → is_feature_name w ≡ true → IsFeatureName w
name_from_test w e =
    let x = and_split (starts_as_name w && list_all is_name_byte w && nat_le (length w) 64) (is_none (constant_of w)) e in
    let y = and_split (starts_as_name w && list_all is_name_byte w) (nat_le (length w) 64) x.0 in
    let z = and_split (starts_as_name w) (list_all is_name_byte w) y.0 in
    record { start = z.0; bytes = z.1; short = leb-true (length w) 64 y.1; no_constant = none_from_test (constant_of w) x.1 }

pub test_from_name : (w : List ℕ) → IsFeatureName w → is_feature_name w ≡ true
test_from_name w n =
    ap (λ b. b && list_all is_name_byte w && nat_le (length w) 64 && is_none (constant_of w)) n.start
    ∙ (ap (λ b. b && nat_le (length w) 64 && is_none (constant_of w)) n.bytes
    ∙ (ap (λ b. b && is_none (constant_of w)) (le-leb (length w) 64 n.short) ∙ ap is_none n.no_constant))

word_stands : (word : List ℕ) (c : NamedRule) → word_rule same word ≡ Some c
    → ((b : Bool) × (word ≡ constant_text b) × (constant_rule b ≡ c)) ⊎ (IsFeatureName word × (feature word ≡ c))
word_stands word c e = go (constant_of word) (word_constant word) e
  where
    named : (t : Bool) → (t ≡ true → IsFeatureName word) → cond t (Some (feature word)) None ≡ Some c → IsFeatureName word × (feature word ≡ c)
    named true is e = (is refl, some_is (feature word) c e)
    named false is e = absurd cc

    go : (o : Option Bool) → ((b : Bool) → o ≡ Some b → word ≡ constant_text b) → constant_or o (cond (is_feature_name word) (Some (feature word)) None) ≡ Some c
        → ((b : Bool) × (word ≡ constant_text b) × (constant_rule b ≡ c)) ⊎ (IsFeatureName word × (feature word ≡ c))
    go (Some b) is e = inl (b, is b refl, some_is (constant_rule b) c e)
    go None is e = inr (named (is_feature_name word) (name_from_test word) e)

name_rule : (word : List ℕ) → IsFeatureName word → word_rule same word ≡ Some (feature word)
name_rule word is =
    ap (λ (o : Option Bool). constant_or o (cond (is_feature_name word) (Some (feature word)) None)) is.no_constant
    ∙ ap (λ (t : Bool). cond {A = Option NamedRule} t (Some (feature word)) None) (test_from_name word is)

word_again : (word rest : List ℕ) (c : NamedRule) → list_all is_name_byte word ≡ true → Stops is_name_byte rest → word_rule same word ≡ Some c → word_at same (word ++ rest) ≡ Some (c, rest)
unfolding word_at
word_again word rest c bytes stops e = rw (front_stops is_name_byte word rest bytes stops, take_at word rest (length word) refl, drop_at word rest (length word) refl, e) refl

constant_again : (b : Bool) (rest : List ℕ) → Stops is_name_byte rest → word_at same (constant_text b ++ rest) ≡ Some (constant_rule b, rest)
constant_again true rest stops = word_again (constant_text true) rest (constant_rule true) refl stops refl
constant_again false rest stops = word_again (constant_text false) rest (constant_rule false) refl stops refl

-- ---- a factor is found

module _ (Inverted Enclosed : List ℕ → NamedRule → Type 0) where
  word_found : (text : List ℕ) (x : NamedRule × List ℕ) → word_at same (after_blanks text) ≡ Some x → Found (Factor Inverted Enclosed) text x.0 x.1
  unfolding word_at
  word_found text x e =
      let behind = after_blanks text in
      let blanks = take (prefix_len is_blank text) text in
      let word = take (prefix_len is_name_byte behind) behind in
      let rest = drop (prefix_len is_name_byte behind) behind in
      let h = bind_some (word_rule same word) (λ c. Some (c, rest)) x e in
      let parts : text ≡ (blanks ++ word) ++ rest = front_split is_blank text ∙ ap (λ (t : List ℕ). blanks ++ t) (front_split is_name_byte behind) ∙ sym (append_assoc blanks word rest) in
      subst (λ (y : NamedRule × List ℕ). Found (Factor Inverted Enclosed) text y.0 y.1) (some_is (h.0, rest) x h.2) (go h.0 blanks word rest (front_all is_blank text) parts (word_stands word h.0 h.1))
    where
      go : (c : NamedRule) (blanks word rest : List ℕ) → AreBlank blanks → text ≡ (blanks ++ word) ++ rest
          → ((b : Bool) × (word ≡ constant_text b) × (constant_rule b ≡ c)) ⊎ (IsFeatureName word × (feature word ≡ c))
          → Found (Factor Inverted Enclosed) text c rest
      go c blanks word rest are parts (inl (b, is, stands)) = subst (λ (d : NamedRule). Found (Factor Inverted Enclosed) text d rest) stands (record {
        front = blanks ++ constant_text b;
        is = constant blanks b are;
        parts = parts ∙ ap (λ (w : List ℕ). (blanks ++ w) ++ rest) is;
      })
      go c blanks word rest are parts (inr (is, stands)) = subst (λ (d : NamedRule). Found (Factor Inverted Enclosed) text d rest) stands (record {
        front = blanks ++ word;
        is = name blanks word are is;
        parts = parts;
      })

  close_found : (c : NamedRule) (text : List ℕ) (x : NamedRule × List ℕ) → close c (after_mark (codes ")") text) ≡ Some x → Behind (codes ")") text x.1 × (c ≡ x.0)
  close_found c text x e = go (after_mark (codes ")") text) (mark_behind (codes ")") text) e
    where
      go : (o : Option (List ℕ)) → ((rest : List ℕ) → o ≡ Some rest → Behind (codes ")") text rest) → close c o ≡ Some x → Behind (codes ")") text x.1 × (c ≡ x.0)
      go None behind e = absurd cc
      go (Some rest) behind e =
          let same = some_is (c, rest) x e in
          (subst (λ (r : List ℕ). Behind (codes ")") text r) (ap (λ (p : NamedRule × List ℕ). p.1) same) (behind rest refl), ap (λ (p : NamedRule × List ℕ). p.0) same)

  enclosed_parts : (blanks inner after rest : List ℕ) → blanks ++ 40 ∷ (inner ++ (after ++ 41 ∷ rest)) ≡ (blanks ++ 40 ∷ (inner ++ after ++ 41 ∷ [])) ++ rest
  enclosed_parts blanks inner after rest = simp append_assoc

  module _ (factor rule : List ℕ → Read (List ℕ)) where
    pub factor_found : Finds Inverted factor → Finds Enclosed rule → Finds (Factor Inverted Enclosed) (factor_with same factor rule)
    factor_found inverts encloses text x e = first (choice_some (after_mark (codes "!") text) (inverted_with factor) _ x e)
      where
        second : ((rest : List ℕ) × (after_mark (codes "(") text ≡ Some rest) × (enclosed_with rule rest ≡ Some x)) ⊎ ((after_mark (codes "(") text ≡ None) × (word_at same (after_blanks text) ≡ Some x))
            → Found (Factor Inverted Enclosed) text x.0 x.1
        second (inl (rest, here, found)) =
            let b = mark_behind (codes "(") text rest here in
            let h = bind_some (rule rest) (λ y. close y.0 (after_mark (codes ")") y.1)) x found in
            let f = encloses rest h.0 h.1 in
            let c = close_found h.0.0 h.0.1 x h.2 in
            subst (λ (d : NamedRule). Found (Factor Inverted Enclosed) text d x.1) c.1 (record {
              front = b.blanks ++ 40 ∷ (f.front ++ c.0.blanks ++ 41 ∷ []);
              is = enclosed b.blanks c.0.blanks b.are f.is c.0.are;
              parts = b.parts ∙ ap (λ (t : List ℕ). b.blanks ++ 40 ∷ t) (f.parts ∙ ap (λ (t : List ℕ). f.front ++ t) c.0.parts) ∙ enclosed_parts b.blanks f.front c.0.blanks x.1;
            })
        second (inr (none, found)) = word_found text x found

        first : ((rest : List ℕ) × (after_mark (codes "!") text ≡ Some rest) × (inverted_with factor rest ≡ Some x)) ⊎ ((after_mark (codes "!") text ≡ None) × (choice (after_mark (codes "(") text) (enclosed_with rule) (word_at same (after_blanks text)) ≡ Some x))
            → Found (Factor Inverted Enclosed) text x.0 x.1
        first (inl (rest, here, found)) =
            let b = mark_behind (codes "!") text rest here in
            let h = bind_some (factor rest) (λ y. Some (negation y.0, y.1)) x found in
            let f = inverts rest h.0 h.1 in
            subst (λ (y : NamedRule × List ℕ). Found (Factor Inverted Enclosed) text y.0 y.1) (some_is (negation h.0.0, h.0.1) x h.2) (record {
              front = b.blanks ++ 33 ∷ f.front;
              is = inverted b.blanks b.are f.is;
              parts = b.parts ∙ ap (λ (t : List ℕ). b.blanks ++ 33 ∷ t) f.parts ∙ sym (append_assoc b.blanks (33 ∷ f.front) h.0.1);
            })
        first (inr (none, found)) = second (choice_some (after_mark (codes "(") text) (enclosed_with rule) _ x found)

-- ---- a factor is read again

-- a text that begins with neither a blank, nor `!`, nor `(`
abbrev StartsWord : List ℕ → Type 0
StartsWord [] = ⊥
StartsWord (b ∷ rest) = (is_blank b ≡ false) × (eqb b 33 ≡ false) × (eqb b 40 ≡ false)

start_is_word : (b : ℕ) (rest : List ℕ) → is_name_start b ≡ true → StartsWord (b ∷ rest)
start_is_word b rest e = (grind (arith, nat_tests), grind (arith, nat_tests), grind (arith, nat_tests))

name_starts : (word rest : List ℕ) → starts_as_name word ≡ true → StartsWord (word ++ rest)
name_starts [] rest e = absurd cc
name_starts (b ∷ word) rest e = start_is_word b (word ++ rest) e

constant_starts : (b : Bool) (rest : List ℕ) → StartsWord (constant_text b ++ rest)
constant_starts true rest = (refl, refl, refl)
constant_starts false rest = (refl, refl, refl)

module _ {A : Type 0} (to : List ℕ → A) (factor rule : List ℕ → Read A) where
  word_chosen : (blanks text : List ℕ) → AreBlank blanks → StartsWord text → factor_with to factor rule (blanks ++ text) ≡ word_at to text
  word_chosen blanks [] are starts = absurd starts
  word_chosen blanks (b ∷ text) are starts =
      let behind = blanks ++ b ∷ text in
      let no_not : after_mark (codes "!") behind ≡ None = mark_next (codes "!") blanks b text are starts.0 ∙ ap (λ (t : Bool). cond t (Some text) None) starts.1 in
      let no_open : after_mark (codes "(") behind ≡ None = mark_next (codes "(") blanks b text are starts.0 ∙ ap (λ (t : Bool). cond t (Some text) None) starts.2 in
      ap (λ (o : Option (List ℕ)). choice o (inverted_with factor) (choice (after_mark (codes "(") behind) (enclosed_with rule) (word_at to (after_blanks behind)))) no_not
      ∙ ap (λ (o : Option (List ℕ)). choice o (enclosed_with rule) (word_at to (after_blanks behind))) no_open
      ∙ ap (word_at to) (after_blanks_is blanks (b ∷ text) are starts.0)

  pub not_chosen : (text rest : List ℕ) → after_mark (codes "!") text ≡ Some rest → factor_with to factor rule text ≡ inverted_with factor rest
  not_chosen text rest e = ap (λ (o : Option (List ℕ)). choice o (inverted_with factor) (choice (after_mark (codes "(") text) (enclosed_with rule) (word_at to (after_blanks text)))) e

  pub open_chosen : (text rest : List ℕ) → after_mark (codes "!") text ≡ None → after_mark (codes "(") text ≡ Some rest → factor_with to factor rule text ≡ enclosed_with rule rest
  open_chosen text rest e f =
      ap (λ (o : Option (List ℕ)). choice o (inverted_with factor) (choice (after_mark (codes "(") text) (enclosed_with rule) (word_at to (after_blanks text)))) e
      ∙ ap (λ (o : Option (List ℕ)). choice o (enclosed_with rule) (word_at to (after_blanks text))) f

  pub word_next : (text : List ℕ) → after_mark (codes "!") text ≡ None → after_mark (codes "(") text ≡ None → factor_with to factor rule text ≡ word_at to (after_blanks text)
  word_next text e f =
      ap (λ (o : Option (List ℕ)). choice o (inverted_with factor) (choice (after_mark (codes "(") text) (enclosed_with rule) (word_at to (after_blanks text)))) e
      ∙ ap (λ (o : Option (List ℕ)). choice o (enclosed_with rule) (word_at to (after_blanks text))) f

module _ (factor rule : List ℕ → Read (List ℕ)) where
  module _ (Inverted Enclosed : List ℕ → NamedRule → Type 0) (Closes : List ℕ → Type 0)
      (inverts : Rereads Inverted (λ rest. Stops is_name_byte rest) factor) (encloses : Rereads Enclosed Closes rule)
      (closes : (blanks rest : List ℕ) → AreBlank blanks → Closes (blanks ++ 41 ∷ rest)) where
    pub factor_again : Rereads (Factor Inverted Enclosed) (λ rest. Stops is_name_byte rest) (factor_with same factor rule)
    factor_again text rest c (constant blanks b blank) stops =
        ap (factor_with same factor rule) (append_assoc blanks (constant_text b) rest) ∙ word_chosen same factor rule blanks (constant_text b ++ rest) blank (constant_starts b rest) ∙ constant_again b rest stops
    factor_again text rest c (name blanks word blank is) stops =
        ap (factor_with same factor rule) (append_assoc blanks word rest) ∙ word_chosen same factor rule blanks (word ++ rest) blank (name_starts word rest is.start) ∙ word_again word rest (feature word) is.bytes stops (name_rule word is)
    factor_again text rest c (inverted blanks {text = inner} {c = d} blank i) stops =
        ap (factor_with same factor rule) (append_assoc blanks (33 ∷ inner) rest)
        ∙ not_chosen same factor rule (blanks ++ 33 ∷ (inner ++ rest)) (inner ++ rest) (mark_next (codes "!") blanks 33 (inner ++ rest) blank refl)
        ∙ ap (λ (r : Read (List ℕ)). r >>= λ y. Some (negation y.0, y.1)) (inverts inner rest d i stops)
    factor_again text rest c (enclosed blanks after {text = inner} {c = d} blank i blank-after) stops =
        let behind = inner ++ (after ++ 41 ∷ rest) in
        let regroup : (blanks ++ 40 ∷ (inner ++ after ++ 41 ∷ [])) ++ rest ≡ blanks ++ 40 ∷ behind = simp append_assoc in
        let closed : after_mark (codes ")") (after ++ 41 ∷ rest) ≡ Some rest = mark_next (codes ")") after 41 rest blank-after refl in
        ap (factor_with same factor rule) regroup
        ∙ open_chosen same factor rule (blanks ++ 40 ∷ behind) behind (mark_next (codes "!") blanks 40 behind blank refl) (mark_next (codes "(") blanks 40 behind blank refl)
        ∙ ap (λ (r : Read (List ℕ)). r >>= λ y. close y.0 (after_mark (codes ")") y.1)) (encloses inner (after ++ 41 ∷ rest) d i (closes after rest blank-after))
        ∙ ap (close d) closed
