-- Regular formulas are read as they are spelled, both ways.
use Rattle.std.proofs.Common.{◌≡◌, ℕ, zero, suc, Bool, true, false, cond, List, [], ◌∷◌, ◌++◌, Option, Some, None, refl, sym, ap, subst, ◌∙◌, inl, inr, ◌⊎◌, append_assoc}
use Rattle.std.specs.Prelude.{codes, not, ◌||◌, is_some}
use Rattle.std.specs.Str.{bytes_eq}
use Rattle.std.proofs.lemmas.List.{append-nil}
use Rattle.vpg_features.proofs.Held.{eq_bytes, both_true}
use Rattle.vpg_formula.specs.Regular.{Regular, repeated, repeated_once, word_formula, complement_of, all_of, any_of, sequence_of, choice_of}
use Rattle.vpg_formula.specs.RegularGrammar.{Form, Operand, word, inverted, enclosed, Series, one, more as next, Starred, plain, star, plus, AllOf, AnyOf, Repetition, Sequence, Choice, Nothing, IsOperand, IsRegular}
use Rattle.vpg_formula.specs.Reading.{Read, ◌>>=◌, after_word, choice, starts_operand, is_plus, stars_at, starred_with, all_of_with, any_of_with, repetition_with, sequence_with, choice_with, inverted_with, enclosed_with, word_at, operand_with, nothing_read, operand_at, if_last, regular_at}
use Rattle.vpg_formula.proofs.Series.{bind_some, choice_some, some_is, word_behind, word_next, Finds, Rereads, series_found, series_rereads}

-- ---- stars

abbrev Words : Type 0
Words = List (List ℕ)

stars_found : (Item : Form) (all us ws : Words) (x : Regular) (y : Regular × Words) → Starred Item us x → all ≡ us ++ ws → stars_at x ws ≡ Some y
    → (vs : Words) × Starred Item vs y.0 × (all ≡ vs ++ y.1)
unfolding stars_at
stars_found Item all us [] x y s e f = subst (λ (z : Regular × Words). (vs : Words) × Starred Item vs z.0 × (all ≡ vs ++ z.1)) (some_is (x, []) y f) (us, s, e)
stars_found Item all us (w ∷ ws) x y s e f = go (bytes_eq w (codes "*")) (is_plus w ws) (eq_bytes w (codes "*")) (λ t. eq_bytes w (codes "+") (both_true (bytes_eq w (codes "+")) (not (starts_operand ws)) t).0) f
    (λ sign z t is g. stars_found Item all (us ++ sign ∷ []) ws z y t (e ∙ ap (λ (v : List ℕ). us ++ v ∷ ws) is ∙ sym (append_assoc us (sign ∷ []) ws)) g)
  where
    go : (t u : Bool) → (t ≡ true → w ≡ codes "*") → (u ≡ true → w ≡ codes "+") → cond t (stars_at (repeated x) ws) (cond u (stars_at (repeated_once x) ws) (Some (x, w ∷ ws))) ≡ Some y
        → ((sign : List ℕ) (z : Regular) → Starred Item (us ++ sign ∷ []) z → w ≡ sign → stars_at z ws ≡ Some y → (vs : Words) × Starred Item vs y.0 × (all ≡ vs ++ y.1))
        → (vs : Words) × Starred Item vs y.0 × (all ≡ vs ++ y.1)
    go true u is_star is_plus f later = later (codes "*") (repeated x) (star s) (is_star refl) f
    go false true is_star is_plus f later = later (codes "+") (repeated_once x) (plus s) (is_plus refl) f
    go false false is_star is_plus f later = subst (λ (z : Regular × Words). (vs : Words) × Starred Item vs z.0 × (all ≡ vs ++ z.1)) (some_is (x, w ∷ ws) y f) (us, s, e)

pub starred_found : (Item : Form) (read : Read Regular) → Finds Item read → Finds (Starred Item) (starred_with read)
unfolding starred_with
starred_found Item read finds ws y e =
    let h = bind_some (read ws) (λ x. stars_at x.0 x.1) y e in
    let i = finds ws h.0 h.1 in
    stars_found Item ws i.0 h.0.1 h.0.0 y (plain i.1) i.2 h.2

-- what may follow a starred formula
abbrev EndsStars : Words → Type 0
EndsStars [] = Unit {0}
EndsStars (w ∷ ws) = (bytes_eq w (codes "*") ≡ false) × (is_plus w ws ≡ false)

stars_stop : (x : Regular) (ws : Words) → EndsStars ws → stars_at x ws ≡ Some (x, ws)
unfolding stars_at
stars_stop x [] e = refl
stars_stop x (w ∷ ws) e =
    ap (λ (t : Bool). cond t (stars_at (repeated x) ws) (cond (is_plus w ws) (stars_at (repeated_once x) ws) (Some (x, w ∷ ws)))) e.0
    ∙ ap (λ (t : Bool). cond t (stars_at (repeated_once x) ws) (Some (x, w ∷ ws))) e.1

star_goes : (x : Regular) (ws : Words) → stars_at x (codes "*" ∷ ws) ≡ stars_at (repeated x) ws
unfolding stars_at
star_goes x ws = refl

plus_goes : (x : Regular) (ws : Words) → starts_operand ws ≡ false → stars_at x (codes "+" ∷ ws) ≡ stars_at (repeated_once x) ws
unfolding stars_at
plus_goes x ws e = ap (λ (t : Bool). cond (not t) (stars_at (repeated_once x) ws) (Some (x, codes "+" ∷ ws))) e

module _ (Item : Form) (read : Read Regular) (Follows : Words → Type 0) (rereads : Rereads Item (λ x. Follows) read) (star_follows : (ws : Words) → Follows (codes "*" ∷ ws)) (plus_follows : (ws : Words) → Follows (codes "+" ∷ ws)) where
  star_comes : (us rest : Words) (x : Regular) → Starred Item us x → Follows rest → starts_operand rest ≡ false → starred_with read (us ++ rest) ≡ stars_at x rest
  unfolding starred_with
  star_comes us rest x (plain i) f e = ap (λ (o : Option (Regular × Words)). o >>= λ y. stars_at y.0 y.1) (rereads us rest x i f)
  star_comes us rest y (star {ws = ws} {x = x} s) f e = ap (starred_with read) (append_assoc ws (codes "*" ∷ []) rest) ∙ star_comes ws (codes "*" ∷ rest) x s (star_follows rest) refl ∙ star_goes x rest
  star_comes us rest y (plus {ws = ws} {x = x} s) f e = ap (starred_with read) (append_assoc ws (codes "+" ∷ []) rest) ∙ star_comes ws (codes "+" ∷ rest) x s (plus_follows rest) refl ∙ plus_goes x rest e

  starred_rereads : Rereads (Starred Item) (λ x rest. Follows rest × EndsStars rest × (starts_operand rest ≡ false)) (starred_with read)
  starred_rereads us rest x s f = star_comes us rest x s f.0 f.2 ∙ stars_stop x rest f.1

-- ---- operands begin as they should

abbrev Starts : Form → Type 0
Starts Item = (us rest : Words) (x : Regular) → Item us x → starts_operand (us ++ rest) ≡ true

some_starts : (o : Option Regular) (x : Regular) (b : Bool) → o ≡ Some x → (is_some o || b) ≡ true
some_starts None x b e = absurd cc
some_starts (Some y) x b e = refl

operand_starts : (Inv Enc : Form) → Starts (Operand Inv Enc)
operand_starts Inv Enc us rest x (word {w = w} e) = some_starts (word_formula w) x _ e
operand_starts Inv Enc us rest x (inverted i e) = refl
operand_starts Inv Enc us rest x (enclosed i) = refl

series_starts : (Item : Form) (sign : List ℕ) (join : Regular → Regular → Option Regular) → Starts Item → Starts (Series Item sign join)
series_starts Item sign join starts us rest x (one i) = starts us rest x i
series_starts Item sign join starts us rest x (next {us = vs} {ws = ws} {x = y} s i j) = ap starts_operand (append_assoc vs (sign ∷ ws) rest) ∙ series_starts Item sign join starts vs (sign ∷ (ws ++ rest)) y s

starred_starts : (Item : Form) → Starts Item → Starts (Starred Item)
starred_starts Item starts us rest x (plain i) = starts us rest x i
starred_starts Item starts us rest x (star {ws = ws} {x = y} s) = ap starts_operand (append_assoc ws (codes "*" ∷ []) rest) ∙ starred_starts Item starts ws (codes "*" ∷ rest) y s
starred_starts Item starts us rest x (plus {ws = ws} {x = y} s) = ap starts_operand (append_assoc ws (codes "+" ∷ []) rest) ∙ starred_starts Item starts ws (codes "+" ∷ rest) y s

-- ---- the levels

module _ (Item : Form) (read : Read Regular) (finds : Finds Item read) where
  pub choice_found : Finds (Choice Item) (choice_with read)
  choice_found =
      series_found (Sequence Item) (sequence_with read) (codes "+") choice_of
      (series_found (Repetition Item) (repetition_with read) (codes ".") sequence_of
      (starred_found (AnyOf Item) (any_of_with read)
      (series_found (AllOf Item) (all_of_with read) (codes "||") any_of
      (series_found Item read (codes "&&") all_of finds))))

-- what may follow a regular formula
pub record Ends (rest : Words) : Type 0 where
  pub all : after_word (codes "&&") rest ≡ None
  pub any : after_word (codes "||") rest ≡ None
  pub stars : EndsStars rest
  pub starts : starts_operand rest ≡ false
  pub dot : after_word (codes ".") rest ≡ None
  pub plus : after_word (codes "+") rest ≡ None

abbrev Always : Regular → Words → Type 0
Always x rest = Unit {0}

module _ (Item : Form) (read : Read Regular) (rereads : Rereads Item Always read) (starts : Starts Item) where
  all_of_again : Rereads (AllOf Item) (λ x rest. Unit {0} × (after_word (codes "&&") rest ≡ None)) (all_of_with read)
  all_of_again = series_rereads Item read (codes "&&") all_of Always rereads (λ us rest x y z j i. tt) (λ rest x y z j f. f)

  any_of_again : Rereads (AnyOf Item) (λ x rest. (Unit {0} × (after_word (codes "&&") rest ≡ None)) × (after_word (codes "||") rest ≡ None)) (any_of_with read)
  any_of_again = series_rereads (AllOf Item) (all_of_with read) (codes "||") any_of _ all_of_again (λ us rest x y z j i. (tt, refl)) (λ rest x y z j f. f)

  repetition_again : Rereads (Repetition Item) (λ x rest. ((Unit {0} × (after_word (codes "&&") rest ≡ None)) × (after_word (codes "||") rest ≡ None)) × EndsStars rest × (starts_operand rest ≡ false)) (repetition_with read)
  repetition_again = starred_rereads (AnyOf Item) (any_of_with read) _ any_of_again (λ ws. ((tt, refl), refl)) (λ ws. ((tt, refl), refl))

  sequence_again : Rereads (Sequence Item) (λ x rest. (((Unit {0} × (after_word (codes "&&") rest ≡ None)) × (after_word (codes "||") rest ≡ None)) × EndsStars rest × (starts_operand rest ≡ false)) × (after_word (codes ".") rest ≡ None)) (sequence_with read)
  sequence_again = series_rereads (Repetition Item) (repetition_with read) (codes ".") sequence_of _ repetition_again (λ us rest x y z j i. (((tt, refl), refl), (refl, refl), refl)) (λ rest x y z j f. f)

  sequence_starts : Starts (Sequence Item)
  sequence_starts =
      series_starts (Repetition Item) (codes ".") sequence_of (starred_starts (AnyOf Item)
      (series_starts (AllOf Item) (codes "||") any_of (series_starts Item (codes "&&") all_of starts)))

  pub choice_again : Rereads (Choice Item) (λ x. Ends) (choice_with read)
  choice_again us rest x s e =
      series_rereads (Sequence Item) (sequence_with read) (codes "+") choice_of _ sequence_again
      (λ us rest x y z j i. ((((tt, refl), refl), (refl, ap not (sequence_starts us rest y i)), refl), refl)) (λ rest x y z j f. f)
      us rest x s (((((tt, e.all), e.any), e.stars, e.starts), e.dot), e.plus)

-- ---- operands

-- what is read behind `!`, and between parentheses
abbrev FindsInverted : Form → Read Regular → Type 0
FindsInverted Inv read = (ws : Words) (x : Regular × Words) → read ws ≡ Some x → (us : Words) × (y : Regular) × Inv us y × (complement_of y ≡ Some x.0) × (ws ≡ us ++ x.1)

abbrev FindsEnclosed : Form → Read Regular → Type 0
FindsEnclosed Enc read = (ws : Words) (x : Regular × Words) → read ws ≡ Some x → (us : Words) × Enc us x.0 × (ws ≡ us ++ codes ")" ∷ x.1)

word_found : (Inv Enc : Form) → Finds (Operand Inv Enc) word_at
word_found Inv Enc [] x e = absurd cc
word_found Inv Enc (w ∷ ws) x e =
    let h = bind_some (word_formula w) (λ y. Some (y, ws)) x e in
    let same : (h.0, ws) ≡ x = some_is (h.0, ws) x h.2 in
    subst (λ (z : Regular × Words). (us : Words) × Operand Inv Enc us z.0 × (w ∷ ws ≡ us ++ z.1)) same (w ∷ [], word h.1, refl)

operand_with_found : (Inv Enc : Form) (invert enclose : Read Regular) → FindsInverted Inv invert → FindsEnclosed Enc enclose → Finds (Operand Inv Enc) (operand_with invert enclose)
operand_with_found Inv Enc invert enclose inverts encloses ws x e = first (choice_some (after_word (codes "!") ws) invert _ x e)
  where
    Found : Type 0
    Found = (us : Words) × Operand Inv Enc us x.0 × (ws ≡ us ++ x.1)

    second : ((rest : Words) × (after_word (codes "(") ws ≡ Some rest) × (enclose rest ≡ Some x)) ⊎ ((after_word (codes "(") ws ≡ None) × (word_at ws ≡ Some x)) → (us : Words) × Operand Inv Enc us x.0 × (ws ≡ us ++ x.1)
    second (inl (rest, here, f)) =
        let i = encloses rest x f in
        (codes "(" ∷ (i.0 ++ codes ")" ∷ []), enclosed i.1, word_behind (codes "(") ws rest here ∙ ap (λ (t : Words). codes "(" ∷ t) (i.2 ∙ sym (append_assoc i.0 (codes ")" ∷ []) x.1)))
    second (inr (none, f)) = word_found Inv Enc ws x f

    first : ((rest : Words) × (after_word (codes "!") ws ≡ Some rest) × (invert rest ≡ Some x)) ⊎ ((after_word (codes "!") ws ≡ None) × (choice (after_word (codes "(") ws) enclose (word_at ws) ≡ Some x)) → (us : Words) × Operand Inv Enc us x.0 × (ws ≡ us ++ x.1)
    first (inl (rest, here, f)) =
        let i = inverts rest x f in
        (codes "!" ∷ i.0, inverted i.2 i.3, word_behind (codes "!") ws rest here ∙ ap (λ (t : Words). codes "!" ∷ t) i.4)
    first (inr (none, f)) = second (choice_some (after_word (codes "(") ws) enclose (word_at ws) x f)

inverted_found : (Item : Form) (read : Read Regular) → Finds Item read → FindsInverted Item (inverted_with read)
inverted_found Item read finds ws x e =
    let h = bind_some (read ws) (λ y. complement_of y.0 >>= λ z. Some (z, y.1)) x e in
    let j = bind_some (complement_of h.0.0) (λ z. Some (z, h.0.1)) x h.2 in
    let i = finds ws h.0 h.1 in
    let same : (j.0, h.0.1) ≡ x = some_is (j.0, h.0.1) x j.2 in
    subst (λ (z : Regular × Words). (us : Words) × (y : Regular) × Item us y × (complement_of y ≡ Some z.0) × (ws ≡ us ++ z.1)) same (i.0, h.0.0, i.1, j.1, i.2)

enclosed_found : (Item : Form) (read : Read Regular) → Finds Item read → FindsEnclosed Item (enclosed_with read (codes ")"))
enclosed_found Item read finds ws x e =
    let h = bind_some (read ws) (λ y. after_word (codes ")") y.1 >>= λ rest. Some (y.0, rest)) x e in
    let j = bind_some (after_word (codes ")") h.0.1) (λ rest. Some (h.0.0, rest)) x h.2 in
    let i = finds ws h.0 h.1 in
    let same : (h.0.0, j.0) ≡ x = some_is (h.0.0, j.0) x j.2 in
    subst (λ (z : Regular × Words). (us : Words) × Item us z.0 × (ws ≡ us ++ codes ")" ∷ z.1)) same (i.0, i.1, i.2 ∙ ap (λ (t : Words). i.0 ++ t) (word_behind (codes ")") h.0.1 j.0 j.1))

pub operand_found : (d : ℕ) → Finds (IsOperand d) (operand_at d)
unfolding IsOperand operand_at
operand_found zero = operand_with_found Nothing Nothing nothing_read nothing_read (λ ws x e. absurd cc) (λ ws x e. absurd cc)
operand_found (suc d) =
    operand_with_found (IsOperand d) (Choice (IsOperand d)) (inverted_with (operand_at d)) (enclosed_with (choice_with (operand_at d)) (codes ")"))
    (inverted_found (IsOperand d) (operand_at d) (operand_found d)) (enclosed_found (Choice (IsOperand d)) (choice_with (operand_at d)) (choice_found (IsOperand d) (operand_at d) (operand_found d)))

-- a word that is an action formula is no sign
no_word : (w sign : List ℕ) (x : Regular) → word_formula w ≡ Some x → word_formula sign ≡ None → bytes_eq w sign ≡ false
no_word w sign x e f = go (bytes_eq w sign) refl (eq_bytes w sign)
  where
    go : (t : Bool) → bytes_eq w sign ≡ t → (t ≡ true → w ≡ sign) → t ≡ false
    go false same is = refl
    go true same is = let there : w ≡ sign = is refl in absurd cc

word_again : (invert enclose : Read Regular) (w : List ℕ) (rest : Words) (x : Regular) → word_formula w ≡ Some x → operand_with invert enclose (w ∷ rest) ≡ Some (x, rest)
word_again invert enclose w rest x e =
    ap (λ (t : Bool). choice (cond t (Some rest) None) invert (choice (after_word (codes "(") (w ∷ rest)) enclose (word_at (w ∷ rest)))) (no_word w (codes "!") x e refl)
    ∙ ap (λ (t : Bool). choice (cond t (Some rest) None) enclose (word_at (w ∷ rest))) (no_word w (codes "(") x e refl)
    ∙ ap (λ (o : Option Regular). o >>= λ y. Some (y, rest)) e

inverted_again : (read : Read Regular) (us rest : Words) (x y : Regular) → read (us ++ rest) ≡ Some (x, rest) → complement_of x ≡ Some y → inverted_with read (us ++ rest) ≡ Some (y, rest)
inverted_again read us rest x y e f = ap (λ (o : Option (Regular × Words)). o >>= λ y. complement_of y.0 >>= λ z. Some (z, y.1)) e ∙ ap (λ (o : Option Regular). o >>= λ z. Some (z, rest)) f

enclosed_again : (read : Read Regular) (us rest : Words) (x : Regular) → read (us ++ codes ")" ∷ rest) ≡ Some (x, codes ")" ∷ rest) → enclosed_with read (codes ")") ((us ++ codes ")" ∷ []) ++ rest) ≡ Some (x, rest)
enclosed_again read us rest x e =
    ap (enclosed_with read (codes ")")) (append_assoc us (codes ")" ∷ []) rest)
    ∙ ap (λ (o : Option (Regular × Words)). o >>= λ y. after_word (codes ")") y.1 >>= λ rest. Some (y.0, rest)) e
    ∙ ap (λ (o : Option Words). o >>= λ rest. Some (x, rest)) (word_next (codes ")") rest)

closes : (rest : Words) → Ends (codes ")" ∷ rest)
closes rest = record { all = refl; any = refl; stars = (refl, refl); starts = refl; dot = refl; plus = refl }

pub is_started : (d : ℕ) → Starts (IsOperand d)
unfolding IsOperand
is_started zero = operand_starts Nothing Nothing
is_started (suc d) = operand_starts (IsOperand d) (Choice (IsOperand d))

pub operand_again : (d : ℕ) → Rereads (IsOperand d) Always (operand_at d)
unfolding IsOperand operand_at
operand_again zero us rest x (word {w = w} e) f = word_again nothing_read nothing_read w rest x e
operand_again zero us rest x (inverted i e) f = absurd i
operand_again zero us rest x (enclosed i) f = absurd i
operand_again (suc d) us rest x (word {w = w} e) f = word_again (inverted_with (operand_at d)) (enclosed_with (choice_with (operand_at d)) (codes ")")) w rest x e
operand_again (suc d) us rest y (inverted {ws = ws} {x = x} i e) f = inverted_again (operand_at d) ws rest x y (operand_again d ws rest x i tt) e
operand_again (suc d) us rest x (enclosed {ws = ws} i) f =
    enclosed_again (choice_with (operand_at d)) ws rest x (choice_again (IsOperand d) (operand_at d) (operand_again d) (is_started d) ws (codes ")" ∷ rest) x i (closes rest))

-- ---- whole regular formulas

ended : Ends []
ended = record { all = refl; any = refl; stars = tt; starts = refl; dot = refl; plus = refl }

pub if_last_is : {A : Type 0} (x y : A) (ws : Words) → if_last x ws ≡ Some y → (ws ≡ []) × (x ≡ y)
if_last_is x y [] e = (refl, some_is x y e)
if_last_is x y (w ∷ ws) e = absurd cc

-- what is read is spelled so
pub regular_found : (ws : Words) (x : Regular) → regular_at ws ≡ Some x → IsRegular 64 ws x
regular_found ws x e =
    let h = bind_some (choice_with (operand_at 64) ws) (λ y. if_last y.0 y.1) x e in
    let i = choice_found (IsOperand 64) (operand_at 64) (operand_found 64) ws h.0 h.1 in
    let last = if_last_is h.0.0 x h.0.1 h.2 in
    let all : ws ≡ i.0 = i.2 ∙ ap (λ (t : Words). i.0 ++ t) last.0 ∙ append-nil i.0 in
    subst (λ (y : Regular). IsRegular 64 ws y) last.1 (subst (λ (t : Words). IsRegular 64 t h.0.0) (sym all) i.1)

-- what is spelled so is read
pub regular_again : (ws : Words) (x : Regular) → IsRegular 64 ws x → regular_at ws ≡ Some x
regular_again ws x i =
    let again = choice_again (IsOperand 64) (operand_at 64) (operand_again 64) (is_started 64) ws [] x i ended in
    ap (λ (o : Option (Regular × Words)). o >>= λ y. if_last y.0 y.1) (ap (choice_with (operand_at 64)) (sym (append-nil ws)) ∙ again)
