-- Where tokens stand.
use Rattle.std.proofs.Common.{◌≡◌, ℕ, zero, suc, ◌+◌, ◌<◌, ◌≤◌, Bool, true, false, cond, List, [], ◌∷◌, length, max, Option, Some, None, refl, sym, ap, ◌∙◌, subst, inl, inr, arith, eq-eqb}
use Rattle.std.specs.Prelude.{◌==◌, ◌||◌, ◌⊎◌, not, nat_lt, slice_get, slice_index_or, position, if◌then◌else◌}
use Rattle.std.specs.List.{position_or_len, fold, reduce, remove, insert}
use Rattle.std.proofs.lemmas.List.Folds.{list_any_at}
use Rattle.std.proofs.lemmas.List.Quantifiers.{position-Some}
use Rattle.std.proofs.lemmas.Bool.{cases_lt, eqb-true, or_right}
use Rattle.std.proofs.lemmas.Bool.Decides.{nat_tests}
use Rattle.vpg_desk.specs.Book.{has_serial}
use Rattle.vpg_engine.specs.Held.{if_among, without}
use Rattle.vpg_engine.specs.Engine.{IsPlaceOf}
use Rattle.vpg_engine.specs.Serials.{serials}
use Rattle.vpg_engine.proofs.Serials.{serials_length, serials_removed, serial_at}
use Rattle.vpg_office.specs.Token.{TokenView as Token}

-- ---- a serial that is among them has a place

first_within : (s : ℕ) (serials : List ℕ) → has_serial s serials ≡ true → position_or_len (λ n. n == s) serials < length serials
first_within s [] h = absurd (cc h)
first_within s (n ∷ serials) h = go (n == s) (λ rest. first_within s serials rest) h
  where
    go : (t : Bool) → (has_serial s serials ≡ true → position_or_len (λ n. n == s) serials < length serials) → (t || has_serial s serials) ≡ true →
        cond (not t) (1 + position_or_len (λ n. n == s) serials) 0 < suc (length serials)
    go true rest h = omega arith
    go false rest h = omega (arith, rest h)

has_place : (s : ℕ) (serials : List ℕ) → has_serial s serials ≡ true → position (λ n. n == s) serials ≡ None → ⊥
has_place s serials has is = absurd (cc (is, ap (λ (t : Bool). cond t (Some (position_or_len (λ n. n == s) serials)) None) (within (first_within s serials has))))
  where
    within : {a b : ℕ} → a < b → nat_lt a b ≡ true
    within l = grind (arith, nat_tests)

place_has : (s i : ℕ) (serials : List ℕ) → position (λ n. n == s) serials ≡ Some i → has_serial s serials ≡ true
place_has s i serials is =
    let at = position-Some (λ (n : ℕ). n == s) serials i 0 is in
    list_any_at (λ (n : ℕ). n == s) serials i 0 at.0 at.1

pub named : (s : ℕ) (serials : List ℕ) (place : Option ℕ) → place ≡ position (λ n. n == s) serials → IsPlaceOf (if_among serials s) serials place
named s serials place is = go (has_serial s serials) refl place is
  where
    go : (t : Bool) → has_serial s serials ≡ t → (place : Option ℕ) → place ≡ position (λ n. n == s) serials → IsPlaceOf (if t then Some s else None) serials place
    go true has None is = absurd (has_place s serials has (sym is))
    go true has (Some i) is = (s, (refl, sym is))
    go false has None is = refl
    go false has (Some i) is = absurd (cc (has, place_has s i serials (sym is)))

-- a serial that is meant, and is among them
pub among : (s : ℕ) (serials : List ℕ) (meant place : Option ℕ) → has_serial s serials ≡ true → meant ≡ Some s → place ≡ position (λ n. n == s) serials → IsPlaceOf meant serials place
among s serials meant None has means is = absurd (has_place s serials has (sym is))
among s serials meant (Some i) has means is = (s, (means, sym is))

-- the greatest is among them
greatest_among : (a : ℕ) (serials : List ℕ) → has_serial (fold max a serials) (a ∷ serials) ≡ true
greatest_among a [] = ap (λ (t : Bool). t || false) (eq-eqb a a refl)
greatest_among a (n ∷ serials) = go (fold max (max a n) serials) (cases_lt a n) (greatest_among (max a n) serials)
  where
    rest : (g : ℕ) (t : Bool) → (t || has_serial g serials) ≡ true → (n == g) ≡ t → ((a == g) || ((n == g) || has_serial g serials)) ≡ true
    rest g t h is = or_right (a == g) ((n == g) || has_serial g serials) (rw is h)

    first : (g : ℕ) (t : Bool) → (t || has_serial g serials) ≡ true → (a == g) ≡ t → ((a == g) || ((n == g) || has_serial g serials)) ≡ true
    first g true h is = rw is refl
    first g false h is = rw is (or_right (n == g) (has_serial g serials) h)

    go : (g : ℕ) → (a < n) ⊎ (n ≤ a) → ((max a n == g) || has_serial g serials) ≡ true → ((a == g) || ((n == g) || has_serial g serials)) ≡ true
    go g (inl less) h = let is : max a n ≡ n = omega (arith, less) in rest g (n == g) (subst (λ (m : ℕ). ((m == g) || has_serial g serials) ≡ true) is h) refl
    go g (inr less) h = let is : max a n ≡ a = omega (arith, less) in first g (a == g) (subst (λ (m : ℕ). ((m == g) || has_serial g serials) ≡ true) is h) refl

pub greatest_has : (g : ℕ) (serials : List ℕ) → reduce max serials ≡ Some g → has_serial g serials ≡ true
greatest_has g [] is = absurd (cc is)
greatest_has g (n ∷ serials) is = let same : fold max n serials ≡ g = cc is in subst (λ (m : ℕ). has_serial m (n ∷ serials) ≡ true) same (greatest_among n serials)

pub found_has : (s i : ℕ) (serials : List ℕ) → slice_get serials i ≡ Some s → has_serial s serials ≡ true
found_has s i [] is = absurd (cc is)
found_has s zero (n ∷ serials) is = let same : n ≡ s = cc is in ap (λ (t : Bool). t || has_serial s serials) (eq-eqb n s same)
found_has s (suc i) (n ∷ serials) is = or_right (n == s) (has_serial s serials) (found_has s i serials is)

-- ---- taking the token there out, and putting it back

removed_at : (s i d : ℕ) (serials : List ℕ) → i < length serials → (slice_index_or serials i d == s) ≡ true → ((k : ℕ) → k < i → (slice_index_or serials k d == s) ≡ false) → remove serials i ≡ without s serials
removed_at s i d [] l is before = absurd (omega (arith, l))
removed_at s zero d (n ∷ serials) l is before = ap (λ (t : Bool). if t then serials else n ∷ without s serials) (sym is)
removed_at s (suc i) d (n ∷ serials) l is before =
    ap (λ (ns : List ℕ). n ∷ ns) (removed_at s i d serials (omega (arith, l)) is (λ k less. before (suc k) (omega (arith, less))))
    ∙ ap (λ (t : Bool). if t then serials else n ∷ without s serials) (sym (before 0 (omega arith)))

pub put_back_at : {A : Type 0} (xs : List A) (i : ℕ) (x : A) → i < length xs → x ≡ slice_index_or xs i x → insert (remove xs i) i x ≡ xs
put_back_at [] i x l is = absurd (omega (arith, l))
put_back_at {A} (y ∷ xs) zero x l is = ap (λ (z : A). z ∷ xs) is
put_back_at {A} (y ∷ xs) (suc i) x l is = ap (λ (ys : List A). y ∷ ys) (put_back_at xs i x (omega (arith, l)) is)

module _ (tokens : List Token) (place : ℕ) where
  -- the token that is meant stands there
  pub stands_within : (meant : Option ℕ) → IsPlaceOf meant (serials tokens) (Some place) → place < length tokens
  stands_within meant (s, (means, is)) = omega (arith, (position-Some (λ (n : ℕ). n == s) (serials tokens) place 0 is).0, serials_length tokens)

  pub taken : (token : Token) (rest : List Token) → token ≡ slice_index_or tokens place token → rest ≡ remove tokens place → (meant : Option ℕ) → IsPlaceOf meant (serials tokens) (Some place) →
      (meant ≡ Some token.serial) × (serials rest ≡ without token.serial (serials tokens))
  taken token rest value items meant (s, (means, is)) =
      let at = position-Some (λ (n : ℕ). n == s) (serials tokens) place token.serial is in
      let same : s ≡ token.serial = sym (serial_at tokens place token token value token.serial refl ∙ eqb-true _ _ at.1) in
      let gone : serials rest ≡ without s (serials tokens) = ap serials items ∙ serials_removed tokens place ∙ removed_at s place token.serial (serials tokens) at.0 at.1 at.2 in
      (means ∙ ap Some same, gone ∙ ap (λ (n : ℕ). without n (serials tokens)) same)
