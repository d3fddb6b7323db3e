-- Vertices that lines name.
use Rattle.std.proofs.Common.{◌≡◌, ℕ, zero, suc, ◌+◌, ◌<◌, Bool, true, false, cond, List, [], ◌∷◌, length, Option, Some, None, refl, sym, ap, ◌∙◌, subst, arith, eq-eqb}
use Rattle.std.specs.Prelude.{◌==◌, not, nat_lt, slice_get, slice_index_or, position, IfSome}
use Rattle.std.specs.List.{position_or_len}
use Rattle.std.proofs.lemmas.List.{length-map}
use Rattle.std.proofs.lemmas.List.Quantifiers.{position-Some}
use Rattle.std.proofs.lemmas.Option.{slice_get_within}
use Rattle.std.proofs.lemmas.Bool.{eqb-true}
use Rattle.std.proofs.lemmas.Bool.Decides.{nat_tests}
use Rattle.vpg_game.specs.Game.{NamedVertex, vertex_ids}

-- ---- the place of an identifier

first_within : (id i : ℕ) (ids : List ℕ) → slice_get ids i ≡ Some id → position_or_len (λ n. n == id) ids < length ids
first_within id i [] is = absurd (cc is)
first_within id zero (n ∷ ids) is =
    let same : n ≡ id = cc is in
    subst (λ (t : Bool). cond (not t) (1 + position_or_len (λ n. n == id) ids) 0 < suc (length ids)) (sym (eq-eqb n id same)) (omega arith)
first_within id (suc i) (n ∷ ids) is = go (n == id) (first_within id i ids is)
  where
    go : (t : Bool) → position_or_len (λ n. n == id) ids < length ids → cond (not t) (1 + position_or_len (λ n. n == id) ids) 0 < suc (length ids)
    go true rest = omega arith
    go false rest = omega (arith, rest)

has_place : (id i : ℕ) (ids : List ℕ) → slice_get ids i ≡ Some id → position (λ n. n == id) ids ≡ None → ⊥
has_place id i ids has is = absurd (cc (is, ap (λ (t : Bool). cond t (Some (position_or_len (λ n. n == id) ids)) None) (within (first_within id i ids has))))
  where
    within : {a b : ℕ} → a < b → nat_lt a b ≡ true
    within l = grind (arith, nat_tests)

found_at : (id i : ℕ) (ids : List ℕ) → i < length ids → (slice_index_or ids i 0 == id) ≡ true → slice_get ids i ≡ Some id
found_at id i [] l is = absurd (omega (arith, l))
found_at id zero (n ∷ ids) l is = ap Some (eqb-true n id is)
found_at id (suc i) (n ∷ ids) l is = found_at id i ids (omega (arith, l)) is

-- what is found is the place of the identifier
pub vertex_found : (ids : List ℕ) (id : ℕ) (result : Option ℕ) → IfSome result (λ v. slice_get ids v ≡ Some id) → ((v : ℕ) → slice_get ids v ≡ Some id → result ≡ Some v) →
    position (λ n. n == id) ids ≡ result
vertex_found ids id result found held = go (position (λ n. n == id) ids) refl
  where
    none : (result : Option ℕ) → IfSome result (λ v. slice_get ids v ≡ Some id) → position (λ n. n == id) ids ≡ None → None ≡ result
    none None found is = refl
    none (Some v) found is = absurd (has_place id v ids found is)

    go : (place : Option ℕ) → position (λ n. n == id) ids ≡ place → position (λ n. n == id) ids ≡ result
    go None is = is ∙ none result found is
    go (Some i) is =
        let at = position-Some (λ (n : ℕ). n == id) ids i 0 is in
        is ∙ sym (held i (found_at id i ids at.0 at.1))

pub vertex_within : (vertices : List NamedVertex) (id : ℕ) (found : Option ℕ) → IfSome found (λ v. slice_get (vertex_ids vertices) v ≡ Some id) → IfSome found (λ v. v < length vertices)
vertex_within vertices id None h = tt
vertex_within vertices id (Some v) h = subst (λ (n : ℕ). v < n) (length-map vertices (λ (x : NamedVertex). x.id)) (slice_get_within (vertex_ids vertices) v id h)

-- a place below a length is below one that is the same
pub below_as : (v n m : ℕ) → m ≡ n → v < n → v < m
below_as v n m same less = subst (λ (k : ℕ). v < k) (sym same) less
