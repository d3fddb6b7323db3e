-- Splitting gives the prime implicants.
use Rattle.std.proofs.Common.{◌≡◌, ◌≢◌, ℕ, zero, suc, Bool, true, false, List, [], ◌∷◌, refl, sym, ap, ap₂, subst, ◌∙◌, arith, inl, inr}
use Rattle.std.proofs.lemmas.Bool.Decides.{Decides-eqb}
use Rattle.std.specs.Prelude.{All, Contains, remove, nat_eq, slice_index_or}
use Rattle.vpg_guards.specs.declared.tri.Tri.{Tri}
use Rattle.vpg_guards.specs.declared.tri.Tri.TheVariants.{Unknown}
use Rattle.vpg_guards.specs.Formula.{Formula, IsBelow}
use Rattle.vpg_guards.specs.Known.{Agrees, IsCompletion}
use Rattle.vpg_blake.specs.Blake.{Cube, prime_implicants, named_below, row_truth, tri_of}
use Rattle.vpg_blake.specs.Laws.{CubeHolds, IsImplicant, IsPrime, IsPart, SplittingGivesPrimes}
use Rattle.vpg_blake.specs.declared.literal.Literal.{Literal}
use Rattle.vpg_blake.proofs.Cubes.{literal, Each, Some, EachLiteral, each_weaker}
use Rattle.vpg_blake.proofs.Primes.{Holds, IsKnown, known_true}
use Rattle.vpg_blake.proofs.Named.{features_apart}
use Rattle.vpg_blake.proofs.Minimal.{In, Implies, Minimal, literal_weaker, literal_at, each_minimal, each_implies, each_both}
use Rattle.vpg_blake.proofs.Made.{row_tells}

-- ---- what a cube says, as what is known

put_tri : ℕ → Tri → List Tri → List Tri
put_tri zero t [] = t ∷ []
put_tri zero t (u ∷ known) = t ∷ known
put_tri (suc x) t [] = Unknown ∷ put_tri x t []
put_tri (suc x) t (u ∷ known) = u ∷ put_tri x t known

tri_same : (x : ℕ) (t : Tri) (known : List Tri) → slice_index_or (put_tri x t known) x Unknown ≡ t
unfolding put_tri
tri_same zero t [] = refl
tri_same zero t (u ∷ known) = refl
tri_same (suc x) t [] = tri_same x t []
tri_same (suc x) t (u ∷ known) = tri_same x t known

tri_other : (x y : ℕ) (t : Tri) (known : List Tri) → y ≢ x → slice_index_or (put_tri x t known) y Unknown ≡ slice_index_or known y Unknown
unfolding put_tri
tri_other zero zero t [] ne = absurd (ne refl)
tri_other zero zero t (u ∷ known) ne = absurd (ne refl)
tri_other zero (suc y) t [] ne = refl
tri_other zero (suc y) t (u ∷ known) ne = refl
tri_other (suc x) zero t [] ne = refl
tri_other (suc x) zero t (u ∷ known) ne = refl
tri_other (suc x) (suc y) t [] ne = tri_other x y t [] (λ e. ne (ap suc e))
tri_other (suc x) (suc y) t (u ∷ known) ne = tri_other x y t known (λ e. ne (ap suc e))

abbrev known_of : Cube → List Tri
known_of [] = []
known_of (l ∷ c) = put_tri l.feature (tri_of l.value) (known_of c)

no_unknown : (v : Bool) → Unknown ≡ tri_of v → ⊥
no_unknown true e = cc
no_unknown false e = cc

same_tri : (a b : Bool) → tri_of a ≡ tri_of b → a ≡ b
same_tri true true e = refl
same_tri true false e = absurd cc
same_tri false true e = absurd cc
same_tri false false e = refl

agreed : (v b : Bool) → Agrees (tri_of v) b → b ≡ v
agreed true b a = a
agreed false b a = a

-- what is known by a cube are its literals
known_in : (c : Cube) (l : Literal) → slice_index_or (known_of c) l.feature Unknown ≡ tri_of l.value → In c l
known_in [] l e = absurd (no_unknown l.value e)
known_in (m ∷ c) l e = at (nat_eq l.feature m.feature) refl (known_in c l)
  where
    at : (b : Bool) → nat_eq l.feature m.feature ≡ b → (slice_index_or (known_of c) l.feature Unknown ≡ tri_of l.value → In c l) → In (m ∷ c) l
    at true is rest =
        let same : l.feature ≡ m.feature = (Decides-eqb l.feature m.feature).0 is in
        let values : tri_of m.value ≡ tri_of l.value =
        sym (tri_same m.feature (tri_of m.value) (known_of c))
        ∙ subst (λ (y : ℕ). slice_index_or (put_tri m.feature (tri_of m.value) (known_of c)) y Unknown ≡ tri_of l.value) same e in
        inl (ap₂ (λ (f : ℕ) (v : Bool). literal f v) (sym same) (same_tri m.value l.value values))
    at false is rest =
        let other : l.feature ≢ m.feature = λ same. let k = (Decides-eqb l.feature m.feature).1 same in cc in
        inr (rest (sym (tri_other m.feature l.feature (tri_of m.value) (known_of c) other) ∙ e))

-- and its literals are known, where it holds in some set
in_known : (set : List Bool) (c : Cube) (l : Literal) → EachLiteral (Holds set) c → In c l → slice_index_or (known_of c) l.feature Unknown ≡ tri_of l.value
in_known set [] l h i = absurd i
in_known set (m ∷ c) l h i = at (nat_eq l.feature m.feature) refl i (λ k. in_known set c l h.1 k)
  where
    holds : slice_index_or set l.feature false ≡ l.value
    holds = literal_at (Holds set) (m ∷ c) l h i

    at : (b : Bool) → nat_eq l.feature m.feature ≡ b → In (m ∷ c) l → (In c l → slice_index_or (known_of c) l.feature Unknown ≡ tri_of l.value)
        → slice_index_or (put_tri m.feature (tri_of m.value) (known_of c)) l.feature Unknown ≡ tri_of l.value
    at true is j rest =
        let same : l.feature ≡ m.feature = (Decides-eqb l.feature m.feature).0 is in
        let values : m.value ≡ l.value = sym h.0 ∙ ap (λ (y : ℕ). slice_index_or set y false) (sym same) ∙ holds in
        ap (λ (y : ℕ). slice_index_or (put_tri m.feature (tri_of m.value) (known_of c)) y Unknown) same
        ∙ tri_same m.feature (tri_of m.value) (known_of c) ∙ ap tri_of values
    at false is (inl e) rest =
        let k = (Decides-eqb l.feature m.feature).1 (sym (ap (λ (a : Literal). a.feature) e)) in
        absurd cc
    at false is (inr j) rest =
        let other : l.feature ≢ m.feature = λ same. let k = (Decides-eqb l.feature m.feature).1 same in cc in
        tri_other m.feature l.feature (tri_of m.value) (known_of c) other ∙ rest j

literal_itself : (c : Cube) → EachLiteral (In c) c
literal_itself [] = tt
literal_itself (l ∷ c) = (inl refl, literal_weaker (In c) (In (l ∷ c)) (λ m k. inr k) c (literal_itself c))

completed : (set : List Bool) (c : Cube) → EachLiteral (Holds set) c → (s : List Bool) → IsCompletion (known_of c) s → EachLiteral (Holds s) c
completed set c h s done =
    literal_weaker (In c) (Holds s)
    (λ l i. agreed l.value (slice_index_or s l.feature false) (subst (λ (t : Tri). Agrees t (slice_index_or s l.feature false)) (in_known set c l h i) (done l.feature))) c (literal_itself c)

-- ---- between lists by recursion and by index

literals_each : (P : Literal → Type 0) (c : Cube) → All P c → EachLiteral P c
literals_each P [] h = tt
literals_each P (l ∷ c) h = (h 0 l (omega arith), literals_each P c (λ k d lt. h (suc k) d (omega arith)))

literals_all : (P : Literal → Type 0) (c : Cube) → EachLiteral P c → All P c
literals_all P [] h k d lt = absurd (omega arith)
literals_all P (l ∷ c) h zero d lt = h.0
literals_all P (l ∷ c) h (suc k) d lt = literals_all P c h.1 k d (omega arith)

cubes_all : (P : Cube → Type 0) (cs : List Cube) → Each P cs → All P cs
cubes_all P [] h k d lt = absurd (omega arith)
cubes_all P (c ∷ cs) h zero d lt = h.0
cubes_all P (c ∷ cs) h (suc k) d lt = cubes_all P cs h.1 k d (omega arith)

contains_in : (c : Cube) (l : Literal) → In c l → Contains c l
contains_in [] l h = absurd h
contains_in (m ∷ c) l (inl e) = (0, omega arith, e)
contains_in (m ∷ c) l (inr h) =
    let k = contains_in c l h in
    (suc k.0, omega (arith, k.1), k.2)

some_contained : (P : Cube → Type 0) (cs : List Cube) → Some P cs → (d : Cube) × Contains cs d × P d
some_contained P [] h = absurd h
some_contained P (c ∷ cs) (inl h) = (c, (0, omega arith, refl), h)
some_contained P (c ∷ cs) (inr h) =
    let rest = some_contained P cs h in
    (rest.0, (suc rest.1.0, omega (arith, rest.1.1), rest.1.2), rest.2)

-- ---- the law

module _ (n : ℕ) (g : Formula) (below : IsBelow n g) where
  implies_again : (c : Cube) → IsImplicant g c → Implies (row_truth n (named_below n g) g) (named_below n g) c
  implies_again c h set holds = row_tells n g below set ∙ h set (literals_all (Holds set) c holds)

  one_prime : (c : Cube) → Implies (row_truth n (named_below n g) g) (named_below n g) c × Minimal (row_truth n (named_below n g) g) (named_below n g) c → IsPrime g c
  one_prime c h = record {
    implicant = λ set holds. sym (row_tells n g below set) ∙ h.0 set (literals_each (Holds set) c holds);
    least = λ k lt less. h.1 k lt (implies_again (remove c k) less);
  }

  whole_given : (c : Cube) (set : List Bool) → CubeHolds set c → IsImplicant g c → (d : Cube) × Contains (prime_implicants n g) d × IsPart d c
  whole_given c set holds h =
      let known = known_true (known_of c) (named_below n g) (row_truth n (named_below n g) g) (features_apart n g)
      (λ s done. implies_again c h s (completed set c (literals_each (Holds set) c holds) s done)) in
      let one = some_contained (EachLiteral (IsKnown (known_of c))) (prime_implicants n g) known in
      (one.0, one.1, literals_all (Contains c) one.0 (literal_weaker (IsKnown (known_of c)) (Contains c) (λ l e. contains_in c l (known_in c l e)) one.0 one.2))

pub splitting_gives_primes : SplittingGivesPrimes
splitting_gives_primes n g below = record {
  primes = cubes_all (IsPrime g) (prime_implicants n g) (each_weaker
      (λ c. Implies (row_truth n (named_below n g) g) (named_below n g) c × Minimal (row_truth n (named_below n g) g) (named_below n g) c) (IsPrime g) (one_prime n g below) (prime_implicants n g)
      (each_both (Implies (row_truth n (named_below n g) g) (named_below n g)) (Minimal (row_truth n (named_below n g) g) (named_below n g)) (prime_implicants n g)
      (each_implies (named_below n g) (row_truth n (named_below n g) g)) (each_minimal (named_below n g) (row_truth n (named_below n g) g) (features_apart n g))));
  whole = whole_given n g below;
}
