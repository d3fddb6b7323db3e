-- The cubes that splitting gives are the prime implicants.
use Rattle.std.proofs.Common.{◌≡◌, ◌≢◌, ℕ, zero, suc, ◌<◌, Bool, true, false, List, [], ◌∷◌, ◌++◌, length, refl, sym, ap, ap₂, subst, ◌∙◌, arith, inl, inr, ◌⊎◌}
use Rattle.std.specs.Prelude.{◌||◌, remove}
use Rattle.std.specs.Cmp.Lexicographic.{pointwise}
use Rattle.vpg_blake.specs.Blake.{Cube, implicants, is_same_literal, has_cube, unshared, with_literal}
use Rattle.vpg_blake.specs.declared.literal.Literal.{Literal}
use Rattle.vpg_blake.proofs.Cubes.{literal, Each, Some, EachLiteral, SomeLiteral, each_append, each_longer, each_weaker, each_some, some_weaker, and_both, merged_each, merged_in, merged_out, merged_shared, same_cube_back}
use Rattle.vpg_blake.proofs.Primes.{Lacks, Apart, row_of, Holds, with_in, with_out, with_either, leaf_each, leaf_some, either_way, sound, put, put_same, put_other, row_put}

-- the cube is over the list: its literals are of features of the list, in the list's order
abbrev pub Over : List ℕ → Cube → Type 0
Over [] c = c ≡ []
Over (x ∷ xs) c = ((v : Bool) × (rest : Cube) × (c ≡ literal x v ∷ rest) × Over xs rest) ⊎ Over xs c

-- where the cube holds, the function is true
abbrev pub Implies : (List Bool → Bool) → List ℕ → Cube → Type 0
Implies f xs c = (set : List Bool) → EachLiteral (Holds set) c → f (row_of xs set) ≡ true

abbrev pub Minimal : (List Bool → Bool) → List ℕ → Cube → Type 0
Minimal f xs c = (k : ℕ) → k < length c → Implies f xs (remove c k) → ⊥

-- the literal is one of the cube's
abbrev pub In : Cube → Literal → Type 0
In c l = SomeLiteral (λ m. m ≡ l) c

-- ---- literals

pub literal_weaker : (P Q : Literal → Type 0) → ((l : Literal) → P l → Q l) → (c : Cube) → EachLiteral P c → EachLiteral Q c
literal_weaker P Q f [] h = tt
literal_weaker P Q f (l ∷ c) h = (f l h.0, literal_weaker P Q f c h.1)

-- of each literal, so of one of them
pub literal_at : (P : Literal → Type 0) (c : Cube) (l : Literal) → EachLiteral P c → In c l → P l
literal_at P [] l h k = absurd k
literal_at P (m ∷ c) l h (inl e) = subst P e h.0
literal_at P (m ∷ c) l h (inr k) = literal_at P c l h.1 k

literal_removed : (P : Literal → Type 0) (c : Cube) (k : ℕ) → EachLiteral P c → EachLiteral P (remove c k)
literal_removed P [] zero h = tt
literal_removed P [] (suc k) h = tt
literal_removed P (l ∷ c) zero h = h.1
literal_removed P (l ∷ c) (suc k) h = (h.0, literal_removed P c k h.1)

abbrev Without : ℕ → Cube → Type 0
Without x c = EachLiteral (λ l. l.feature ≢ x) c

over_lacks : (x : ℕ) (xs : List ℕ) (c : Cube) → Lacks x xs → Over xs c → Without x c
over_lacks x [] c h o = subst (Without x) (sym o) tt
over_lacks x (y ∷ ys) c h (inl o) = subst (Without x) (sym o.2) (h.0, over_lacks x ys o.1 h.1 o.3)
over_lacks x (y ∷ ys) c h (inr o) = over_lacks x ys c h.1 o

holds_put : (x : ℕ) (v : Bool) (set : List Bool) (c : Cube) → Without x c → EachLiteral (Holds set) c → EachLiteral (Holds (put x v set)) c
holds_put x v set [] h k = tt
holds_put x v set (l ∷ c) h k = (put_other x l.feature v set h.0 ∙ k.0, holds_put x v set c h.1 k.1)

-- ---- what a cube without the first feature implies

module _ (x : ℕ) (xs : List ℕ) (f : List Bool → Bool) (lacks : Lacks x xs) where
  -- it implies the function at either value
  implies_at : (v : Bool) (c : Cube) → Without x c → Implies f (x ∷ xs) c → (set : List Bool) → EachLiteral (Holds set) c → f (v ∷ row_of xs set) ≡ true
  implies_at v c other h set holds =
      subst (λ (row : List Bool). f (v ∷ row) ≡ true) (row_put x v xs set lacks)
      (subst (λ (b : Bool). f (b ∷ row_of xs (put x v set)) ≡ true) (put_same x v set) (h (put x v set) (holds_put x v set c other holds)))

  implies_either : (c : Cube) → Without x c → Implies f (x ∷ xs) c → Implies (with_either f) xs c
  implies_either c other h set holds =
      and_both (f (true ∷ row_of xs set)) (f (false ∷ row_of xs set)) (implies_at true c other h set holds) (implies_at false c other h set holds)

  -- one with the feature implies the function at its value
  implies_rest : (v : Bool) (c : Cube) → Without x c → Implies f (x ∷ xs) (literal x v ∷ c) → (set : List Bool) → EachLiteral (Holds set) c → f (v ∷ row_of xs set) ≡ true
  implies_rest v c other h set holds =
      subst (λ (row : List Bool). f (v ∷ row) ≡ true) (row_put x v xs set lacks)
      (subst (λ (b : Bool). f (b ∷ row_of xs (put x v set)) ≡ true) (put_same x v set)
      (h (put x v set) (put_same x v set, holds_put x v set c other holds)))

-- ---- each implicant has one of the cubes as a part

part_weaker : (c d : Cube) (l : Literal) → EachLiteral (In c) d → EachLiteral (In (l ∷ c)) d
part_weaker c d l h = literal_weaker (In c) (In (l ∷ c)) (λ m k. inr k) d h

pub has_part : (xs : List ℕ) (f : List Bool → Bool) (c : Cube) → Apart xs → Over xs c → Implies f xs c → Some (EachLiteral (In c)) (implicants xs f)
has_part [] f c apart o h =
    leaf_some (EachLiteral (In c)) (f []) (h [] (subst (EachLiteral (Holds [])) (sym o) tt)) tt
has_part (x ∷ xs) f c apart (inl o) h =
    subst (λ (d : Cube). Some (EachLiteral (In d)) (implicants (x ∷ xs) f)) (sym o.2)
    (at o.0 (subst (Implies f (x ∷ xs)) o.2 h) (has_part xs (with_in f) o.1 apart.1 o.3) (has_part xs (with_out f) o.1 apart.1 o.3))
  where
    rest : Cube
    rest = o.1

    at : (v : Bool) → Implies f (x ∷ xs) (literal x v ∷ o.1) → (Implies (with_in f) xs o.1 → Some (EachLiteral (In o.1)) (implicants xs (with_in f)))
        → (Implies (with_out f) xs o.1 → Some (EachLiteral (In o.1)) (implicants xs (with_out f)))
        → Some (EachLiteral (In (literal x v ∷ o.1))) (implicants (x ∷ xs) f)
    at true k ins outs =
        merged_in (In (literal x true ∷ o.1)) x (implicants xs (with_in f)) (implicants xs (with_out f)) (implicants xs (with_either f)) (inl refl)
        (some_weaker (EachLiteral (In o.1)) (EachLiteral (In (literal x true ∷ o.1))) (λ d p. part_weaker o.1 d (literal x true) p) (implicants xs (with_in f))
        (ins (implies_rest x xs f apart.0 true o.1 (over_lacks x xs o.1 apart.0 o.3) k)))
    at false k ins outs =
        merged_out (In (literal x false ∷ o.1)) x (implicants xs (with_in f)) (implicants xs (with_out f)) (implicants xs (with_either f)) (inl refl)
        (some_weaker (EachLiteral (In o.1)) (EachLiteral (In (literal x false ∷ o.1))) (λ d p. part_weaker o.1 d (literal x false) p) (implicants xs (with_out f))
        (outs (implies_rest x xs f apart.0 false o.1 (over_lacks x xs o.1 apart.0 o.3) k)))
has_part (x ∷ xs) f c apart (inr o) h =
    merged_shared (In c) x (implicants xs (with_in f)) (implicants xs (with_out f)) (implicants xs (with_either f))
    (has_part xs (with_either f) c apart.1 o (implies_either x xs f apart.0 c (over_lacks x xs c apart.0 o) h))

-- ---- a part that is not the whole does without a literal

-- the literals of a cube without the feature are in the rest
rest_has : (x : ℕ) (v : Bool) (c d : Cube) → Without x d → EachLiteral (In (literal x v ∷ c)) d → EachLiteral (In c) d
rest_has x v c [] other h = tt
rest_has x v c (l ∷ d) other h = (at h.0, rest_has x v c d other.1 h.1)
  where
    at : In (literal x v ∷ c) l → In c l
    at (inl e) = absurd (other.0 (sym (ap (λ (m : Literal). m.feature) e)))
    at (inr k) = k

abbrev IsLess : Cube → Cube → Type 0
IsLess d c = (k : ℕ) × (k < length c) × EachLiteral (In (remove c k)) d

same_or_less : (xs : List ℕ) (d c : Cube) → Apart xs → Over xs d → Over xs c → EachLiteral (In c) d → (d ≡ c) ⊎ IsLess d c
same_or_less [] d c apart o p h = inl (o ∙ sym p)
same_or_less (x ∷ xs) d c apart (inl o) (inl p) h =
    both (rest_has x p.0 p.1 o.1 (over_lacks x xs o.1 apart.0 o.3) rest.1) (same_or_less xs o.1 p.1 apart.1 o.3 p.3)
  where
    rest : EachLiteral (In (literal x p.0 ∷ p.1)) (literal x o.0 ∷ o.1)
    rest = subst (λ (a : Cube). EachLiteral (In a) (literal x o.0 ∷ o.1)) p.2 (subst (EachLiteral (In c)) o.2 h)

    value : In (literal x p.0 ∷ p.1) (literal x o.0) → p.0 ≡ o.0
    value (inl e) = ap (λ (m : Literal). m.value) e
    value (inr k) = absurd (literal_at (λ l. l.feature ≢ x) p.1 (literal x o.0) (over_lacks x xs p.1 apart.0 p.3) k refl)

    both : EachLiteral (In p.1) o.1 → (EachLiteral (In p.1) o.1 → (o.1 ≡ p.1) ⊎ IsLess o.1 p.1) → (d ≡ c) ⊎ IsLess d c
    both parts next = turn (next parts)
      where
        turn : (o.1 ≡ p.1) ⊎ IsLess o.1 p.1 → (d ≡ c) ⊎ IsLess d c
        turn (inl e) = inl (o.2 ∙ ap₂ (λ (v : Bool) (a : Cube). literal x v ∷ a) (sym (value rest.0)) e ∙ sym p.2)
        turn (inr k) =
            inr (subst (λ (a : Cube). IsLess d a) (sym p.2) (subst (λ (a : Cube). IsLess a (literal x p.0 ∷ p.1)) (sym o.2)
            (suc k.0, omega (arith, k.1), (inl (ap (λ (v : Bool). literal x v) (value rest.0)), part_weaker (remove p.1 k.0) o.1 (literal x p.0) k.2))))
same_or_less (x ∷ xs) d c apart (inl o) (inr p) h =
    let head : In c (literal x o.0) = (subst (EachLiteral (In c)) o.2 h).0 in
    absurd (literal_at (λ l. l.feature ≢ x) c (literal x o.0) (over_lacks x xs c apart.0 p) head refl)
same_or_less (x ∷ xs) d c apart (inr o) (inl p) h =
    inr (subst (λ (a : Cube). IsLess d a) (sym p.2)
    (0, omega arith, rest_has x p.0 p.1 d (over_lacks x xs d apart.0 o) (subst (λ (a : Cube). EachLiteral (In a) d) p.2 h)))
same_or_less (x ∷ xs) d c apart (inr o) (inr p) h = same_or_less xs d c apart.1 o p h

-- ---- the cubes

pub each_over : (xs : List ℕ) (f : List Bool → Bool) → Each (Over xs) (implicants xs f)
each_over [] f = leaf_each (Over []) (f []) (λ e. refl)
each_over (x ∷ xs) f =
    merged_each (Over (x ∷ xs)) x (implicants xs (with_in f)) (implicants xs (with_out f)) (implicants xs (with_either f))
    (each_weaker (Over xs) (λ c. Over (x ∷ xs) (literal x true ∷ c)) (λ c o. inl (true, c, refl, o)) (implicants xs (with_in f)) (each_over xs (with_in f)))
    (each_weaker (Over xs) (λ c. Over (x ∷ xs) (literal x false ∷ c)) (λ c o. inl (false, c, refl, o)) (implicants xs (with_out f)) (each_over xs (with_out f)))
    (each_weaker (Over xs) (Over (x ∷ xs)) (λ c o. inr o) (implicants xs (with_either f)) (each_over xs (with_either f)))

-- of those that are not among the shared ones
each_without : (P Q : Cube → Type 0) (shared : List Cube) → ((c : Cube) → has_cube shared c ≡ false → P c → Q c) → (cs : List Cube) → Each P cs → Each Q (unshared cs shared)
each_without P Q shared f [] h = tt
each_without P Q shared f (c ∷ cs) h = at (has_cube shared c) refl (each_without P Q shared f cs h.1)
  where
    at : (b : Bool) → has_cube shared c ≡ b → Each Q (unshared cs shared) → Each Q (unshared (c ∷ cs) shared)
    at true e k = rw e k
    at false e k = rw e (f c e h.0, k)

pub each_both : (P Q : Cube → Type 0) (cs : List Cube) → Each P cs → Each Q cs → Each (λ c. P c × Q c) cs
each_both P Q [] h k = tt
each_both P Q (c ∷ cs) h k = ((h.0, k.0), each_both P Q cs h.1 k.1)

each_swap : (P : List Bool → Cube → Type 0) (cs : List Cube) → ((set : List Bool) → Each (P set) cs) → Each (λ c. (set : List Bool) → P set c) cs
each_swap P [] h = tt
each_swap P (c ∷ cs) h = ((λ set. (h set).0), each_swap P cs (λ set. (h set).1))

pub each_implies : (xs : List ℕ) (f : List Bool → Bool) → Each (Implies f xs) (implicants xs f)
each_implies xs f = each_swap (λ set c. EachLiteral (Holds set) c → f (row_of xs set) ≡ true) (implicants xs f) (λ set. sound set xs f)

-- a cube of the list is among them
among_itself : (shared : List Cube) → Each (λ d. has_cube shared d ≡ true) shared
among_itself [] = tt
among_itself (d ∷ ds) =
    (rw (same_cube_back d) refl, each_weaker (λ c. has_cube ds c ≡ true) (λ c. has_cube (d ∷ ds) c ≡ true) (λ c e. later c e) ds (among_itself ds))
  where
    later : (c : Cube) → has_cube ds c ≡ true → has_cube (d ∷ ds) c ≡ true
    later c e = turn (pointwise is_same_literal d c)
      where
        turn : (b : Bool) → (b || has_cube ds c) ≡ true
        turn true = refl
        turn false = e

module _ (x : ℕ) (xs : List ℕ) (f : List Bool → Bool) (apart : Apart (x ∷ xs)) where
  -- a cube that is not shared cannot do without the first feature
  needed : (v : Bool) (c : Cube) → Over xs c → Minimal (λ row. f (v ∷ row)) xs c → has_cube (implicants xs (with_either f)) c ≡ false → Implies f (x ∷ xs) c → ⊥
  needed v c o least absent h =
      each_some (λ d. (has_cube (implicants xs (with_either f)) d ≡ true) × (Over xs d × (Implies (with_either f) xs d))) (EachLiteral (In c)) ⊥ turn
      (implicants xs (with_either f))
      (each_both (λ d. has_cube (implicants xs (with_either f)) d ≡ true) (λ d. Over xs d × (Implies (with_either f) xs d)) (implicants xs (with_either f))
      (among_itself (implicants xs (with_either f)))
      (each_both (Over xs) (Implies (with_either f) xs) (implicants xs (with_either f)) (each_over xs (with_either f)) (each_implies xs (with_either f))))
      (has_part xs (with_either f) c apart.1 o (implies_either x xs f apart.0 c (over_lacks x xs c apart.0 o) h))
    where
      turn : (d : Cube) → (has_cube (implicants xs (with_either f)) d ≡ true) × (Over xs d × (Implies (with_either f) xs d)) → EachLiteral (In c) d → ⊥
      turn d facts part = last (same_or_less xs d c apart.1 facts.1.0 o part)
        where
          last : (d ≡ c) ⊎ IsLess d c → ⊥
          last (inl e) = let there : has_cube (implicants xs (with_either f)) c ≡ true = subst (λ (a : Cube). has_cube (implicants xs (with_either f)) a ≡ true) e facts.0 in cc
          last (inr k) =
              least k.0 k.1 (λ set holds. either_way f (row_of xs set) v (facts.1.1 set
              (literal_weaker (In (remove c k.0)) (Holds set) (λ l p. literal_at (Holds set) (remove c k.0) l holds p) d k.2)))

  longer_minimal : (v : Bool) (c : Cube) → has_cube (implicants xs (with_either f)) c ≡ false → Over xs c × Minimal (λ row. f (v ∷ row)) xs c → Minimal f (x ∷ xs) (literal x v ∷ c)
  longer_minimal v c absent h zero lt implies = needed v c h.0 h.1 absent implies
  longer_minimal v c absent h (suc k) lt implies =
      h.1 k (omega arith) (implies_rest x xs f apart.0 v (remove c k) (literal_removed (λ l. l.feature ≢ x) c k (over_lacks x xs c apart.0 h.0)) implies)

  shared_minimal : (c : Cube) → Over xs c × Minimal (with_either f) xs c → Minimal f (x ∷ xs) c
  shared_minimal c h k lt implies =
      h.1 k lt (implies_either x xs f apart.0 (remove c k) (literal_removed (λ l. l.feature ≢ x) c k (over_lacks x xs c apart.0 h.0)) implies)

-- no literal of a cube may be left out
pub each_minimal : (xs : List ℕ) (f : List Bool → Bool) → Apart xs → Each (Minimal f xs) (implicants xs f)
each_minimal [] f apart = leaf_each (Minimal f []) (f []) (λ e k lt implies. absurd (omega arith))
each_minimal (x ∷ xs) f apart =
    let shared = implicants xs (with_either f) in
    let front = with_literal (literal x true) (unshared (implicants xs (with_in f)) shared) in
    let back = with_literal (literal x false) (unshared (implicants xs (with_out f)) shared) in
    each_append (Minimal f (x ∷ xs)) front (back ++ shared)
    (each_longer (Minimal f (x ∷ xs)) (literal x true) (unshared (implicants xs (with_in f)) shared)
    (each_without (λ c. Over xs c × Minimal (with_in f) xs c) (λ c. Minimal f (x ∷ xs) (literal x true ∷ c)) shared (longer_minimal x xs f apart true) (implicants xs (with_in f))
    (each_both (Over xs) (Minimal (with_in f) xs) (implicants xs (with_in f)) (each_over xs (with_in f)) (each_minimal xs (with_in f) apart.1))))
    (each_append (Minimal f (x ∷ xs)) back shared
    (each_longer (Minimal f (x ∷ xs)) (literal x false) (unshared (implicants xs (with_out f)) shared)
    (each_without (λ c. Over xs c × Minimal (with_out f) xs c) (λ c. Minimal f (x ∷ xs) (literal x false ∷ c)) shared (longer_minimal x xs f apart false) (implicants xs (with_out f))
    (each_both (Over xs) (Minimal (with_out f) xs) (implicants xs (with_out f)) (each_over xs (with_out f)) (each_minimal xs (with_out f) apart.1))))
    (each_weaker (λ c. Over xs c × Minimal (with_either f) xs c) (Minimal f (x ∷ xs)) (shared_minimal x xs f apart) shared
    (each_both (Over xs) (Minimal (with_either f) xs) shared (each_over xs (with_either f)) (each_minimal xs (with_either f) apart.1))))
