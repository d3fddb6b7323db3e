-- Cubes of a list of which something is true: each of them, or some of them.
use Rattle.std.proofs.lemmas.Bool.Decides.{Decides-eqb}
use Rattle.std.proofs.Common.{◌≡◌, ap₂, ℕ, Bool, true, false, List, [], ◌∷◌, ◌++◌, refl, sym, ap, subst, inl, inr, ◌⊎◌}
use Rattle.std.specs.Prelude.{◌&&◌, ◌||◌, not, filter, nat_eq}
use Rattle.std.specs.Cmp.Lexicographic.{pointwise}
use Rattle.std.specs.Bool.{Decides, beq}
use Rattle.std.proofs.lemmas.Slice.Eq.{slice_eq-Decides}
use Rattle.vpg_blake.specs.Blake.{Cube, is_same_literal, has_cube, unshared, with_literal, merged}
use Rattle.vpg_blake.specs.declared.literal.Literal.{Literal}

abbrev pub literal : ℕ → Bool → Literal
literal x v = record { feature = x; value = v }

-- of each cube, of some cube
abbrev pub Each : (Cube → Type 0) → List Cube → Type 0
Each P [] = Unit {0}
Each P (c ∷ cs) = P c × Each P cs

abbrev pub Some : (Cube → Type 0) → List Cube → Type 0
Some P [] = ⊥
Some P (c ∷ cs) = P c ⊎ Some P cs

-- of each literal of a cube, of some literal
abbrev pub EachLiteral : (Literal → Type 0) → Cube → Type 0
EachLiteral P [] = Unit {0}
EachLiteral P (l ∷ c) = P l × EachLiteral P c

abbrev pub SomeLiteral : (Literal → Type 0) → Cube → Type 0
SomeLiteral P [] = ⊥
SomeLiteral P (l ∷ c) = P l ⊎ SomeLiteral P c

module _ (P : Cube → Type 0) where
  pub each_always : ((c : Cube) → P c) → (cs : List Cube) → Each P cs
  each_always h [] = tt
  each_always h (c ∷ cs) = (h c, each_always h cs)

  pub each_append : (cs ds : List Cube) → Each P cs → Each P ds → Each P (cs ++ ds)
  each_append [] ds h k = k
  each_append (c ∷ cs) ds h k = (h.0, each_append cs ds h.1 k)

  pub each_kept : (test : Cube → Bool) (cs : List Cube) → Each P cs → Each P (filter test cs)
  each_kept test [] h = tt
  each_kept test (c ∷ cs) h = kept (test c) refl (each_kept test cs h.1)
    where
      kept : (b : Bool) → test c ≡ b → Each P (filter test cs) → Each P (filter test (c ∷ cs))
      kept true e k = rw e (h.0, k)
      kept false e k = rw e k

  pub each_longer : (l : Literal) (cs : List Cube) → Each (λ c. P (l ∷ c)) cs → Each P (with_literal l cs)
  each_longer l [] h = tt
  each_longer l (c ∷ cs) h = (h.0, each_longer l cs h.1)

  pub some_left : (cs ds : List Cube) → Some P cs → Some P (cs ++ ds)
  some_left [] ds h = absurd h
  some_left (c ∷ cs) ds (inl h) = inl h
  some_left (c ∷ cs) ds (inr h) = inr (some_left cs ds h)

  pub some_right : (cs ds : List Cube) → Some P ds → Some P (cs ++ ds)
  some_right [] ds h = h
  some_right (c ∷ cs) ds h = inr (some_right cs ds h)

  pub some_longer : (l : Literal) (cs : List Cube) → Some (λ c. P (l ∷ c)) cs → Some P (with_literal l cs)
  some_longer l [] h = absurd h
  some_longer l (c ∷ cs) (inl h) = inl h
  some_longer l (c ∷ cs) (inr h) = inr (some_longer l cs h)

pub each_weaker : (P Q : Cube → Type 0) → ((c : Cube) → P c → Q c) → (cs : List Cube) → Each P cs → Each Q cs
each_weaker P Q f [] h = tt
each_weaker P Q f (c ∷ cs) h = (f c h.0, each_weaker P Q f cs h.1)

pub some_weaker : (P Q : Cube → Type 0) → ((c : Cube) → P c → Q c) → (cs : List Cube) → Some P cs → Some Q cs
some_weaker P Q f [] h = absurd h
some_weaker P Q f (c ∷ cs) (inl h) = inl (f c h)
some_weaker P Q f (c ∷ cs) (inr h) = inr (some_weaker P Q f cs h)

-- something of each, and something of some
pub each_some : (P Q : Cube → Type 0) (R : Type 0) → ((c : Cube) → P c → Q c → R) → (cs : List Cube) → Each P cs → Some Q cs → R
each_some P Q R f [] h k = absurd k
each_some P Q R f (c ∷ cs) h (inl k) = f c h.0 k
each_some P Q R f (c ∷ cs) h (inr k) = each_some P Q R f cs h.1 k

-- ---- which cubes are the same

pub same_value : (a b : Bool) → Decides (beq a b) (a ≡ b)
same_value true true = (λ e. refl, λ e. refl)
same_value true false = (λ e. absurd cc, λ e. absurd cc)
same_value false true = (λ e. absurd cc, λ e. absurd cc)
same_value false false = (λ e. refl, λ e. refl)

pub and_parts : (a b : Bool) → (a && b) ≡ true → (a ≡ true) × (b ≡ true)
and_parts true b e = (refl, e)
and_parts false b e = absurd cc

pub and_both : (a b : Bool) → a ≡ true → b ≡ true → (a && b) ≡ true
and_both true b e f = f
and_both false b e f = absurd cc

pub same_literal : (a b : Literal) → Decides (is_same_literal a b) (a ≡ b)
same_literal a b = (is, back)
  where
    number : Decides (nat_eq a.feature b.feature) (a.feature ≡ b.feature)
    number = Decides-eqb a.feature b.feature

    value : Decides (beq a.value b.value) (a.value ≡ b.value)
    value = same_value a.value b.value

    is : is_same_literal a b ≡ true → a ≡ b
    is e =
        let both = and_parts (nat_eq a.feature b.feature) (beq a.value b.value) e in
        ap₂ (λ (f : ℕ) (v : Bool). literal f v) (number.0 both.0) (value.0 both.1)

    back : a ≡ b → is_same_literal a b ≡ true
    back e =
        and_both (nat_eq a.feature b.feature) (beq a.value b.value)
        (number.1 (ap (λ (l : Literal). l.feature) e)) (value.1 (ap (λ (l : Literal). l.value) e))

same_cube : (c d : Cube) → pointwise is_same_literal d c ≡ true → d ≡ c
same_cube c d e = (slice_eq-Decides same_literal d c (pointwise is_same_literal d c) refl).0 e

pub same_cube_back : (d : Cube) → pointwise is_same_literal d d ≡ true
same_cube_back d = (slice_eq-Decides same_literal d d (pointwise is_same_literal d d) refl).1 refl

-- what is true of a cube that is among others is true of some of them
some_among : (P : Cube → Type 0) (shared : List Cube) (c : Cube) → has_cube shared c ≡ true → P c → Some P shared
some_among P [] c e h = absurd cc
some_among P (d ∷ ds) c e h = at (pointwise is_same_literal d c) refl (λ rest. some_among P ds c rest h) e
  where
    at : (b : Bool) → pointwise is_same_literal d c ≡ b → (has_cube ds c ≡ true → Some P ds) → (b || has_cube ds c) ≡ true → Some P (d ∷ ds)
    at true is rest all = inl (subst P (sym (same_cube c d is)) h)
    at false is rest all = inr (rest all)

pub some_without : (P : Cube → Type 0) (cs shared : List Cube) → Some P cs → Some P (unshared cs shared) ⊎ Some P shared
some_without P [] shared h = absurd h
some_without P (c ∷ cs) shared (inl h) = at (has_cube shared c) refl
  where
    at : (b : Bool) → has_cube shared c ≡ b → Some P (unshared (c ∷ cs) shared) ⊎ Some P shared
    at true e = inr (some_among P shared c e h)
    at false e = inl (rw e (inl h))
some_without P (c ∷ cs) shared (inr h) = at (has_cube shared c) refl (some_without P cs shared h)
  where
    at : (b : Bool) → has_cube shared c ≡ b → Some P (unshared cs shared) ⊎ Some P shared → Some P (unshared (c ∷ cs) shared) ⊎ Some P shared
    at b e (inr k) = inr k
    at true e (inl k) = inl (rw e k)
    at false e (inl k) = inl (rw e (inr k))

-- ---- what is true of the cubes on both sides of a feature

module _ (P : Cube → Type 0) (x : ℕ) (ins outs shared : List Cube) where
  pub merged_each : Each (λ c. P (literal x true ∷ c)) ins → Each (λ c. P (literal x false ∷ c)) outs → Each P shared → Each P (merged x ins outs shared)
  merged_each h k m =
      let front = with_literal (literal x true) (unshared ins shared) in
      let back = with_literal (literal x false) (unshared outs shared) in
      each_append P front (back ++ shared)
      (each_longer P (literal x true) (unshared ins shared) (each_kept (λ c. P (literal x true ∷ c)) (λ c. not (has_cube shared c)) ins h))
      (each_append P back shared
      (each_longer P (literal x false) (unshared outs shared) (each_kept (λ c. P (literal x false ∷ c)) (λ c. not (has_cube shared c)) outs k)) m)

module _ (G : Literal → Type 0) (x : ℕ) (ins outs shared : List Cube) where
  pub merged_shared : Some (EachLiteral G) shared → Some (EachLiteral G) (merged x ins outs shared)
  merged_shared h =
      let back = with_literal (literal x false) (unshared outs shared) in
      some_right (EachLiteral G) (with_literal (literal x true) (unshared ins shared)) (back ++ shared) (some_right (EachLiteral G) back shared h)

  longer : (v : Bool) (cs : List Cube) → G (literal x v) → Some (EachLiteral G) cs → Some (EachLiteral G) (with_literal (literal x v) cs)
  longer v cs g h =
      some_longer (EachLiteral G) (literal x v) cs
      (some_weaker (EachLiteral G) (λ c. EachLiteral G (literal x v ∷ c)) (λ c k. (g, k)) cs h)

  pub merged_in : G (literal x true) → Some (EachLiteral G) ins → Some (EachLiteral G) (merged x ins outs shared)
  merged_in g h = at (some_without (EachLiteral G) ins shared h)
    where
      at : Some (EachLiteral G) (unshared ins shared) ⊎ Some (EachLiteral G) shared → Some (EachLiteral G) (merged x ins outs shared)
      at (inl k) =
          let back = with_literal (literal x false) (unshared outs shared) in
          some_left (EachLiteral G) (with_literal (literal x true) (unshared ins shared)) (back ++ shared) (longer true (unshared ins shared) g k)
      at (inr k) = merged_shared k

  pub merged_out : G (literal x false) → Some (EachLiteral G) outs → Some (EachLiteral G) (merged x ins outs shared)
  merged_out g h = at (some_without (EachLiteral G) outs shared h)
    where
      at : Some (EachLiteral G) (unshared outs shared) ⊎ Some (EachLiteral G) shared → Some (EachLiteral G) (merged x ins outs shared)
      at (inl k) =
          let back = with_literal (literal x false) (unshared outs shared) in
          some_right (EachLiteral G) (with_literal (literal x true) (unshared ins shared)) (back ++ shared)
          (some_left (EachLiteral G) back shared (longer false (unshared outs shared) g k))
      at (inr k) = merged_shared k
