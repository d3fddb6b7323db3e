-- Chains of two `=>`.
use Rattle.std.proofs.Common.{◌≡◌, ℕ, suc, Bool, true, false, cond, List, [], ◌∷◌, ◌++◌, replicate, refl, ap, ◌∙◌, arith, append_assoc}
use Rattle.std.proofs.lemmas.Bool.Decides.{nat_tests}
use Rattle.std.specs.Prelude.{◌&&◌, ◌==◌, codes}
use Rattle.std.specs.List.{list_all}
use Rattle.vpg_uvl.specs.Arrows.{arrows_from, arrows, is_chained, enclosed_from, enclosed, grouped}
use Rattle.vpg_uvl.specs.Laws.{is_inner, AreInner}

both : (a b : Bool) → (a && b) ≡ true → (a ≡ true) × (b ≡ true)
both true true e = (refl, refl)
both true false e = absurd cc
both false b e = absurd cc

inner_40 : (b : ℕ) → is_inner b ≡ true → (b == 40) ≡ false
inner_40 b e = grind (arith, nat_tests)

inner_41 : (b : ℕ) → is_inner b ≡ true → (b == 41) ≡ false
inner_41 b e = grind (arith, nat_tests)

inner_60 : (b : ℕ) → is_inner b ≡ true → (b == 60) ≡ false
inner_60 b e = grind (arith, nat_tests)

inner_61 : (b : ℕ) → is_inner b ≡ true → (b == 61) ≡ false
inner_61 b e = grind (arith, nat_tests)

inner_62 : (b : ℕ) → is_inner b ≡ true → (b == 62) ≡ false
inner_62 b e = grind (arith, nat_tests)

-- ---- one byte

arrows_inner : (d before b : ℕ) (bs : List ℕ) → is_inner b ≡ true → arrows_from d before (b ∷ bs) ≡ arrows_from d b bs
arrows_inner d before b bs e = rw (inner_40 b e) (rw (inner_41 b e) (rw (inner_61 b e) refl))

chained_inner : (before b : ℕ) (bs : List ℕ) → is_inner b ≡ true → is_chained before (b ∷ bs) ≡ is_chained b bs
chained_inner before b bs e = rw (inner_61 b e) refl

enclosed_inner : (earlier before b : ℕ) (bs : List ℕ) → is_inner b ≡ true → enclosed_from earlier before (b ∷ bs) ≡ b ∷ enclosed_from before b bs
enclosed_inner earlier before b bs e = rw (inner_40 b e) (rw (inner_62 b e) (rw (inner_61 b e) refl))

-- ---- one arrow

arrows_arrow : (before : ℕ) (bs : List ℕ) → (before == 60) ≡ false → arrows_from 0 before (61 ∷ 62 ∷ bs) ≡ suc (arrows_from 0 62 bs)
arrows_arrow before bs e = rw e refl

enclosed_arrow : (earlier before : ℕ) (bs : List ℕ) → (before == 60) ≡ false → enclosed_from earlier before (61 ∷ 62 ∷ bs) ≡ 41 ∷ 61 ∷ 62 ∷ enclosed_from 61 62 bs
enclosed_arrow earlier before bs e = rw e refl

-- ---- several bytes, and a rest

record Skipped (A : Type 0) (read : ℕ → A) (whole : A) : Type 0 where
  last : ℕ
  other : (last == 60) ≡ false
  same : whole ≡ read last

arrows_skip : (before : ℕ) (w rest : List ℕ) → AreInner w → (before == 60) ≡ false → Skipped ℕ (λ last. arrows_from 0 last rest) (arrows_from 0 before (w ++ rest))
arrows_skip before [] rest are e = record { last = before; other = e; same = refl }
arrows_skip before (b ∷ w) rest are e =
    let h = both (is_inner b) (list_all is_inner w) are in
    let later = arrows_skip b w rest h.1 (inner_60 b h.0) in
    record { last = later.last; other = later.other; same = arrows_inner 0 before b (w ++ rest) h.0 ∙ later.same }

arrows_none : (before : ℕ) (w : List ℕ) → AreInner w → arrows_from 0 before w ≡ 0
arrows_none before [] are = refl
arrows_none before (b ∷ w) are =
    let h = both (is_inner b) (list_all is_inner w) are in arrows_inner 0 before b w h.0 ∙ arrows_none b w h.1

chained_skip : (before : ℕ) (w rest : List ℕ) → AreInner w → (before == 60) ≡ false → Skipped Bool (λ last. is_chained last rest) (is_chained before (w ++ rest))
chained_skip before [] rest are e = record { last = before; other = e; same = refl }
chained_skip before (b ∷ w) rest are e =
    let h = both (is_inner b) (list_all is_inner w) are in
    let later = chained_skip b w rest h.1 (inner_60 b h.0) in
    record { last = later.last; other = later.other; same = chained_inner before b (w ++ rest) h.0 ∙ later.same }

-- the bytes, and what an arrow and its rest give
enclosed_skip : (earlier before : ℕ) (w rest : List ℕ) → AreInner w → (before == 60) ≡ false → enclosed_from earlier before (w ++ 61 ∷ 62 ∷ rest) ≡ w ++ 41 ∷ 61 ∷ 62 ∷ enclosed_from 61 62 rest
enclosed_skip earlier before [] rest are e = enclosed_arrow earlier before rest e
enclosed_skip earlier before (b ∷ w) rest are e =
    let h = both (is_inner b) (list_all is_inner w) are in
    enclosed_inner earlier before b (w ++ 61 ∷ 62 ∷ rest) h.0 ∙ ap (λ (bs : List ℕ). b ∷ bs) (enclosed_skip before b w rest h.1 (inner_60 b h.0))

enclosed_none : (earlier before : ℕ) (w : List ℕ) → AreInner w → enclosed_from earlier before w ≡ w
enclosed_none earlier before [] are = refl
enclosed_none earlier before (b ∷ w) are =
    let h = both (is_inner b) (list_all is_inner w) are in
    enclosed_inner earlier before b w h.0 ∙ ap (λ (bs : List ℕ). b ∷ bs) (enclosed_none before b w h.1)

module _ (x y z : List ℕ) (in_x : AreInner x) (in_y : AreInner y) (in_z : AreInner z) where
  one_behind : arrows_from 0 62 (y ++ 61 ∷ 62 ∷ z) ≡ 1
  one_behind =
      let s = arrows_skip 62 y (61 ∷ 62 ∷ z) in_y refl in
      s.same ∙ arrows_arrow s.last z s.other ∙ ap suc (arrows_none 62 z in_z)

  two : arrows (x ++ 61 ∷ 62 ∷ (y ++ 61 ∷ 62 ∷ z)) ≡ 2
  two =
      let s = arrows_skip 0 x (61 ∷ 62 ∷ (y ++ 61 ∷ 62 ∷ z)) in_x refl in
      s.same ∙ arrows_arrow s.last (y ++ 61 ∷ 62 ∷ z) s.other ∙ ap suc one_behind

  chained_here : (before : ℕ) → (before == 60) ≡ false → is_chained before (61 ∷ 62 ∷ (y ++ 61 ∷ 62 ∷ z)) ≡ true
  chained_here before e = rw e (rw one_behind refl)

  chained : is_chained 0 (x ++ 61 ∷ 62 ∷ (y ++ 61 ∷ 62 ∷ z)) ≡ true
  chained =
      let s = chained_skip 0 x (61 ∷ 62 ∷ (y ++ 61 ∷ 62 ∷ z)) in_x refl in
      s.same ∙ chained_here s.last s.other

  enclosed_is : enclosed (x ++ 61 ∷ 62 ∷ (y ++ 61 ∷ 62 ∷ z)) ≡ 40 ∷ 40 ∷ (x ++ 41 ∷ 61 ∷ 62 ∷ (y ++ 41 ∷ 61 ∷ 62 ∷ z))
  enclosed_is =
      ap (λ (n : ℕ). replicate n 40 ++ enclosed_from 0 0 (x ++ 61 ∷ 62 ∷ (y ++ 61 ∷ 62 ∷ z))) two
      ∙ ap (λ (bs : List ℕ). 40 ∷ 40 ∷ bs)
      (enclosed_skip 0 0 x (y ++ 61 ∷ 62 ∷ z) in_x refl
      ∙ ap (λ (bs : List ℕ). x ++ 41 ∷ 61 ∷ 62 ∷ bs) (enclosed_skip 61 62 y z in_y refl ∙ ap (λ (bs : List ℕ). y ++ 41 ∷ 61 ∷ 62 ∷ bs) (enclosed_none 61 62 z in_z)))

  text_is : (a : List ℕ) → x ++ a ++ y ++ a ++ z ≡ x ++ (a ++ (y ++ (a ++ z)))
  text_is a = simp append_assoc

  writing_is : (o c : List ℕ) → o ++ (x ++ (c ++ (y ++ (c ++ z)))) ≡ o ++ x ++ c ++ y ++ c ++ z
  writing_is o c = simp append_assoc

  pub chain_is : grouped (x ++ codes "=>" ++ y ++ codes "=>" ++ z) ≡ codes "((" ++ x ++ codes ")=>" ++ y ++ codes ")=>" ++ z
  chain_is =
      ap grouped (text_is (codes "=>"))
      ∙ ap (λ (b : Bool). cond b (enclosed (x ++ 61 ∷ 62 ∷ (y ++ 61 ∷ 62 ∷ z))) (x ++ 61 ∷ 62 ∷ (y ++ 61 ∷ 62 ∷ z))) chained
      ∙ enclosed_is
      ∙ writing_is (codes "((") (codes ")=>")
