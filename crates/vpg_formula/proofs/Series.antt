-- A series is read as it is spelled, both ways.
use Rattle.std.proofs.Common.{◌≡◌, ℕ, zero, suc, ◌-◌, ◌<◌, ◌≤◌, Bool, true, false, cond, List, [], ◌∷◌, ◌++◌, length, Option, Some, None, refl, sym, ap, subst, ◌∙◌, inl, inr, arith, ◌⊎◌, append_assoc}
use Rattle.std.specs.Str.{bytes_eq}
use Rattle.std.proofs.lemmas.List.{length-append}
use Rattle.vpg_features.proofs.Held.{eq_bytes, same_bytes}
use Rattle.vpg_formula.specs.RegularGrammar.{Series, one, more as next}
use Rattle.vpg_formula.specs.Reading.{Read, ◌>>=◌, after_word, choice, more, series_at}

-- ---- steps that found something

pub bind_some : {A B : Type 0} (o : Option A) (f : A → Option B) (y : B) → (o >>= f) ≡ Some y → (x : A) × (o ≡ Some x) × (f x ≡ Some y)
bind_some None f y e = absurd cc
bind_some (Some x) f y e = (x, refl, e)

pub choice_some : {B : Type 0} (o : Option (List (List ℕ))) (f : List (List ℕ) → Option B) (r : Option B) (y : B) → choice o f r ≡ Some y
    → ((ws : List (List ℕ)) × (o ≡ Some ws) × (f ws ≡ Some y)) ⊎ ((o ≡ None) × (r ≡ Some y))
choice_some None f r y e = inr (refl, e)
choice_some (Some ws) f r y e = inl (ws, refl, e)

abbrev pub some : {A : Type 0} → A → Option A
some x = Some x

pub some_is : {A : Type 0} (x y : A) → some x ≡ some y → x ≡ y
some_is x y e = cc

-- ---- signs

-- what is found behind a sign
pub word_behind : (sign : List ℕ) (ws rest : List (List ℕ)) → after_word sign ws ≡ Some rest → ws ≡ sign ∷ rest
word_behind sign [] rest e = absurd cc
word_behind sign (w ∷ ws) rest e = go (bytes_eq w sign) (eq_bytes w sign) e
  where
    go : (t : Bool) → (t ≡ true → w ≡ sign) → cond t (Some ws) None ≡ Some rest → w ∷ ws ≡ sign ∷ rest
    go true is e = let here : w ≡ sign = is refl in let there : ws ≡ rest = cc in cc
    go false is e = absurd cc

pub word_next : (sign : List ℕ) (ws : List (List ℕ)) → after_word sign (sign ∷ ws) ≡ Some ws
word_next sign ws = ap (λ (t : Bool). cond t (Some ws) None) (same_bytes sign sign refl)

-- ---- series

-- a reader finds only items
abbrev pub Finds : {A : Type 0} → (List (List ℕ) → A → Type 0) → Read A → Type 0
Finds {A} Item read = (ws : List (List ℕ)) (x : A × List (List ℕ)) → read ws ≡ Some x → (us : List (List ℕ)) × Item us x.0 × (ws ≡ us ++ x.1)

-- a reader reads each item, where what follows is as it should be
abbrev pub Rereads : {A : Type 0} → (List (List ℕ) → A → Type 0) → (A → List (List ℕ) → Type 0) → Read A → Type 0
Rereads {A} Item Follows read = (us rest : List (List ℕ)) (x : A) → Item us x → Follows x rest → read (us ++ rest) ≡ Some (x, rest)

module _ {A : Type 0} (Item : List (List ℕ) → A → Type 0) (read : Read A) (sign : List ℕ) (join : A → A → Option A) where
  regroup : (us vs ws : List (List ℕ)) (rest : List (List ℕ)) (all : List (List ℕ)) → all ≡ us ++ ws → ws ≡ sign ∷ (vs ++ rest) → all ≡ (us ++ sign ∷ vs) ++ rest
  regroup us vs ws rest all e f = e ∙ ap (λ (t : List (List ℕ)). us ++ t) f ∙ sym (append_assoc us (sign ∷ vs) rest)

  more_found : Finds Item read → (n : ℕ) (all us ws : List (List ℕ)) (x : A) (y : A × List (List ℕ)) → Series Item sign join us x → all ≡ us ++ ws → more read sign join n x ws ≡ Some y
      → (vs : List (List ℕ)) × Series Item sign join vs y.0 × (all ≡ vs ++ y.1)
  unfolding more
  more_found finds zero all us ws x y s e f =
      let same : (x, ws) ≡ y = some_is (x, ws) y f in
      subst (λ (z : A × List (List ℕ)). (vs : List (List ℕ)) × Series Item sign join vs z.0 × (all ≡ vs ++ z.1)) same (us, s, e)
  more_found finds (suc n) all us ws x y s e f = go (choice_some (after_word sign ws) (λ rest. read rest >>= λ y. join x y.0 >>= λ z. more read sign join n z y.1) (Some (x, ws)) y f) (λ us ws z t d g. more_found finds n all us ws z y t d g)
    where
      go : ((rest : List (List ℕ)) × (after_word sign ws ≡ Some rest) × ((read rest >>= λ y. join x y.0 >>= λ z. more read sign join n z y.1) ≡ Some y)) ⊎ ((after_word sign ws ≡ None) × (some (x, ws) ≡ Some y))
          → ((us ws : List (List ℕ)) (z : A) → Series Item sign join us z → all ≡ us ++ ws → more read sign join n z ws ≡ Some y → (vs : List (List ℕ)) × Series Item sign join vs y.0 × (all ≡ vs ++ y.1))
          → (vs : List (List ℕ)) × Series Item sign join vs y.0 × (all ≡ vs ++ y.1)
      go (inr (none, f)) later =
          let same : (x, ws) ≡ y = some_is (x, ws) y f in
          subst (λ (z : A × List (List ℕ)). (vs : List (List ℕ)) × Series Item sign join vs z.0 × (all ≡ vs ++ z.1)) same (us, s, e)
      go (inl (rest, here, f)) later =
          let h = bind_some (read rest) (λ y. join x y.0 >>= λ z. more read sign join n z y.1) y f in
          let j = bind_some (join x h.0.0) (λ z. more read sign join n z h.0.1) y h.2 in
          let i = finds rest h.0 h.1 in
          later (us ++ sign ∷ i.0) h.0.1 j.0 (next s i.1 j.1) (regroup us i.0 ws h.0.1 all e (word_behind sign ws rest here ∙ ap (λ (t : List (List ℕ)). sign ∷ t) i.2)) j.2

  pub series_found : Finds Item read → Finds (Series Item sign join) (series_at read sign join)
  unfolding series_at
  series_found finds ws y e =
      let h = bind_some (read ws) (λ x. more read sign join (length x.1) x.0 x.1) y e in
      let i = finds ws h.0 h.1 in
      more_found finds (length h.0.1) ws i.0 h.0.1 h.0.0 y (one i.1) i.2 h.2

  -- without a sign nothing more is read
  pub more_stops : (n : ℕ) (x : A) (ws : List (List ℕ)) → after_word sign ws ≡ None → more read sign join n x ws ≡ Some (x, ws)
  unfolding more
  more_stops zero x ws e = refl
  more_stops (suc n) x ws e = ap (λ (o : Option (List (List ℕ))). choice o (λ rest. read rest >>= λ y. join x y.0 >>= λ z. more read sign join n z y.1) (Some (x, ws))) e

  -- behind a sign one item is read, and then the others
  pub more_goes : (n : ℕ) (x y z : A) (ws behind rest : List (List ℕ)) → 0 < n → after_word sign ws ≡ Some behind → read behind ≡ Some (y, rest) → join x y ≡ Some z
      → more read sign join n x ws ≡ more read sign join (n - 1) z rest
  unfolding more
  more_goes zero x y z ws behind rest lt e f g = absurd (omega arith)
  more_goes (suc n) x y z ws behind rest lt e f g =
      let less : suc n - 1 ≡ n = omega arith in
      rw less (ap (λ (o : Option (List (List ℕ))). choice o (λ rest. read rest >>= λ y. join x y.0 >>= λ z. more read sign join n z y.1) (Some (x, ws))) e
      ∙ ap (λ (o : Option (A × List (List ℕ))). o >>= λ y. join x y.0 >>= λ z. more read sign join n z y.1) f
      ∙ ap (λ (o : Option A). o >>= λ z. more read sign join n z rest) g)

  -- where the reading of a series has come to
  At : List (List ℕ) → List (List ℕ) → A → Type 0
  At us rest x = (n : ℕ) × (length rest ≤ n) × (series_at read sign join (us ++ rest) ≡ more read sign join n x rest)

  -- the sign and an item may follow what they can be joined to, and what may follow the whole may follow the last item
  module _ (Follows : A → List (List ℕ) → Type 0) (rereads : Rereads Item Follows read)
      (signs : (us rest : List (List ℕ)) (x y z : A) → join x y ≡ Some z → Item us y → Follows x (sign ∷ (us ++ rest)))
      (last : (rest : List (List ℕ)) (x y z : A) → join x y ≡ Some z → Follows z rest → Follows y rest) where
    comes : (us rest : List (List ℕ)) (x : A) → Series Item sign join us x → Follows x rest → At us rest x
    unfolding At series_at
    comes us rest x (one i) f = (length rest, omega arith, ap (λ (o : Option (A × List (List ℕ))). o >>= λ x. more read sign join (length x.1) x.0 x.1) (rereads us rest x i f))
    comes ws rest z (next {us = us} {ws = vs} {x = x} {y = y} s i j) f =
        let behind = vs ++ rest in
        let h : At us (sign ∷ behind) x = comes us (sign ∷ behind) x s (signs vs rest x y z j i) in
        let long : suc (length behind) ≤ h.0 = h.1 in
        (h.0 - 1, omega (arith, length-append vs rest), ap (series_at read sign join) (append_assoc us (sign ∷ vs) rest) ∙ h.2 ∙ more_goes h.0 x y z (sign ∷ behind) behind rest (omega arith) (word_next sign behind) (rereads vs rest y i (last rest x y z j f)) j)

    pub series_rereads : Rereads (Series Item sign join) (λ x rest. Follows x rest × (after_word sign rest ≡ None)) (series_at read sign join)
    unfolding At
    series_rereads us rest x s f =
        let h = comes us rest x s f.0 in
        h.2 ∙ more_stops h.0 x rest f.1
