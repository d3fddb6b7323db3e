-- What the code has read so far, and what the functions on lists read.
use Rattle.std.proofs.Common.{◌≡◌, ℕ, zero, suc, ◌-◌, ◌<◌, ◌≤◌, Bool, List, [], ◌∷◌, ◌++◌, length, Option, Some, None, refl, sym, ap, ◌∙◌, arith, append_assoc}
use Rattle.vpg_formula.specs.declared.mark.Mark.{Mark}
use Rattle.vpg_formula.specs.declared.stop.Stop.{Stop}
use Rattle.vpg_formula.specs.declared.stop.Stop.TheVariants as stops
use Rattle.vpg_formula.specs.Reading.{Read, ◌>>=◌, after_word, choice, more, series_at}
use Rattle.vpg_formula.specs.ReadCode.{Fails, IsRead}

-- where one reader fails another does
pub fails_too : {A B : Type 0} (e : Stop) (r : Option A) (s : Option B) → (r ≡ None → s ≡ None) → Fails e r → Fails e s
fails_too stops.Memory r s so h = tt
fails_too (stops.Syntax left) r s so h = so h
fails_too (stops.TooDeep left) r s so h = so h

-- how two are joined: the marks, and what the whole has
pub record IsJoined {A : Type 0} (marks : A → List Mark) (has : A → Bool) (join : A → A → Option A) (mark : Mark) (x y : A) (flag : Bool) : Type 0 where
  pub whole : A
  pub is : join x y ≡ Some whole
  pub marks_are : marks whole ≡ marks x ++ (marks y ++ mark ∷ [])
  pub tells : flag ≡ has whole

module _ {A : Type 0} (marks : A → List Mark) (has : A → Bool) (read : Read A) (sign : List ℕ) (join : A → A → Option A) where
  -- where the reading of a series has come to, in how many turns more, and what is put so far
  pub record Comes (old new : List Mark) (ws rest : List (List ℕ)) (flag : Bool) : Type 0 where
    pub turns : ℕ
    pub item : A
    pub long : length rest ≤ turns
    pub is : series_at read sign join ws ≡ more read sign join turns item rest
    pub put : new ≡ old ++ marks item
    pub tells : flag ≡ has item

  pub series_fails : (ws : List (List ℕ)) → read ws ≡ None → series_at read sign join ws ≡ None
  unfolding series_at
  series_fails ws e = ap (λ (o : Option (A × List (List ℕ))). o >>= λ x. more read sign join (length x.1) x.0 x.1) e

  pub comes_first : (old new : List Mark) (ws rest : List (List ℕ)) (flag : Bool) → IsRead marks has old new flag rest (read ws) → Comes old new ws rest flag
  unfolding series_at
  comes_first old new ws rest flag r = record {
    turns = length rest;
    item = r.item;
    long = omega arith;
    is = ap (λ (o : Option (A × List (List ℕ))). o >>= λ x. more read sign join (length x.1) x.0 x.1) r.is;
    put = r.put;
    tells = r.tells;
  }

  -- one turn
  turn : (n : ℕ) (x : A) (rest behind : List (List ℕ)) (o : Option (A × List (List ℕ))) → length rest ≤ n → after_word sign rest ≡ Some behind → read behind ≡ o
      → more read sign join n x rest ≡ (o >>= λ y. join x y.0 >>= λ z. more read sign join (n - 1) z y.1)
  unfolding more
  turn zero x [] behind o l e f = absurd cc
  turn zero x (w ∷ rest) behind o l e f = absurd (omega arith)
  turn (suc n) x rest behind o l e f =
      let less : suc n - 1 ≡ n = omega arith in
      rw less (ap (λ (p : Option (List (List ℕ))). choice p (λ rest. read rest >>= λ y. join x y.0 >>= λ z. more read sign join n z y.1) (Some (x, rest))) e
      ∙ ap (λ (p : Option (A × List (List ℕ))). p >>= λ y. join x y.0 >>= λ z. more read sign join n z y.1) f)

  pub comes_fails : (old new : List Mark) (ws rest behind : List (List ℕ)) (flag : Bool) → Comes old new ws rest flag → after_word sign rest ≡ Some behind → read behind ≡ None → series_at read sign join ws ≡ None
  comes_fails old new ws rest behind flag c e f = c.is ∙ turn c.turns c.item rest behind None c.long e f

  -- nothing can be joined to what was read
  pub comes_unjoined : (old new : List Mark) (ws rest behind : List (List ℕ)) (flag : Bool) (c : Comes old new ws rest flag) → after_word sign rest ≡ Some behind → ((y : A) → join c.item y ≡ None) → series_at read sign join ws ≡ None
  comes_unjoined old new ws rest behind flag c e f = c.is ∙ turn c.turns c.item rest behind (read behind) c.long e refl ∙ none (read behind)
    where
      none : (o : Option (A × List (List ℕ))) → (o >>= λ y. join c.item y.0 >>= λ z. more read sign join (c.turns - 1) z y.1) ≡ None
      none None = refl
      none (Some y) = ap (λ (p : Option A). p >>= λ z. more read sign join (c.turns - 1) z y.1) (f y.0)

  -- the next item cannot be joined
  pub comes_unlike : (old new mid : List Mark) (ws rest behind left : List (List ℕ)) (flag next : Bool) (c : Comes old new ws rest flag) → after_word sign rest ≡ Some behind
      → (r : IsRead marks has new mid next left (read behind)) → join c.item r.item ≡ None → series_at read sign join ws ≡ None
  comes_unlike old new mid ws rest behind left flag next c e r f =
      c.is ∙ turn c.turns c.item rest behind (Some (r.item, left)) c.long e r.is ∙ ap (λ (p : Option A). p >>= λ z. more read sign join (c.turns - 1) z left) f

  pub comes_more : (old new mid : List Mark) (mark : Mark) (ws rest behind left : List (List ℕ)) (flag next then : Bool) (c : Comes old new ws rest flag) → after_word sign rest ≡ Some behind
      → (r : IsRead marks has new mid next left (read behind)) → length left < length rest → IsJoined marks has join mark c.item r.item then → Comes old (mid ++ mark ∷ []) ws left then
  comes_more old new mid mark ws rest behind left flag next then c e r less j = record {
    turns = c.turns - 1;
    item = j.whole;
    long = omega (arith, c.long, less);
    is = c.is ∙ turn c.turns c.item rest behind (Some (r.item, left)) c.long e r.is ∙ ap (λ (p : Option A). p >>= λ z. more read sign join (c.turns - 1) z left) j.is;
    put = ap (λ (t : List Mark). t ++ mark ∷ []) (r.put ∙ ap (λ (t : List Mark). t ++ marks r.item) c.put) ∙ regroup (marks c.item) (marks r.item) ∙ ap (λ (t : List Mark). old ++ t) (sym j.marks_are);
    tells = j.tells;
  }
    where
      regroup : (a b : List Mark) → ((old ++ a) ++ b) ++ mark ∷ [] ≡ old ++ (a ++ (b ++ mark ∷ []))
      regroup a b = simp append_assoc

  pub comes_last : (old new : List Mark) (ws rest : List (List ℕ)) (flag : Bool) → Comes old new ws rest flag → after_word sign rest ≡ None → IsRead marks has old new flag rest (series_at read sign join ws)
  unfolding more
  comes_last old new ws rest flag c e = record { item = c.item; is = c.is ∙ stops c.turns; put = c.put; tells = c.tells }
    where
      stops : (n : ℕ) → more read sign join n c.item rest ≡ Some (c.item, rest)
      stops zero = refl
      stops (suc n) = ap (λ (p : Option (List (List ℕ))). choice p (λ rest. read rest >>= λ y. join c.item y.0 >>= λ z. more read sign join n z y.1) (Some (c.item, rest))) e
