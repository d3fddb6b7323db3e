-- Reading a formula word by word, with a list of what is still to come, gets on just where the reader does.
use Rattle.std.proofs.Common.{◌≡◌, ℕ, zero, suc, ◌≤◌, Bool, true, false, cond, List, [], ◌∷◌, ◌++◌, length, Option, Some, None, refl, sym, ap, ◌∙◌, arith, append_assoc}
use Rattle.std.specs.Prelude.{codes, bytes_eq, ◌&&◌, ◌||◌}
use Rattle.std.proofs.lemmas.List.{length-append}
use Rattle.vpg_formula.specs.Regular.{Regular, repeated, repeated_once, is_action}
use Rattle.vpg_formula.specs.Reading.{Read, ◌>>=◌, after_word, choice, more, series_at, starts_operand, is_plus, stars_at, starred_with, enclosed_with, if_action}
use Rattle.vpg_formula.specs.Needs.{Closer, closer, Need, exactly, closes, stars, unacting, Turn, goes, skips, stuck, deep, if_acting, turn_of, may_end, step_by, step, Way, done, halted, too_deep, way_by, all_may_end, way}
use Rattle.vpg_formula.proofs.Series.{some, some_is, word_behind, Finds}

abbrev pub Words : Type 0
Words = List (List ℕ)

abbrev pub is_halted : Way → Bool
is_halted (done left) = false
is_halted (halted left) = true
is_halted (too_deep left) = true

-- Where the reader finds nothing, the way stops; where it finds something, the way goes on behind that.
abbrev pub Sim : {A : Type 0} → (A → Bool) → (A → Words → Type 0) → Way → Option (A × Words) → (Bool → Words → Way) → Type 0
Sim flag P here None later = is_halted here ≡ true
Sim flag P here (Some x) later = (here ≡ later (flag x.0) x.1) × P x.0 x.1

abbrev pub Agrees : {A : Type 0} → (A → Bool) → (A → Words → Type 0) → Read A → List Need → Type 0
Agrees flag P read needs = (f : Bool) (ns : List Need) (ws : Words) → Sim flag P (way f (needs ++ ns) ws) (read ws) (λ g rest. way g ns rest)

pub sim_at : {A : Type 0} (flag : A → Bool) (P : A → Words → Type 0) (here there : Way) (o p : Option (A × Words)) (later : Bool → Words → Way) → here ≡ there → o ≡ p → Sim flag P there p later → Sim flag P here o later
sim_at flag P here there o p later e f s = rw (e, f) s

abbrev pub Any : {A : Type 0} → A → Words → Type 0
Any x rest = Unit {0}

abbrev pub Shorter : {A : Type 0} → Read A → Type 0
Shorter {A} read = (ws : Words) (x : A × Words) → read ws ≡ Some x → length x.1 ≤ length ws

pub found_shorter : {A : Type 0} (Item : Words → A → Type 0) (read : Read A) → Finds Item read → Shorter read
found_shorter Item read finds ws x e = let i = finds ws x e in let long = length-append i.0 x.1 in omega (arith, ap length i.2, long)

-- ---- one need

-- behind this word comes what is taken; any other is left
pub record IsSign (n : Need) (sign : List ℕ) (takes : Bool → Bool → Turn) : Type 0 where
  pub ends : may_end n ≡ true
  pub turn : (f : Bool) (w : List ℕ) (s : Bool) → turn_of n f w s ≡ cond (bytes_eq w sign) (takes f s) (skips f)

pub way_turn : (n : Need) (ns : List Need) (f : Bool) (w : List ℕ) (ws : Words) (t : Turn) → turn_of n f w (starts_operand ws) ≡ t
    → way f (n ∷ ns) (w ∷ ws) ≡ way_by (step_by t ns (λ g. step g ns w (starts_operand ws))) (suc (length ws)) (λ g later. way g later ws)
way_turn n ns f w ws t e = ap (λ (x : Turn). way_by (step_by x ns (λ g. step g ns w (starts_operand ws))) (suc (length ws)) (λ g later. way g later ws)) e

pub sign_none : (n : Need) (sign : List ℕ) (takes : Bool → Bool → Turn) → IsSign n sign takes → (f : Bool) (ns : List Need) (ws : Words) → after_word sign ws ≡ None → way f (n ∷ ns) ws ≡ way f ns ws
sign_none n sign takes i f ns [] e = ap (λ (t : Bool). cond (t && all_may_end ns) (done 0) (halted 0)) i.ends
sign_none n sign takes i f ns (w ∷ ws) e = go (bytes_eq w sign) refl e
  where
    go : (t : Bool) → bytes_eq w sign ≡ t → cond t (some ws) None ≡ None → way f (n ∷ ns) (w ∷ ws) ≡ way f ns (w ∷ ws)
    go true is e = absurd cc
    go false is e = way_turn n ns f w ws (skips f) (i.turn f w (starts_operand ws) ∙ ap (λ (t : Bool). cond t (takes f (starts_operand ws)) (skips f)) is)

-- what the way is at the sign
abbrev pub way_signed : Turn → List Need → Words → Way
way_signed (goes g more) ns rest = way g (more ++ ns) rest
way_signed (skips g) ns rest = done 0
way_signed stuck ns rest = halted (suc (length rest))
way_signed deep ns rest = too_deep (suc (length rest))

abbrev pub IsTaken : Turn → Type 0
IsTaken (goes g more) = Unit {0}
IsTaken (skips g) = ⊥
IsTaken stuck = Unit {0}
IsTaken deep = Unit {0}

pub sign_some : (n : Need) (sign : List ℕ) (takes : Bool → Bool → Turn) → IsSign n sign takes → (f : Bool) (ns : List Need) (ws rest : Words) (t : Turn) → after_word sign ws ≡ Some rest → takes f (starts_operand rest) ≡ t → IsTaken t → way f (n ∷ ns) ws ≡ way_signed t ns rest
sign_some n sign takes i f ns [] rest t e h k = absurd cc
sign_some n sign takes i f ns (w ∷ ws) rest t e h k = go (bytes_eq w sign) refl e
  where
    end : (t : Turn) → IsTaken t → way_by (step_by t ns (λ g. step g ns w (starts_operand ws))) (suc (length ws)) (λ g later. way g later ws) ≡ way_signed t ns ws
    end (goes g more) k = refl
    end (skips g) k = absurd k
    end stuck k = refl
    end deep k = refl

    go : (b : Bool) → bytes_eq w sign ≡ b → cond b (some ws) None ≡ Some rest → way f (n ∷ ns) (w ∷ ws) ≡ way_signed t ns rest
    go false is e = absurd cc
    go true is e =
        let same : ws ≡ rest = some_is ws rest e in
        way_turn n ns f w ws t (i.turn f w (starts_operand ws) ∙ ap (λ (b : Bool). cond b (takes f (starts_operand ws)) (skips f)) is ∙ ap (λ (v : Words). takes f (starts_operand v)) same ∙ h)
        ∙ end t k ∙ ap (way_signed t ns) same

pub sign_goes : (n : Need) (sign : List ℕ) (takes : Bool → Bool → Turn) → IsSign n sign takes → (f g : Bool) (ns more : List Need) (ws rest : Words) → after_word sign ws ≡ Some rest → takes f (starts_operand rest) ≡ goes g more → way f (n ∷ ns) ws ≡ way g (more ++ ns) rest
sign_goes n sign takes i f g ns more ws rest e h = sign_some n sign takes i f ns ws rest (goes g more) e h tt

pub sign_stuck : (n : Need) (sign : List ℕ) (takes : Bool → Bool → Turn) → IsSign n sign takes → (f : Bool) (ns : List Need) (ws rest : Words) → after_word sign ws ≡ Some rest → takes f (starts_operand rest) ≡ stuck → is_halted (way f (n ∷ ns) ws) ≡ true
sign_stuck n sign takes i f ns ws rest e h = ap is_halted (sign_some n sign takes i f ns ws rest stuck e h tt)

pub sign_deep : (n : Need) (sign : List ℕ) (takes : Bool → Bool → Turn) → IsSign n sign takes → (f : Bool) (ns : List Need) (ws rest : Words) → after_word sign ws ≡ Some rest → takes f (starts_operand rest) ≡ deep → is_halted (way f (n ∷ ns) ws) ≡ true
sign_deep n sign takes i f ns ws rest e h = ap is_halted (sign_some n sign takes i f ns ws rest deep e h tt)

-- just one word is needed
pub record IsExact (n : Need) (word : List ℕ) : Type 0 where
  pub needed : may_end n ≡ false
  pub turn : (f : Bool) (w : List ℕ) (s : Bool) → turn_of n f w s ≡ cond (bytes_eq w word) (goes f []) stuck

pub exact_none : (n : Need) (word : List ℕ) → IsExact n word → (f : Bool) (ns : List Need) (ws : Words) → after_word word ws ≡ None → is_halted (way f (n ∷ ns) ws) ≡ true
exact_none n word i f ns [] e = ap (λ (t : Bool). is_halted (cond (t && all_may_end ns) (done 0) (halted 0))) i.needed
exact_none n word i f ns (w ∷ ws) e = go (bytes_eq w word) refl e
  where
    go : (t : Bool) → bytes_eq w word ≡ t → cond t (some ws) None ≡ None → is_halted (way f (n ∷ ns) (w ∷ ws)) ≡ true
    go true is e = absurd cc
    go false is e = ap is_halted (way_turn n ns f w ws stuck (i.turn f w (starts_operand ws) ∙ ap (λ (t : Bool). cond t (goes f []) stuck) is))

pub exact_some : (n : Need) (word : List ℕ) → IsExact n word → (f : Bool) (ns : List Need) (ws rest : Words) → after_word word ws ≡ Some rest → way f (n ∷ ns) ws ≡ way f ns rest
exact_some n word i f ns [] rest e = absurd cc
exact_some n word i f ns (w ∷ ws) rest e = go (bytes_eq w word) refl e
  where
    go : (t : Bool) → bytes_eq w word ≡ t → cond t (some ws) None ≡ Some rest → way f (n ∷ ns) (w ∷ ws) ≡ way f ns rest
    go false is e = absurd cc
    go true is e = way_turn n ns f w ws (goes f []) (i.turn f w (starts_operand ws) ∙ ap (λ (t : Bool). cond t (goes f []) stuck) is) ∙ ap (way f ns) (some_is ws rest e)

pub exactly_is : (v : List ℕ) → IsExact (exactly v) v
exactly_is v = record { needed = refl; turn = λ f w s. refl }

pub closes_is : (c : Closer) → IsExact (closes c) (closer c)
closes_is c = record { needed = refl; turn = λ f w s. refl }

pub unacting_skips : (f : Bool) (ns : List Need) (ws : Words) → way f (unacting ∷ ns) ws ≡ way false ns ws
unacting_skips f ns [] = refl
unacting_skips f ns (w ∷ ws) = refl

-- what is enclosed
pub enclosed_sim : {A : Type 0} (flag : A → Bool) (P : A → Words → Type 0) (read : Read A) (needs : List Need) → Agrees flag P read needs → (c : Closer) (f : Bool) (ns : List Need) (ws : Words)
    → Sim flag Any (way f (needs ++ closes c ∷ ns) ws) (enclosed_with read (closer c) ws) (λ g rest. way g ns rest)
enclosed_sim {A} flag P read needs agrees c f ns ws = go (read ws) (agrees f (closes c ∷ ns) ws)
  where
    close : (x : A) (r : Words) (o : Option Words) → after_word (closer c) r ≡ o → way f (needs ++ closes c ∷ ns) ws ≡ way (flag x) (closes c ∷ ns) r
        → Sim flag Any (way f (needs ++ closes c ∷ ns) ws) (o >>= λ rest. Some (x, rest)) (λ g rest. way g ns rest)
    close x r None e h = ap is_halted h ∙ exact_none (closes c) (closer c) (closes_is c) (flag x) ns r e
    close x r (Some rest) e h = (h ∙ exact_some (closes c) (closer c) (closes_is c) (flag x) ns r rest e, tt)

    go : (o : Option (A × Words)) → Sim flag P (way f (needs ++ closes c ∷ ns) ws) o (λ g rest. way g (closes c ∷ ns) rest)
        → Sim flag Any (way f (needs ++ closes c ∷ ns) ws) (o >>= λ x. after_word (closer c) x.1 >>= λ rest. Some (x.0, rest)) (λ g rest. way g ns rest)
    go None h = h
    go (Some (x, r)) h = close x r (after_word (closer c) r) refl h.0

-- ---- action formulas in a row

abbrev pub IsActing : Regular → Words → Type 0
IsActing x rest = is_action x ≡ true

abbrev pub acts_of : Read Regular → Read Regular
acts_of item ws = item ws >>= λ x. if_action x

module _ (item : Read Regular) (shorter : Shorter item) (needs : List Need) (agrees : Agrees is_action IsActing (acts_of item) needs) (sign : List ℕ) (join : Regular → Regular → Option Regular) (n : Need)
    (is : IsSign n sign (λ f s. if_acting f (needs ++ n ∷ [])))
    (joins : (x y : Regular) → is_action x ≡ true → is_action y ≡ true → (z : Regular) × (join x y ≡ Some z) × (is_action z ≡ true))
    (unjoined : (x y : Regular) → is_action x ≡ false → join x y ≡ None) (unlike : (x y : Regular) → is_action y ≡ false → join x y ≡ None) where
  -- what is joined is an action formula just where the first is
  abbrev pub Like : Regular → Regular → Words → Type 0
  Like x y rest = is_action y ≡ is_action x

  pub all_unjoined : (k : ℕ) (x : Regular) (o : Option (Regular × Words)) → is_action x ≡ false → (o >>= λ y. join x y.0 >>= λ z. more item sign join k z y.1) ≡ None
  all_unjoined k x None a = refl
  all_unjoined k x (Some y) a = ap (λ (p : Option Regular). p >>= λ z. more item sign join k z y.1) (unjoined x y.0 a)

  pub joined_act : (k : ℕ) (x y : Regular) (ns : List Need) (here : Way) (r : Words) → is_action x ≡ true → (t : Bool) → is_action y ≡ t
      → ((z : Regular) → Sim is_action (Like z) (way (is_action z) (n ∷ ns) r) (more item sign join k z r) (λ g rest. way g ns rest))
      → Sim is_action IsActing here (cond t (Some (y, r)) None) (λ g r. way g (n ∷ ns) r)
      → Sim is_action (Like x) here (join x y >>= λ z. more item sign join k z r) (λ g rest. way g ns rest)
  joined_act k x y ns here r a false b so h = rw (unlike x y b) h
  joined_act k x y ns here r a true b so h =
      let j = joins x y a b in
      rw j.1 (like_too here j.0 (more item sign join k j.0 r) (j.2 ∙ sym a) (h.0 ∙ ap (λ (g : Bool). way g (n ∷ ns) r) (b ∙ sym j.2)) (so j.0))
    where
      like_too : (here : Way) (z : Regular) (o : Option (Regular × Words)) → is_action z ≡ is_action x → here ≡ way (is_action z) (n ∷ ns) r → Sim is_action (Like z) (way (is_action z) (n ∷ ns) r) o (λ g rest. way g ns rest)
          → Sim is_action (Like x) here o (λ g rest. way g ns rest)
      like_too here z None e f s = ap is_halted f ∙ s
      like_too here z (Some y) e f s = (f ∙ s.0, s.1 ∙ e)

  pub next_act : (k : ℕ) (x : Regular) (ns : List Need) (here : Way) → is_action x ≡ true → (o : Option (Regular × Words))
      → ((y : Regular × Words) → o ≡ Some y → (z : Regular) → Sim is_action (Like z) (way (is_action z) (n ∷ ns) y.1) (more item sign join k z y.1) (λ g rest. way g ns rest))
      → Sim is_action IsActing here (o >>= λ y. if_action y) (λ g r. way g (n ∷ ns) r)
      → Sim is_action (Like x) here (o >>= λ y. join x y.0 >>= λ z. more item sign join k z y.1) (λ g rest. way g ns rest)
  next_act k x ns here a None so h = h
  next_act k x ns here a (Some y) so h = joined_act k x y.0 ns here y.1 a (is_action y.0) refl (so y refl) h

  pub signed_act : (k : ℕ) (x : Regular) (ns : List Need) (ws : Words) (o : Option Words) → after_word sign ws ≡ o → (t : Bool) → is_action x ≡ t
      → ((rest : Words) → o ≡ Some rest → (y : Regular × Words) → item rest ≡ Some y → (z : Regular) → Sim is_action (Like z) (way (is_action z) (n ∷ ns) y.1) (more item sign join k z y.1) (λ g rest. way g ns rest))
      → Sim is_action (Like x) (way (is_action x) (n ∷ ns) ws) (choice o (λ rest. item rest >>= λ y. join x y.0 >>= λ z. more item sign join k z y.1) (Some (x, ws))) (λ g rest. way g ns rest)
  signed_act k x ns ws None e t a so = (sign_none n sign _ is (is_action x) ns ws e, refl)
  signed_act k x ns ws (Some rest) e false a so =
      rw (all_unjoined k x (item rest) a) (sign_stuck n sign _ is (is_action x) ns ws rest e (ap (λ (t : Bool). if_acting t (needs ++ n ∷ [])) a))
  signed_act k x ns ws (Some rest) e true a so =
      let here : way (is_action x) (n ∷ ns) ws ≡ way true (needs ++ n ∷ ns) rest =
      sign_goes n sign _ is (is_action x) true ns (needs ++ n ∷ []) ws rest e (ap (λ (t : Bool). if_acting t (needs ++ n ∷ [])) a) ∙ ap (λ (l : List Need). way true l rest) (append_assoc needs (n ∷ []) ns) in
      rw here (next_act k x ns (way true (needs ++ n ∷ ns) rest) a (item rest) (so rest refl) (agrees true (n ∷ ns) rest))

  pub more_act : (k : ℕ) (x : Regular) (ns : List Need) (ws : Words) → length ws ≤ k → Sim is_action (Like x) (way (is_action x) (n ∷ ns) ws) (more item sign join k x ws) (λ g rest. way g ns rest)
  unfolding more
  more_act zero x ns [] l = (sign_none n sign _ is (is_action x) ns [] refl, refl)
  more_act zero x ns (w ∷ ws) l = absurd (omega (arith, l))
  more_act (suc k) x ns ws l =
      signed_act k x ns ws (after_word sign ws) refl (is_action x) refl
      (λ rest e y f z. more_act k z ns y.1 (let less = shorter rest y f in let cut = ap length (word_behind sign ws rest e) in omega (arith, l, less, cut)))

  -- the first is any formula
  pub first_agrees : (first : List Need) → Agrees is_action Any item first → Agrees is_action Any (series_at item sign join) (first ++ n ∷ [])
  unfolding series_at
  first_agrees first any f ns ws = rw (append_assoc first (n ∷ []) ns) (go (way f (first ++ n ∷ ns) ws) (item ws) (any f (n ∷ ns) ws))
    where
      then : (here : Way) (x : Regular) (r : Words) (o : Option (Regular × Words)) → here ≡ way (is_action x) (n ∷ ns) r → Sim is_action (Like x) (way (is_action x) (n ∷ ns) r) o (λ g rest. way g ns rest) → Sim is_action Any here o (λ g rest. way g ns rest)
      then here x r None e s = ap is_halted e ∙ s
      then here x r (Some y) e s = (e ∙ s.0, tt)

      go : (here : Way) (o : Option (Regular × Words)) → Sim is_action Any here o (λ g rest. way g (n ∷ ns) rest) → Sim is_action Any here (o >>= λ x. more item sign join (length x.1) x.0 x.1) (λ g rest. way g ns rest)
      go here None h = h
      go here (Some x) h = then here x.0 x.1 (more item sign join (length x.1) x.0 x.1) h.0 (more_act (length x.1) x.0 ns x.1 (omega arith))

  -- the first is an action formula
  pub first_acts : Agrees is_action IsActing (acts_of (series_at item sign join)) (needs ++ n ∷ [])
  unfolding series_at
  first_acts f ns ws = rw (append_assoc needs (n ∷ []) ns) (go (way f (needs ++ n ∷ ns) ws) (item ws) (agrees f (n ∷ ns) ws))
    where
      then : (here : Way) (x : Regular) (r : Words) (o : Option (Regular × Words)) → is_action x ≡ true → here ≡ way (is_action x) (n ∷ ns) r → Sim is_action (Like x) (way (is_action x) (n ∷ ns) r) o (λ g rest. way g ns rest)
          → Sim is_action IsActing here (o >>= λ y. if_action y) (λ g rest. way g ns rest)
      then here x r None a e s = ap is_halted e ∙ s
      then here x r (Some y) a e s = let b : is_action y.0 ≡ true = s.1 ∙ a in rw b (e ∙ s.0, b)

      never : (here : Way) (x : Regular) (r : Words) (o : Option (Regular × Words)) → is_action x ≡ false → is_halted here ≡ true → Sim is_action (Like x) (way (is_action x) (n ∷ ns) r) o (λ g rest. way g ns rest)
          → Sim is_action IsActing here (o >>= λ y. if_action y) (λ g rest. way g ns rest)
      never here x r None a h s = h
      never here x r (Some y) a h s = let b : is_action y.0 ≡ false = s.1 ∙ a in rw b h

      by_first : (here : Way) (x : Regular × Words) (t : Bool) → is_action x.0 ≡ t → Sim is_action IsActing here (cond t (Some x) None) (λ g rest. way g (n ∷ ns) rest)
          → Sim is_action IsActing here (more item sign join (length x.1) x.0 x.1 >>= λ y. if_action y) (λ g rest. way g ns rest)
      by_first here x true a h = then here x.0 x.1 (more item sign join (length x.1) x.0 x.1) a h.0 (more_act (length x.1) x.0 ns x.1 (omega arith))
      by_first here x false a h = never here x.0 x.1 (more item sign join (length x.1) x.0 x.1) a h (more_act (length x.1) x.0 ns x.1 (omega arith))

      go : (here : Way) (o : Option (Regular × Words)) → Sim is_action IsActing here (o >>= λ x. if_action x) (λ g rest. way g (n ∷ ns) rest)
          → Sim is_action IsActing here ((o >>= λ x. more item sign join (length x.1) x.0 x.1) >>= λ y. if_action y) (λ g rest. way g ns rest)
      go here None h = h
      go here (Some x) h = by_first here x (is_action x.0) refl h

-- ---- `*`, `.` and `+`

-- no `+` comes that ends a formula
abbrev pub NoPlus : Words → Type 0
NoPlus [] = Unit {0}
NoPlus (w ∷ ws) = is_plus w ws ≡ false

abbrev pub Unplussed : Regular → Words → Type 0
Unplussed x rest = NoPlus rest

pub stars_turn : (f : Bool) (w : List ℕ) (ws : Words) (a p : Bool) → bytes_eq w (codes "*") ≡ a → is_plus w ws ≡ p → turn_of stars f w (starts_operand ws) ≡ cond (a || p) (goes false (stars ∷ [])) (skips f)
stars_turn f w ws a p e g =
    ap (λ (t : Bool). cond (t || is_plus w ws) (goes false (stars ∷ [])) (skips f)) e ∙ ap (λ (t : Bool). cond (a || t) (goes false (stars ∷ [])) (skips f)) g

pub stars_agree : (x : Regular) (ns : List Need) (ws : Words) → Sim is_action Unplussed (way (is_action x) (stars ∷ ns) ws) (stars_at x ws) (λ g rest. way g ns rest)
unfolding stars_at
stars_agree x ns [] = (refl, tt)
stars_agree x ns (w ∷ ws) = go (bytes_eq w (codes "*")) (is_plus w ws) refl refl (stars_agree (repeated x) ns ws) (stars_agree (repeated_once x) ns ws)
  where
    go : (a p : Bool) → bytes_eq w (codes "*") ≡ a → is_plus w ws ≡ p
        → Sim is_action Unplussed (way false (stars ∷ ns) ws) (stars_at (repeated x) ws) (λ g rest. way g ns rest)
        → Sim is_action Unplussed (way false (stars ∷ ns) ws) (stars_at (repeated_once x) ws) (λ g rest. way g ns rest)
        → Sim is_action Unplussed (way (is_action x) (stars ∷ ns) (w ∷ ws)) (cond a (stars_at (repeated x) ws) (cond p (stars_at (repeated_once x) ws) (Some (x, w ∷ ws)))) (λ g rest. way g ns rest)
    go true p e g many once = sim_at is_action Unplussed _ _ _ _ (λ g rest. way g ns rest) (way_turn stars ns (is_action x) w ws _ (stars_turn (is_action x) w ws true p e g)) refl many
    go false true e g many once = sim_at is_action Unplussed _ _ _ _ (λ g rest. way g ns rest) (way_turn stars ns (is_action x) w ws _ (stars_turn (is_action x) w ws false true e g)) refl once
    go false false e g many once = (way_turn stars ns (is_action x) w ws _ (stars_turn (is_action x) w ws false false e g), g)

pub starred_agrees : (item : Read Regular) (needs : List Need) → Agrees is_action Any item needs → Agrees is_action Unplussed (starred_with item) (needs ++ stars ∷ [])
unfolding starred_with
starred_agrees item needs agrees f ns ws = rw (append_assoc needs (stars ∷ []) ns) (go (way f (needs ++ stars ∷ ns) ws) (item ws) (agrees f (stars ∷ ns) ws))
  where
    then : (here there : Way) (o : Option (Regular × Words)) → here ≡ there → Sim is_action Unplussed there o (λ g rest. way g ns rest) → Sim is_action Unplussed here o (λ g rest. way g ns rest)
    then here there None e s = ap is_halted e ∙ s
    then here there (Some y) e s = (e ∙ s.0, s.1)

    go : (here : Way) (o : Option (Regular × Words)) → Sim is_action Any here o (λ g rest. way g (stars ∷ ns) rest) → Sim is_action Unplussed here (o >>= λ x. stars_at x.0 x.1) (λ g rest. way g ns rest)
    go here None h = h
    go here (Some x) h = then here (way (is_action x.0) (stars ∷ ns) x.1) (stars_at x.0 x.1) h.0 (stars_agree x.0 ns x.1)

-- what joins any regular formulas
module _ (item : Read Regular) (shorter : Shorter item) (needs : List Need) (agrees : Agrees is_action Unplussed item needs) (sign : List ℕ) (join : Regular → Regular → Option Regular) (n : Need) (takes : Bool → Bool → Turn)
    (is : IsSign n sign takes) (taken : (f : Bool) (ws rest : Words) → NoPlus ws → after_word sign ws ≡ Some rest → takes f (starts_operand rest) ≡ goes f (needs ++ unacting ∷ n ∷ []))
    (joins : (x y : Regular) → (z : Regular) × (join x y ≡ Some z) × (is_action z ≡ false)) where
  pub joined_free : (k : ℕ) (x : Regular) (ns : List Need) (here : Way) (o : Option (Regular × Words))
      → ((y : Regular × Words) → o ≡ Some y → NoPlus y.1 → (z : Regular) → Sim is_action Unplussed (way (is_action z) (n ∷ ns) y.1) (more item sign join k z y.1) (λ g rest. way g ns rest))
      → Sim is_action Unplussed here o (λ g r. way g (unacting ∷ n ∷ ns) r)
      → Sim is_action Unplussed here (o >>= λ y. join x y.0 >>= λ z. more item sign join k z y.1) (λ g rest. way g ns rest)
  joined_free k x ns here None so h = h
  joined_free k x ns here (Some y) so h =
      let j = joins x y.0 in
      rw j.1 (sim_at is_action Unplussed here (way (is_action j.0) (n ∷ ns) y.1) _ _ (λ g rest. way g ns rest) (h.0 ∙ unacting_skips (is_action y.0) (n ∷ ns) y.1 ∙ ap (λ (g : Bool). way g (n ∷ ns) y.1) (sym j.2)) refl (so y refl h.1 j.0))

  pub signed_free : (k : ℕ) (x : Regular) (ns : List Need) (ws : Words) → NoPlus ws → (o : Option Words) → after_word sign ws ≡ o
      → ((rest : Words) → o ≡ Some rest → (y : Regular × Words) → item rest ≡ Some y → NoPlus y.1 → (z : Regular) → Sim is_action Unplussed (way (is_action z) (n ∷ ns) y.1) (more item sign join k z y.1) (λ g rest. way g ns rest))
      → Sim is_action Unplussed (way (is_action x) (n ∷ ns) ws) (choice o (λ rest. item rest >>= λ y. join x y.0 >>= λ z. more item sign join k z y.1) (Some (x, ws))) (λ g rest. way g ns rest)
  signed_free k x ns ws p None e so = (sign_none n sign takes is (is_action x) ns ws e, p)
  signed_free k x ns ws p (Some rest) e so =
      let here : way (is_action x) (n ∷ ns) ws ≡ way (is_action x) (needs ++ unacting ∷ n ∷ ns) rest =
      sign_goes n sign takes is (is_action x) (is_action x) ns (needs ++ unacting ∷ n ∷ []) ws rest e (taken (is_action x) ws rest p e) ∙ ap (λ (l : List Need). way (is_action x) l rest) (append_assoc needs (unacting ∷ n ∷ []) ns) in
      rw here (joined_free k x ns (way (is_action x) (needs ++ unacting ∷ n ∷ ns) rest) (item rest) (so rest refl) (agrees (is_action x) (unacting ∷ n ∷ ns) rest))

  pub more_free : (k : ℕ) (x : Regular) (ns : List Need) (ws : Words) → length ws ≤ k → NoPlus ws → Sim is_action Unplussed (way (is_action x) (n ∷ ns) ws) (more item sign join k x ws) (λ g rest. way g ns rest)
  unfolding more
  more_free zero x ns [] l p = (sign_none n sign takes is (is_action x) ns [] refl, p)
  more_free zero x ns (w ∷ ws) l p = absurd (omega (arith, l))
  more_free (suc k) x ns ws l p =
      signed_free k x ns ws p (after_word sign ws) refl
      (λ rest e y f q z. more_free k z ns y.1 (let less = shorter rest y f in let cut = ap length (word_behind sign ws rest e) in omega (arith, l, less, cut)) q)

  pub free_agrees : Agrees is_action Unplussed (series_at item sign join) (needs ++ n ∷ [])
  unfolding series_at
  free_agrees f ns ws = rw (append_assoc needs (n ∷ []) ns) (go (way f (needs ++ n ∷ ns) ws) (item ws) (agrees f (n ∷ ns) ws))
    where
      go : (here : Way) (o : Option (Regular × Words)) → Sim is_action Unplussed here o (λ g rest. way g (n ∷ ns) rest) → Sim is_action Unplussed here (o >>= λ x. more item sign join (length x.1) x.0 x.1) (λ g rest. way g ns rest)
      go here None h = h
      go here (Some x) h = sim_at is_action Unplussed here (way (is_action x.0) (n ∷ ns) x.1) _ _ (λ g rest. way g ns rest) h.0 refl (more_free (length x.1) x.0 ns x.1 (omega arith) h.1)
