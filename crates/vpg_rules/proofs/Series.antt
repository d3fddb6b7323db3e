-- Items joined by marks, and arrows, are read as they are spelled, both ways.
use Rattle.std.proofs.Common.{◌≡◌, ℕ, zero, suc, ◌-◌, ◌<◌, ◌≤◌, List, ◌++◌, length, Option, Some, None, refl, sym, ap, subst, ◌∙◌, inl, inr, arith, ◌⊎◌, append_assoc}
use Rattle.std.proofs.lemmas.List.{length-append}
use Rattle.vpg_guards.specs.Grammar.{AreBlank}
use Rattle.vpg_guards.specs.Reading.{◌>>=◌}
use Rattle.vpg_guards.proofs.Blanks.{bind_some}
use Rattle.vpg_rules.specs.Constraint.{Constraint, Parts, no_parts, part}
use Rattle.vpg_rules.specs.Grammar.{NamedRule, added, Items, one, more as next, alone_or, Series, Arrow, plain, arrow}
use Rattle.vpg_rules.specs.Reading.{Read, after_mark, choice, more, made, series_at, arrow_at}
use Rattle.vpg_rules.proofs.Marks.{choice_some, some, some_is, mark_behind}

-- the text begins with one of this form, and the rest follows
pub record Found (Item : List ℕ → NamedRule → Type 0) (text : List ℕ) (c : NamedRule) (rest : List ℕ) : Type 0 where
  pub front : List ℕ
  pub is : Item front c
  pub parts : text ≡ front ++ rest

-- a reader finds only these
abbrev pub Finds : (List ℕ → NamedRule → Type 0) → (List ℕ → Read (List ℕ)) → Type 0
Finds Item read = (text : List ℕ) (x : NamedRule × List ℕ) → read text ≡ Some x → Found Item text x.0 x.1

-- a reader reads each of these, where what follows is as it should be
abbrev pub Rereads : (List ℕ → NamedRule → Type 0) → (List ℕ → Type 0) → (List ℕ → Read (List ℕ)) → Type 0
Rereads Item Follows read = (text rest : List ℕ) (c : NamedRule) → Item text c → Follows rest → read (text ++ rest) ≡ Some (c, rest)

pub record ItemsFound (Item : List ℕ → NamedRule → Type 0) (mark text : List ℕ) (cs : Parts (List ℕ)) (rest : List ℕ) : Type 0 where
  pub front : List ℕ
  pub are : Items Item mark front cs
  pub parts : text ≡ front ++ rest

regroup : (front blanks mark later rest : List ℕ) → (front ++ blanks ++ mark ++ later) ++ rest ≡ front ++ (blanks ++ (mark ++ (later ++ rest)))
regroup front blanks mark later rest = simp append_assoc

-- ---- steps of reading

-- without a mark nothing more is read
pub more_stops : {A : Type 0} (read : List ℕ → Read A) (mark : List ℕ) (n : ℕ) (cs : Parts A) (text : List ℕ) → after_mark mark text ≡ None → more read mark n cs text ≡ Some (cs, text)
unfolding more
more_stops read mark zero cs text e = refl
more_stops read mark (suc n) cs text e = ap (λ (o : Option (List ℕ)). choice o (λ rest. read rest >>= λ x. more read mark n (added cs x.0) x.1) (Some (cs, text))) e

-- behind a mark one item is read, and then the others
pub more_goes : {A : Type 0} (read : List ℕ → Read A) (mark : List ℕ) (n : ℕ) (cs : Parts A) (text behind : List ℕ) (x : Constraint A × List ℕ) → 0 < n → after_mark mark text ≡ Some behind → read behind ≡ Some x
    → more read mark n cs text ≡ more read mark (n - 1) (added cs x.0) x.1
unfolding more
more_goes {A = A} read mark zero cs text behind x lt e f = absurd (omega arith)
more_goes {A = A} read mark (suc n) cs text behind x lt e f =
    let less : suc n - 1 ≡ n = omega arith in
    rw less (ap (λ (o : Option (List ℕ)). choice o (λ rest. read rest >>= λ y. more read mark n (added cs y.0) y.1) (Some (cs, text))) e
    ∙ ap (λ (o : Read A). o >>= λ y. more read mark n (added cs y.0) y.1) f)

-- ---- series

module _ (Item : List ℕ → NamedRule → Type 0) (read : List ℕ → Read (List ℕ)) (mark : List ℕ) (make : Parts (List ℕ) → NamedRule) where
  more_found : Finds Item read → (n : ℕ) (all front text : List ℕ) (cs : Parts (List ℕ)) (y : Parts (List ℕ) × List ℕ) → Items Item mark front cs → all ≡ front ++ text → more read mark n cs text ≡ Some y → ItemsFound Item mark all y.0 y.1
  unfolding more
  more_found finds zero all front text cs y s e f =
      subst (λ (z : Parts (List ℕ) × List ℕ). ItemsFound Item mark all z.0 z.1) (some_is (cs, text) y f) (record { front = front; are = s; parts = e })
  more_found finds (suc n) all front text cs y s e f =
      go (choice_some (after_mark mark text) (λ rest. read rest >>= λ x. more read mark n (added cs x.0) x.1) (Some (cs, text)) y f)
      (λ front text cs t d g. more_found finds n all front text cs y t d g)
    where
      go : ((rest : List ℕ) × (after_mark mark text ≡ Some rest) × ((read rest >>= λ x. more read mark n (added cs x.0) x.1) ≡ Some y)) ⊎ ((after_mark mark text ≡ None) × (some (cs, text) ≡ Some y))
          → ((front text : List ℕ) (cs : Parts (List ℕ)) → Items Item mark front cs → all ≡ front ++ text → more read mark n cs text ≡ Some y → ItemsFound Item mark all y.0 y.1)
          → ItemsFound Item mark all y.0 y.1
      go (inr (none, f)) later =
          subst (λ (z : Parts (List ℕ) × List ℕ). ItemsFound Item mark all z.0 z.1) (some_is (cs, text) y f) (record { front = front; are = s; parts = e })
      go (inl (rest, here, f)) later =
          let b = mark_behind mark text rest here in
          let h = bind_some (read rest) (λ x. more read mark n (added cs x.0) x.1) y f in
          let i = finds rest h.0 h.1 in
          let parts = e ∙ ap (λ (t : List ℕ). front ++ t) (b.parts ∙ ap (λ (t : List ℕ). b.blanks ++ (mark ++ t)) i.parts) ∙ sym (regroup front b.blanks mark i.front h.0.1) in
          later (front ++ b.blanks ++ mark ++ i.front) h.0.1 (added cs h.0.0) (next b.blanks s b.are i.is) parts h.2

  pub series_found : Finds Item read → Finds (Series Item mark make) (series_at read mark make)
  unfolding series_at
  series_found finds text y e =
      let h = bind_some (read text) (λ x. made make (more read mark (length x.1) (part x.0 no_parts) x.1)) y e in
      let i = finds text h.0 h.1 in
      let m = bind_some (more read mark (length h.0.1) (part h.0.0 no_parts) h.0.1) (λ x. Some (alone_or make x.0, x.1)) y h.2 in
      let f = more_found finds (length h.0.1) text i.front h.0.1 (part h.0.0 no_parts) m.0 (one i.is) i.parts m.1 in
      subst (λ (z : NamedRule × List ℕ). Found (Series Item mark make) text z.0 z.1) (some_is (alone_or make m.0.0, m.0.1) y m.2)
      (record { front = f.front; is = record { parts = m.0.0; items = f.are; stands = refl }; parts = f.parts })

  -- where the reading of a series has come to
  At : List ℕ → List ℕ → Parts (List ℕ) → Type 0
  At front rest cs = (n : ℕ) × (length rest ≤ n) × (series_at read mark make (front ++ rest) ≡ made make (more read mark n cs rest))

  -- the mark may follow an item, and comes next behind blanks
  module _ (Follows : List ℕ → Type 0) (rereads : Rereads Item Follows read) (long : 0 < length mark)
      (marks : (blanks rest : List ℕ) → AreBlank blanks → Follows (blanks ++ (mark ++ rest)))
      (comes : (blanks rest : List ℕ) → AreBlank blanks → after_mark mark (blanks ++ (mark ++ rest)) ≡ Some rest) where
    comes_to : (front rest : List ℕ) (cs : Parts (List ℕ)) → Items Item mark front cs → Follows rest → At front rest cs
    unfolding At series_at
    comes_to front rest cs (one i) f = (length rest, omega arith, ap (λ (o : Read (List ℕ)). o >>= λ x. made make (more read mark (length x.1) (part x.0 no_parts) x.1)) (rereads front rest _ i f))
    comes_to all rest ds (next blanks {text = front} {later = later} {cs = cs} {d = d} s are i) f =
        let behind = later ++ rest in
        let h : At front (blanks ++ (mark ++ behind)) cs = comes_to front (blanks ++ (mark ++ behind)) cs s (marks blanks behind are) in
        let size = length-append blanks (mark ++ behind) in
        let size-mark = length-append mark behind in
        let size-rest = length-append later rest in (
          h.0 - 1,
          omega (arith, h.1, long, size, size-mark, size-rest),
          ap (series_at read mark make) (regroup front blanks mark later rest) ∙ h.2
              ∙ ap (made make) (more_goes read mark h.0 cs (blanks ++ (mark ++ behind)) behind (d, rest) (omega (arith, h.1, long, size, size-mark)) (comes blanks behind are) (rereads later rest d i f)),
        )

    pub series_rereads : Rereads (Series Item mark make) (λ rest. Follows rest × (after_mark mark rest ≡ None)) (series_at read mark make)
    unfolding At
    series_rereads front rest c s f =
        let h = comes_to front rest s.parts s.items f.0 in
        h.2 ∙ ap (made make) (more_stops read mark h.0 s.parts rest f.1) ∙ ap (λ (d : NamedRule). some (d, rest)) s.stands

-- ---- arrows

module _ {A : Type 0} (read right : List ℕ → Read A) (mark : List ℕ) (make : Constraint A → Constraint A → Constraint A) where
  -- without an arrow the item is all
  pub arrow_stops : (text : List ℕ) (x : Constraint A × List ℕ) → read text ≡ Some x → after_mark mark x.1 ≡ None → arrow_at read right mark make text ≡ Some x
  unfolding arrow_at
  arrow_stops text x e f =
      ap (λ (o : Read A). o >>= λ z. choice (after_mark mark z.1) (λ rest. right rest >>= λ w. Some (make z.0 w.0, w.1)) (Some z)) e
      ∙ ap (λ (o : Option (List ℕ)). choice o (λ rest. right rest >>= λ w. Some (make x.0 w.0, w.1)) (Some x)) f

  -- behind an arrow its right side is read
  pub arrow_goes : (text behind : List ℕ) (x : Constraint A × List ℕ) → read text ≡ Some x → after_mark mark x.1 ≡ Some behind
      → arrow_at read right mark make text ≡ (right behind >>= λ w. Some (make x.0 w.0, w.1))
  unfolding arrow_at
  arrow_goes text behind x e f =
      ap (λ (o : Read A). o >>= λ z. choice (after_mark mark z.1) (λ rest. right rest >>= λ w. Some (make z.0 w.0, w.1)) (Some z)) e
      ∙ ap (λ (o : Option (List ℕ)). choice o (λ rest. right rest >>= λ w. Some (make x.0 w.0, w.1)) (Some x)) f

  -- where the item is not read, nothing is
  pub arrow_fails : (text : List ℕ) → read text ≡ None → arrow_at read right mark make text ≡ None
  unfolding arrow_at
  arrow_fails text e = ap (λ (o : Read A). o >>= λ z. choice (after_mark mark z.1) (λ rest. right rest >>= λ w. Some (make z.0 w.0, w.1)) (Some z)) e

module _ (Item Right : List ℕ → NamedRule → Type 0) (read right : List ℕ → Read (List ℕ)) (mark : List ℕ) (make : NamedRule → NamedRule → NamedRule) where
  pub arrow_found : Finds Item read → Finds Right right → Finds (Arrow Item Right mark make) (arrow_at read right mark make)
  unfolding arrow_at
  arrow_found finds finds-right text y e =
      let h = bind_some (read text) (λ x. choice (after_mark mark x.1) (λ rest. right rest >>= λ z. Some (make x.0 z.0, z.1)) (Some x)) y e in
      let i = finds text h.0 h.1 in
      go h.0 i (choice_some (after_mark mark h.0.1) (λ rest. right rest >>= λ z. Some (make h.0.0 z.0, z.1)) (Some h.0) y h.2)
    where
      go : (x : NamedRule × List ℕ) → Found Item text x.0 x.1
          → ((rest : List ℕ) × (after_mark mark x.1 ≡ Some rest) × ((right rest >>= λ z. Some (make x.0 z.0, z.1)) ≡ Some y)) ⊎ ((after_mark mark x.1 ≡ None) × (some x ≡ Some y))
          → Found (Arrow Item Right mark make) text y.0 y.1
      go x i (inr (none, f)) =
          subst (λ (z : NamedRule × List ℕ). Found (Arrow Item Right mark make) text z.0 z.1) (some_is x y f) (record { front = i.front; is = plain i.is; parts = i.parts })
      go x i (inl (rest, here, f)) =
          let b = mark_behind mark x.1 rest here in
          let r = bind_some (right rest) (λ z. Some (make x.0 z.0, z.1)) y f in
          let j = finds-right rest r.0 r.1 in
          subst (λ (z : NamedRule × List ℕ). Found (Arrow Item Right mark make) text z.0 z.1) (some_is (make x.0 r.0.0, r.0.1) y r.2) (record {
            front = i.front ++ b.blanks ++ mark ++ j.front;
            is = arrow b.blanks i.is b.are j.is;
            parts = i.parts ∙ ap (λ (t : List ℕ). i.front ++ t) (b.parts ∙ ap (λ (t : List ℕ). b.blanks ++ (mark ++ t)) j.parts) ∙ sym (regroup i.front b.blanks mark j.front r.0.1);
          })

  module _ (Follows Later : List ℕ → Type 0) (rereads : Rereads Item Follows read) (rereads-right : Rereads Right Later right)
      (marks : (blanks rest : List ℕ) → AreBlank blanks → Follows (blanks ++ (mark ++ rest)))
      (comes : (blanks rest : List ℕ) → AreBlank blanks → after_mark mark (blanks ++ (mark ++ rest)) ≡ Some rest) where
    pub arrow_rereads : Rereads (Arrow Item Right mark make) (λ rest. Follows rest × Later rest × (after_mark mark rest ≡ None)) (arrow_at read right mark make)
    arrow_rereads text rest c (plain i) f = arrow_stops read right mark make (text ++ rest) (c, rest) (rereads text rest c i f.0) f.2
    arrow_rereads all rest e (arrow blanks {text = front} {later = later} {c = c} {d = d} i are j) f =
        let behind = later ++ rest in
        ap (arrow_at read right mark make) (regroup front blanks mark later rest)
        ∙ arrow_goes read right mark make (front ++ (blanks ++ (mark ++ behind))) behind (c, blanks ++ (mark ++ behind)) (rereads front (blanks ++ (mark ++ behind)) c i (marks blanks behind are)) (comes blanks behind are)
        ∙ ap (λ (o : Read (List ℕ)). o >>= λ w. Some (make c w.0, w.1)) (rereads-right later rest d j f.1)
