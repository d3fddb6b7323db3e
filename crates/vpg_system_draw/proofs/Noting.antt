-- States that are marked, and wait.
use Rattle.std.proofs.Common.{◌≡◌, ℕ, ◌+◌, ◌<◌, ◌≤◌, ◌⊎◌, inl, inr, Bool, true, false, not, cond, List, [], ◌∷◌, ◌++◌, length, get_or, set, take, Contains, refl, sym, ap, ◌∙◌, subst, arith}
use Rattle.std.proofs.lemmas.Bool.{cases_eq}
use Rattle.std.proofs.lemmas.List.{length-set, length_push, get_or-set_same, get_or-set_other, take_more, take_all}
use Rattle.std.proofs.lemmas.List.Elements.{Contains-append_left, Contains-push, Contains-push_cases}
use Rattle.std.proofs.lemmas.List.Sums.{sum_by-set}
use Rattle.vpg_diagram.proofs.Lists.{Contains-nil}
use Rattle.vpg_system_draw.specs.Searched.{IsMarked, unmarked, AreNoted}

-- ---- one state more

one_marked : (marks : List Bool) (w s : ℕ) → (s ≡ w) ⊎ (s ≡ w → ⊥) → IsMarked (set marks w true) s → IsMarked marks s ⊎ (s ≡ w)
one_marked marks w s (inl e) m = inr e
one_marked marks w s (inr n) m = inl (sym (get_or-set_other marks w s true false n) ∙ m)

still_marked : (marks : List Bool) (w s : ℕ) → w < length marks → (s ≡ w) ⊎ (s ≡ w → ⊥) → IsMarked marks s → IsMarked (set marks w true) s
still_marked marks w s less (inl e) m = ap (λ k. get_or (set marks w true) k false) e ∙ get_or-set_same marks w true false less
still_marked marks w s less (inr n) m = get_or-set_other marks w s true false n ∙ m

-- 1 for a state that is not marked
abbrev left : Bool → ℕ
left b = cond (not b) 1 0

pub noted_new : (marks : List Bool) (waiting : List ℕ) (w : ℕ) → w < length marks → get_or marks w false ≡ false → AreNoted (λ s. s ≡ w) marks waiting (set marks w true) (waiting ++ w ∷ [])
noted_new marks waiting w less new = record {
  count = length-set marks w true;
  kept = λ s m. still_marked marks w s less (cases_eq s w) m;
  noted = λ s e. now s e;
  only = λ s m. one_marked marks w s (cases_eq s w) m;
  waits = λ s c. Contains-append_left waiting (w ∷ []) s c;
  new = λ s m. waits_now s (one_marked marks w s (cases_eq s w) m);
  marked = λ s c. marked_now s (Contains-push_cases waiting w s c);
  work = counted (sum_by-set left marks w true false less) (ap left new) (length_push waiting w);
}
  where
    now : (s : ℕ) → s ≡ w → IsMarked (set marks w true) s
    now s e = ap (λ k. get_or (set marks w true) k false) e ∙ get_or-set_same marks w true false less

    waits_now : (s : ℕ) → IsMarked marks s ⊎ (s ≡ w) → IsMarked marks s ⊎ Contains (waiting ++ w ∷ []) s
    waits_now s (inl m) = inl m
    waits_now s (inr e) = inr (subst (λ (k : ℕ). Contains (waiting ++ w ∷ []) k) (sym e) (Contains-push waiting w))

    marked_now : (s : ℕ) → Contains waiting s ⊎ (w ≡ s) → Contains waiting s ⊎ IsMarked (set marks w true) s
    marked_now s (inl c) = inl c
    marked_now s (inr e) = inr (now s (sym e))

    counted : unmarked (set marks w true) + left (get_or marks w false) ≡ unmarked marks + 0 → left (get_or marks w false) ≡ 1 → length (waiting ++ w ∷ []) ≡ length waiting + 1 →
        unmarked (set marks w true) + length (waiting ++ w ∷ []) ≡ unmarked marks + length waiting
    counted e f g = omega (arith, e, f, g)

pub noted_old : (marks : List Bool) (waiting : List ℕ) (w : ℕ) → get_or marks w false ≡ true → AreNoted (λ s. s ≡ w) marks waiting marks waiting
noted_old marks waiting w old = record {
  count = refl;
  kept = λ s m. m;
  noted = λ s e. ap (λ k. get_or marks k false) e ∙ old;
  only = λ s m. inl m;
  waits = λ s c. c;
  new = λ s m. inl m;
  marked = λ s c. inl c;
  work = refl;
}

-- ---- several

pub noted_none : (marks : List Bool) (waiting : List ℕ) → AreNoted (λ s. Contains [] s) marks waiting marks waiting
noted_none marks waiting = record {
  count = refl;
  kept = λ s m. m;
  noted = λ s c. absurd (Contains-nil s c);
  only = λ s m. inl m;
  waits = λ s c. c;
  new = λ s m. inl m;
  marked = λ s c. inl c;
  work = refl;
}

module _ (Is Also : ℕ → Type 0) (w : ℕ) (it : Also w) (to : (s : ℕ) → Is s → Also s) (from : (s : ℕ) → Also s → Is s ⊎ (s ≡ w))
    (marks now next : List Bool) (waiting still later : List ℕ) (is : AreNoted Is marks waiting now still) (more : AreNoted (λ s. s ≡ w) now still next later) where
  noted_more : AreNoted Also marks waiting next later
  noted_more = record {
    count = more.count ∙ is.count;
    kept = λ s m. more.kept s (is.kept s m);
    noted = λ s a. noted s (from s a);
    only = λ s m. only s (more.only s m);
    waits = λ s c. more.waits s (is.waits s c);
    new = λ s m. new s (more.new s m);
    marked = λ s c. marked s (more.marked s c);
    work = more.work ∙ is.work;
  }
    where
      noted : (s : ℕ) → Is s ⊎ (s ≡ w) → IsMarked next s
      noted s (inl i) = more.kept s (is.noted s i)
      noted s (inr e) = more.noted s e

      before : (s : ℕ) → IsMarked marks s ⊎ Is s → IsMarked marks s ⊎ Also s
      before s (inl m) = inl m
      before s (inr i) = inr (to s i)

      only : (s : ℕ) → IsMarked now s ⊎ (s ≡ w) → IsMarked marks s ⊎ Also s
      only s (inl m) = before s (is.only s m)
      only s (inr e) = inr (subst Also (sym e) it)

      waited : (s : ℕ) → IsMarked marks s ⊎ Contains still s → IsMarked marks s ⊎ Contains later s
      waited s (inl m) = inl m
      waited s (inr c) = inr (more.waits s c)

      new : (s : ℕ) → IsMarked now s ⊎ Contains later s → IsMarked marks s ⊎ Contains later s
      new s (inl m) = waited s (is.new s m)
      new s (inr c) = inr c

      was_marked : (s : ℕ) → Contains waiting s ⊎ IsMarked now s → Contains waiting s ⊎ IsMarked next s
      was_marked s (inl c) = inl c
      was_marked s (inr m) = inr (more.kept s m)

      marked : (s : ℕ) → Contains still s ⊎ IsMarked next s → Contains waiting s ⊎ IsMarked next s
      marked s (inl c) = was_marked s (is.marked s c)
      marked s (inr m) = inr m

-- of some states the first so many, and one more
pub noted_next : (targets : List ℕ) (i : ℕ) (marks now next : List Bool) (waiting still later : List ℕ) → i < length targets → AreNoted (λ s. Contains (take i targets) s) marks waiting now still →
    AreNoted (λ s. s ≡ get_or targets i 0) now still next later → AreNoted (λ s. Contains (take (i + 1) targets) s) marks waiting next later
noted_next targets i marks now next waiting still later less is more =
    noted_more (λ s. Contains (take i targets) s) (λ s. Contains (take (i + 1) targets) s) (get_or targets i 0)
    (subst (λ (xs : List ℕ). Contains xs (get_or targets i 0)) (sym split) (Contains-push (take i targets) (get_or targets i 0)))
    (λ s c. subst (λ (xs : List ℕ). Contains xs s) (sym split) (Contains-append_left (take i targets) (get_or targets i 0 ∷ []) s c))
    (λ s c. back s (Contains-push_cases (take i targets) (get_or targets i 0) s (subst (λ (xs : List ℕ). Contains xs s) split c)))
    marks now next waiting still later is more
  where
    split : take (i + 1) targets ≡ take i targets ++ get_or targets i 0 ∷ []
    split = take_more targets i 0 less

    back : (s : ℕ) → Contains (take i targets) s ⊎ (get_or targets i 0 ≡ s) → Contains (take i targets) s ⊎ (s ≡ get_or targets i 0)
    back s (inl c) = inl c
    back s (inr e) = inr (sym e)

-- all of them
pub noted_all : (targets : List ℕ) (i : ℕ) (marks now : List Bool) (waiting still : List ℕ) → length targets ≤ i → AreNoted (λ s. Contains (take i targets) s) marks waiting now still →
    AreNoted (λ s. Contains targets s) marks waiting now still
noted_all targets i marks now waiting still all is = subst (λ (xs : List ℕ). AreNoted (λ s. Contains xs s) marks waiting now still) (take_all i targets all) is
