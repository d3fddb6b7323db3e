-- A search by rows of targets.
use Rattle.std.proofs.Common.{◌≡◌, ℕ, zero, suc, ◌+◌, ◌<◌, ◌⊎◌, inl, inr, Bool, false, List, [], ◌∷◌, ◌++◌, length, get_or, replicate, Contains, All, refl, sym, ap, ◌∙◌, subst, arith}
use Rattle.std.proofs.lemmas.List.{length-replicate, length_push}
use Rattle.std.proofs.lemmas.List.Elements.{Contains-append_left, Contains-push, Contains-push_cases, Contains-get_or}
use Rattle.vpg_diagram.proofs.Lists.{Contains-nil}
use Rattle.vpg_system_draw.specs.Reached.{Leads, here, onward}
use Rattle.vpg_system_draw.specs.Searched.{IsMarked, unmarked, AreNoted, RowStep, AreInside, IsSearching, IsSearched}

-- ---- ways

pub last : {Step : ℕ → ℕ → Type 0} {a b c : ℕ} → Leads Step a b → Step b c → Leads Step a c
last here s = onward s here
last (onward r l) s = onward r (last l s)

pub along : {Step Other : ℕ → ℕ → Type 0} → ((a b : ℕ) → Step a b → Other a b) → {a b : ℕ} → Leads Step a b → Leads Other a b
along to here = here
along to (onward {s} {w} r l) = onward (to s w r) (along to l)

-- ---- before the search

blank_is : (n s : ℕ) → get_or (replicate n false) s false ≡ false
blank_is zero s = refl
blank_is (suc n) zero = refl
blank_is (suc n) (suc s) = blank_is n s

pub blank_length : (n s : ℕ) (marks : List Bool) → marks ≡ replicate n false → s < n → s < length marks
blank_length n s marks blank less = omega (arith, less, ap length blank, length-replicate n false)

module _ (rows : List (List ℕ)) (first : ℕ) where
  pub searching_begun : (marks later : List Bool) (waiting still : List ℕ) → marks ≡ replicate (length rows) false → waiting ≡ [] → AreNoted (λ s. s ≡ first) marks waiting later still →
      IsSearching rows first later still
  searching_begun marks later waiting still blank empty noted = record {
    count = noted.count ∙ ap length blank ∙ length-replicate (length rows) false;
    begun = noted.noted first refl;
    found = λ s m. subst (λ (k : ℕ). Leads (RowStep rows) first k) (sym (alone s (noted.only s m))) here;
    marked = λ s c. waited s (noted.marked s c);
    visited = λ s m. waits s (noted.new s m);
  }
    where
      never : (s : ℕ) → IsMarked marks s → ⊥
      never s m = cc (sym (ap (λ (ms : List Bool). get_or ms s false) blank ∙ blank_is (length rows) s) ∙ m)

      alone : (s : ℕ) → IsMarked marks s ⊎ (s ≡ first) → s ≡ first
      alone s (inl m) = absurd (never s m)
      alone s (inr e) = e

      waited : (s : ℕ) → Contains waiting s ⊎ IsMarked later s → IsMarked later s
      waited s (inl c) = absurd (Contains-nil s (subst (λ (ws : List ℕ). Contains ws s) empty c))
      waited s (inr m) = m

      waits : (s : ℕ) → IsMarked marks s ⊎ Contains still s → Contains still s ⊎ ((w : ℕ) → RowStep rows s w → IsMarked later w)
      waits s (inl m) = absurd (never s m)
      waits s (inr c) = inl c

  -- ---- one state is visited

  module _ (marks : List Bool) (waiting rest : List ℕ) (s : ℕ) (is : IsSearching rows first marks waiting) (left : waiting ≡ rest ++ s ∷ []) where
    before : (v : ℕ) → Contains waiting v → Contains rest v ⊎ (s ≡ v)
    before v c = Contains-push_cases rest s v (subst (λ (ws : List ℕ). Contains ws v) left c)

    there : IsMarked marks s
    there = is.marked s (subst (λ (ws : List ℕ). Contains ws s) (sym left) (Contains-push rest s))

    pub targets_inside : (row : List ℕ) → AreInside rows → row ≡ get_or rows s [] → All (λ w. w < length marks) row
    targets_inside row inside same k d less = subst (λ n. get_or row k d < n) (sym is.count)
        (inside s (get_or row k d) (subst (λ (r : List ℕ). Contains r (get_or row k d)) same (Contains-get_or row k d less)))

    pub visited_next : (row : List ℕ) (later : List Bool) (still : List ℕ) → row ≡ get_or rows s [] → AreNoted (λ w. Contains row w) marks rest later still → IsSearching rows first later still
    visited_next row later still same noted = record {
      count = noted.count ∙ is.count;
      begun = noted.kept first is.begun;
      found = λ v m. found v (noted.only v m);
      marked = λ v c. marked v (noted.marked v c);
      visited = λ v m. visited v (noted.new v m);
    }
      where
        found : (v : ℕ) → IsMarked marks v ⊎ Contains row v → Leads (RowStep rows) first v
        found v (inl m) = is.found v m
        found v (inr c) = last (is.found s there) (subst (λ (r : List ℕ). Contains r v) same c)

        marked : (v : ℕ) → Contains rest v ⊎ IsMarked later v → IsMarked later v
        marked v (inl c) = noted.kept v (is.marked v (subst (λ (ws : List ℕ). Contains ws v) (sym left) (Contains-append_left rest (s ∷ []) v c)))
        marked v (inr m) = m

        after : (v : ℕ) → Contains rest v ⊎ (s ≡ v) → Contains still v ⊎ ((w : ℕ) → RowStep rows v w → IsMarked later w)
        after v (inl c) = inl (noted.waits v c)
        after v (inr e) = inr (λ w step. noted.noted w (subst (λ (r : List ℕ). Contains r w) (sym (same ∙ ap (λ (k : ℕ). get_or rows k []) e)) step))

        done : (v : ℕ) → Contains waiting v ⊎ ((w : ℕ) → RowStep rows v w → IsMarked marks w) → Contains still v ⊎ ((w : ℕ) → RowStep rows v w → IsMarked later w)
        done v (inl c) = after v (before v c)
        done v (inr all) = inr (λ w step. noted.kept w (all w step))

        visited : (v : ℕ) → IsMarked marks v ⊎ Contains still v → Contains still v ⊎ ((w : ℕ) → RowStep rows v w → IsMarked later w)
        visited v (inl m) = done v (is.visited v m)
        visited v (inr c) = inl c

  -- ---- none waits

  pub searched : (marks : List Bool) (waiting : List ℕ) → waiting ≡ [] → IsSearching rows first marks waiting → IsSearched rows first marks
  searched marks waiting empty is = record { count = is.count; found = is.found; all = λ s l. onto l is.begun }
    where
      next : (s w : ℕ) → Contains waiting s ⊎ ((v : ℕ) → RowStep rows s v → IsMarked marks v) → RowStep rows s w → IsMarked marks w
      next s w (inl c) step = absurd (Contains-nil s (subst (λ (ws : List ℕ). Contains ws s) empty c))
      next s w (inr all) step = all w step

      onto : {a b : ℕ} → Leads (RowStep rows) a b → IsMarked marks a → IsMarked marks b
      onto here m = m
      onto (onward {s} {w} step l) m = onto l (next s w (is.visited s m) step)

-- ---- work that is left

pub less_work : (marks later : List Bool) (waiting rest still : List ℕ) (s : ℕ) → waiting ≡ rest ++ s ∷ [] → unmarked later + length still ≡ unmarked marks + length rest →
    unmarked later + length still < unmarked marks + length waiting
less_work marks later waiting rest still s left work = omega (arith, ap length left, length_push rest s, work)
