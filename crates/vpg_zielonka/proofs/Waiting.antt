-- The vertices that wait stand in the queue, also when the first one is taken.
use Rattle.std.proofs.Common.{◌≡◌, ℕ, suc, ◌+◌, ◌<◌, ◌≤◌, ◌⊎◌, inl, inr, List, ◌∷◌, Bool, true, false, length, get_or, set, sym, ◌∙◌, subst, Contains, arith}
use Rattle.std.proofs.lemmas.Bool.{cases_eq}
use Rattle.vpg_hope.proofs.Edges.{Contains-cases}
use Rattle.vpg_zielonka.specs.declared.subset.Subset.{Subset}
use Rattle.vpg_zielonka.specs.declared.universe.Universe.{Universe}
use Rattle.vpg_zielonka.specs.Universes.{has}
use Rattle.vpg_zielonka.specs.Parts.{set_at, part_in, AreSets}
use Rattle.vpg_zielonka.specs.Worklists.{IsQueue}
use Rattle.vpg_zielonka.proofs.Draws.{set_here, set_there, set_count}
use Rattle.vpg_zielonka.proofs.Filling.{part_inside, part_below}

pub queue_rest : (list : List Bool) (rest : List ℕ) (v : ℕ) → IsQueue list (v ∷ rest) → IsQueue (set list v false) rest
queue_rest list rest v is = record {
  inside = λ k d l. subst (λ n. get_or rest k d < n) (sym (set_count list v false)) (is.inside (suc k) d (omega (arith, l)));
  all = λ x e. of x e (cases_eq x v);
}
  where
    taken : get_or (set list v false) v false ≡ false
    taken = set_here list v false false (is.inside 0 0 (omega arith))

    clash : {b : Bool} → b ≡ false → b ≡ true → ⊥
    clash f h = cc (f, h)

    other : (x : ℕ) → (x ≡ v → ⊥) → (v ≡ x) ⊎ Contains rest x → Contains rest x
    other x n (inl h) = absurd (n (sym h))
    other x n (inr h) = h

    of : (x : ℕ) → get_or (set list v false) x false ≡ true → (x ≡ v) ⊎ (x ≡ v → ⊥) → Contains rest x
    of x e (inl h) = absurd (clash taken (subst (λ y. get_or (set list v false) y false ≡ true) h e))
    of x e (inr n) = other x n (Contains-cases v rest x (is.all x (sym (set_there list v x false false n) ∙ e)))

-- the first vertices that have a product wait
pub record AreWaiting (universe : Universe) (part : List Subset) (n i : ℕ) (waiting : List Bool) : Type 0 where
  pub count : length waiting ≡ n
  pub waits : (p : List Bool) (v : ℕ) → v < i → part_in universe part p v ≡ true → get_or waiting v false ≡ true

module _ (universe : Universe) (part : List Subset) (n : ℕ) where
  pub waiting_add : (i : ℕ) (waiting later : List Bool) → i < n → later ≡ set waiting i true →
      AreWaiting universe part n i waiting → AreWaiting universe part n (i + 1) later
  waiting_add i waiting later l e are = subst (λ (xs : List Bool). AreWaiting universe part n (i + 1) xs) (sym e) (record {
    count = set_count waiting i true ∙ are.count;
    waits = λ p v k m. of p v k m (cases_eq v i);
  })
    where
      of : (p : List Bool) (v : ℕ) → v < i + 1 → part_in universe part p v ≡ true → (v ≡ i) ⊎ (v ≡ i → ⊥) →
          get_or (set waiting i true) v false ≡ true
      of p v k m (inl h) = subst (λ x. get_or (set waiting i true) x false ≡ true) (sym h)
          (set_here waiting i true false (subst (λ x. i < x) (sym are.count) l))
      of p v k m (inr h) = set_there waiting i v true false h ∙ are.waits p v (omega (arith, h, k)) m

  pub waiting_skip : (i : ℕ) (waiting : List Bool) → AreSets universe n part → i < n →
      ((p : List Bool) → has universe (set_at part i) p ≡ false) →
      AreWaiting universe part n i waiting → AreWaiting universe part n (i + 1) waiting
  waiting_skip i waiting sets l none are = record {
    count = are.count;
    waits = λ p v k m. of p v k m (cases_eq v i);
  }
    where
      clash : {b : Bool} → b ≡ false → b ≡ true → ⊥
      clash f t = cc (f, t)

      of : (p : List Bool) (v : ℕ) → v < i + 1 → part_in universe part p v ≡ true → (v ≡ i) ⊎ (v ≡ i → ⊥) →
          get_or waiting v false ≡ true
      of p v k m (inl h) = absurd (clash (none p) (sym (part_inside universe part p i
          (subst (λ x. i < x) (sym sets.count_is) l)) ∙ subst (λ x. part_in universe part p x ≡ true) h m))
      of p v k m (inr h) = are.waits p v (omega (arith, h, k)) m

  pub waiting_all : (i : ℕ) (waiting : List Bool) → AreSets universe n part → n ≤ i → AreWaiting universe part n i waiting →
      (p : List Bool) (v : ℕ) → part_in universe part p v ≡ true → get_or waiting v false ≡ true
  waiting_all i waiting sets l are p v m = are.waits p v below m
    where
      below : v < i
      below = omega (arith, l, part_below universe part p v m, sets.count_is)
