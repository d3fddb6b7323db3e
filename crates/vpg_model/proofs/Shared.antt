-- `true` and `false` have one vertex each.
use Rattle.std.proofs.Common.{◌≡◌, ℕ, zero, suc, ◌<◌, ◌⊎◌, inl, inr, Bool, List, [], ◌∷◌, length, get_or, map, filter, refl, sym, ◌∙◌, subst, ap, Contains, All, arith}
use Rattle.std.proofs.lemmas.List.{length-map}
use Rattle.vpg_requirement.specs.NormalForms.{NormalForm, met, unmet, both, either, some_step, every_step, fixpoint, variable}
use Rattle.vpg_requirement.specs.Situations.{Binder, Situation, situation, situation_at, no_situation}
use Rattle.vpg_parts.specs.declared.part.Kind.{Kind as PartKind}
use Rattle.vpg_parts.specs.declared.part.Part.{Part}
use Rattle.vpg_parts.specs.declared.part.Part.TheVariants.{True, False, And, Or, SomeStep, EveryStep, Fixpoint, Variable}
use Rattle.vpg_parts.specs.Parts.{part_at, resolved_part, kind_of}
use Rattle.vpg_model.specs.Departures.{Departure}
use Rattle.vpg_parts.specs.Sets.{is_permitted}
use Rattle.vpg_model.specs.Pairs.{pair_by, pair_for, pair_at, departures_at, moves_by, targets, targets_from, AreDistinct, AreReached}
use Rattle.vpg_model.specs.Forms.{IsFormAt, StandFor, situation_in}
use Rattle.vpg_model.specs.Laws.{HasOneVertex}
use Rattle.vpg_model.proofs.Search.{Pairs}

-- ---- each pair is that of a part at a state

abbrev pub IsHome : List Part → ℕ × ℕ → Type 0
IsHome parts pair = (s : ℕ) × (k : ℕ) × (pair ≡ pair_for parts s k)

abbrev pub AreHomes : List Part → Pairs → Type 0
AreHomes parts pairs = (v : ℕ) → v < length pairs → IsHome parts (pair_at pairs v)

home : (parts : List Part) (s k : ℕ) → IsHome parts (pair_for parts s k)
home parts s k = (s, k, refl)

along : (parts : List Part) (a : ℕ) (departures : List Departure) → All (IsHome parts) (targets (map (λ t. record { guard = t.guard; to = pair_for parts t.target a }) departures))
along parts a [] k d l = absurd (omega arith)
along parts a (t ∷ departures) zero d l = home parts t.target a
along parts a (t ∷ departures) (suc k) d l = along parts a departures k d (omega arith)

one : (parts : List Part) (p : ℕ × ℕ) → IsHome parts p → All (IsHome parts) (p ∷ [])
one parts p h zero d l = h
one parts p h (suc k) d l = absurd (omega arith)

two : (parts : List Part) (p q : ℕ × ℕ) → IsHome parts p → IsHome parts q → All (IsHome parts) (p ∷ q ∷ [])
two parts p q h i zero d l = h
two parts p q h i (suc zero) d l = i
two parts p q h i (suc (suc k)) d l = absurd (omega arith)

homes_by : (states : List (List Departure)) (sets : List (List Bool)) (parts : List Part) (s : ℕ) (p : Part) → All (IsHome parts) (targets (moves_by states sets parts s p))
homes_by states sets parts s True = λ k d l. absurd (omega arith)
homes_by states sets parts s False = λ k d l. absurd (omega arith)
homes_by states sets parts s (And a b) = two parts (pair_for parts s a) (pair_for parts s b) (home parts s a) (home parts s b)
homes_by states sets parts s (Or a b) = two parts (pair_for parts s a) (pair_for parts s b) (home parts s a) (home parts s b)
homes_by states sets parts s (SomeStep x a) = along parts a (filter (λ t. is_permitted sets x t.action) (departures_at states s))
homes_by states sets parts s (EveryStep x a) = along parts a (filter (λ t. is_permitted sets x t.action) (departures_at states s))
homes_by states sets parts s (Fixpoint kind p b) = one parts (pair_for parts s b) (home parts s b)
homes_by states sets parts s (Variable m) = λ k d l. absurd (omega arith)

mapped : {X Y : Type 0} (f : X → Y) (xs : List X) (d : X) (e : Y) (k : ℕ) → k < length xs → get_or (map f xs) k e ≡ f (get_or xs k d)
mapped f [] d e k l = absurd (omega arith)
mapped f (x ∷ xs) d e zero l = refl
mapped f (x ∷ xs) d e (suc k) l = mapped f xs d e k (omega arith)

pub homes : (states : List (List Departure)) (sets : List (List Bool)) (parts : List Part) (first : ℕ) (roots : List ℕ) (pairs : Pairs) → AreReached states sets parts (map (pair_for parts first) roots) pairs → AreHomes parts pairs
homes states sets parts first roots pairs h v l = of (h v l)
  where
    of : Contains (map (pair_for parts first) roots) (pair_at pairs v) ⊎ ((u : ℕ) × (u < v) × Contains (targets_from states sets parts (pair_at pairs u)) (pair_at pairs v)) → IsHome parts (pair_at pairs v)
    of (inl c) = (first, get_or roots c.0 0, sym c.2 ∙ mapped (pair_for parts first) roots 0 (pair_at pairs v) c.0 (omega (arith, c.1, length-map roots (pair_for parts first))))
    of (inr w) = subst (IsHome parts) w.2.2 (homes_by states sets parts (pair_at pairs w.0).0 (resolved_part parts (pair_at pairs w.0).1) w.2.0 (pair_at pairs v) w.2.1)

-- ---- the constants

module _ (labels : ℕ) (sets : List (List Bool)) (parts : List Part) (form : ℕ → NormalForm) (scope : ℕ → List Binder) (arena : StandFor labels sets parts form scope) where
  abbrev IsForm : ℕ → Part → Type 0
  IsForm k p = IsFormAt labels sets parts form scope k p

  abbrev part_in : ℕ × ℕ → NormalForm
  part_in pair = (situation_in form scope pair).part

  -- the pair is that of `true`, or of `false`, or of another part
  abbrev IsSorted : ℕ × ℕ → Type 0
  IsSorted pair = ((pair ≡ (0, 0)) × (part_in pair ≡ met)) ⊎ ((pair ≡ (0, 1)) × (part_in pair ≡ unmet)) ⊎ ((part_in pair ≡ met → ⊥) × (part_in pair ≡ unmet → ⊥))

  -- the part of a situation, where its normal form is known
  same_part : (s k : ℕ) (f : NormalForm) → form k ≡ f → part_in (s, k) ≡ (situation s f (scope k)).part
  same_part s k f e = ap (λ (g : NormalForm). (situation s g (scope k)).part) e

  other : (s k : ℕ) (f : NormalForm) → part_in (s, k) ≡ f → (f ≡ met → ⊥) → (f ≡ unmet → ⊥) → IsSorted (s, k)
  other s k f e m u = inr (inr ((λ x. m (sym e ∙ x)), (λ x. u (sym e ∙ x))))

  taken : (s k : ℕ) (kind : PartKind) (p b : ℕ) → IsForm k (Fixpoint kind p b) → IsSorted (s, k)
  taken s k kind p b h = other s k (variable 0) (same_part s k (fixpoint (kind_of kind) p (form b)) h.0) (λ e. absurd cc) (λ e. absurd cc)

  sorted : (s k : ℕ) (p : Part) → IsForm k p → IsSorted (pair_by s k p)
  sorted s k True h = inl (refl, same_part 0 0 met (subst (IsForm 0) arena.constants.truth (arena.each 0)))
  sorted s k False h = inr (inl (refl, same_part 0 1 unmet (subst (IsForm 1) arena.constants.falsehood (arena.each 1))))
  sorted s k (And a b) h = other s k (both (form a) (form b)) (same_part s k (both (form a) (form b)) h.0) (λ e. absurd cc) (λ e. absurd cc)
  sorted s k (Or a b) h = other s k (either (form a) (form b)) (same_part s k (either (form a) (form b)) h.0) (λ e. absurd cc) (λ e. absurd cc)
  sorted s k (SomeStep x a) h = other s k (some_step h.0 (form a)) (same_part s k (some_step h.0 (form a)) h.1) (λ e. absurd cc) (λ e. absurd cc)
  sorted s k (EveryStep x a) h = other s k (every_step h.0 (form a)) (same_part s k (every_step h.0 (form a)) h.1) (λ e. absurd cc) (λ e. absurd cc)
  sorted s k (Fixpoint kind p b) h = taken s k kind p b h
  sorted s k (Variable m) h = taken s m h.1 h.2 h.3 (subst (IsForm m) h.4 (arena.each m))

  sorted_home : (pair : ℕ × ℕ) → IsHome parts pair → IsSorted pair
  sorted_home pair h = subst IsSorted (sym h.2) (sorted h.0 h.1 (part_at parts h.1) (arena.each h.1))

  met_is : (pair : ℕ × ℕ) → part_in pair ≡ met → IsSorted pair → pair ≡ (0, 0)
  met_is pair e (inl h) = h.0
  met_is pair e (inr (inl h)) = let x : met ≡ unmet = sym e ∙ h.1 in absurd cc
  met_is pair e (inr (inr h)) = absurd (h.0 e)

  unmet_is : (pair : ℕ × ℕ) → part_in pair ≡ unmet → IsSorted pair → pair ≡ (0, 1)
  unmet_is pair e (inl h) = let x : unmet ≡ met = sym e ∙ h.1 in absurd cc
  unmet_is pair e (inr (inl h)) = h.0
  unmet_is pair e (inr (inr h)) = absurd (h.1 e)

  abbrev sit : ℕ × ℕ → Situation
  sit pair = situation_in form scope pair

  one_vertex : (f : NormalForm) (c : ℕ × ℕ) → ((pair : ℕ × ℕ) → part_in pair ≡ f → IsSorted pair → pair ≡ c) → (pairs : Pairs) → AreDistinct pairs → AreHomes parts pairs → HasOneVertex f (map sit pairs)
  one_vertex f c is pairs distinct h u v l within eu ev = distinct u v l below (at u (omega (arith, l, below)) eu ∙ sym (at v below ev))
    where
      below : v < length pairs
      below = omega (arith, within, length-map pairs sit)

      at : (w : ℕ) → w < length pairs → (situation_at (map sit pairs) w).part ≡ f → pair_at pairs w ≡ c
      at w j e = is (pair_at pairs w) (sym (ap (λ (q : Situation). q.part) (mapped sit pairs (0, 0) no_situation w j)) ∙ e) (sorted_home (pair_at pairs w) (h w j))

  pub one_met : (pairs : Pairs) → AreDistinct pairs → AreHomes parts pairs → HasOneVertex met (map sit pairs)
  one_met pairs distinct h = one_vertex met (0, 0) met_is pairs distinct h

  pub one_unmet : (pairs : Pairs) → AreDistinct pairs → AreHomes parts pairs → HasOneVertex unmet (map sit pairs)
  one_unmet pairs distinct h = one_vertex unmet (0, 1) unmet_is pairs distinct h
