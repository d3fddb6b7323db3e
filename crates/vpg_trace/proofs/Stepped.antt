-- The code of the walk, step by step.
use Rattle.std.proofs.Common.{◌≡◌, ℕ, zero, suc, ◌+◌, ◌-◌, ◌<◌, ◌≤◌, true, List, [], ◌∷◌, ◌++◌, length, get_or, drop, reverse, Option, Some, refl, sym, ap, ap₂, ◌∙◌, arith}
use Rattle.std.specs.Prelude.{Bool, ◌==◌, ◌||◌, not}
use Rattle.std.proofs.lemmas.Bool.{ne_eqb}
use Rattle.std.proofs.lemmas.List.{reverse-append, nil_from_length, drop_more}
use Rattle.vpg_hope.specs.Games.{Game}
use Rattle.vpg_trace.specs.declared.walking.Visit.{Visit}
use Rattle.vpg_trace.specs.declared.walking.Waiting.{Waiting}
use Rattle.vpg_trace.specs.Walks.{Walked, depth_before, is_above, is_left, opened, visit_before, visit_of, waiting_from, walk, walked}

-- ---- what waits

abbrev one_waiting : ℕ → ℕ → ℕ → ℕ → Waiting
one_waiting k depth own w = record { vertex = w; before = Some k; depth = own }

reverse_push : {X : Type 0} (xs : List X) (x : X) → reverse (xs ++ x ∷ []) ≡ x ∷ reverse xs
reverse_push xs x = reverse-append xs (x ∷ [])

dropped_one : (ws : List ℕ) (j : ℕ) → j < length ws → drop j ws ≡ get_or ws j 0 ∷ drop (suc j) ws
dropped_one ws j l = drop_more ws j 0 l ∙ ap (λ (n : ℕ). get_or ws j 0 ∷ drop n ws) (let e : j + 1 ≡ suc j = omega arith in e)

-- one more waits
pub waits_more : (k depth own : ℕ) (ws : List ℕ) (j : ℕ) (old items more : List Waiting) → suc j ≤ length ws → own ≡ depth_before depth (drop (suc j) ws) →
    more ≡ items ++ one_waiting k depth own (get_or ws j 0) ∷ [] → reverse items ≡ waiting_from k depth (drop (suc j) ws) ++ reverse old →
    reverse more ≡ waiting_from k depth (drop j ws) ++ reverse old
waits_more k depth own ws j old items more l own_is more_is is =
    ap (λ (xs : List Waiting). reverse xs) more_is
    ∙ (reverse_push items (one_waiting k depth own (get_or ws j 0))
    ∙ (ap₂ (λ (n : ℕ) (xs : List Waiting). one_waiting k depth n (get_or ws j 0) ∷ xs) own_is is
    ∙ ap (λ (us : List ℕ). waiting_from k depth us ++ reverse old) (sym (dropped_one ws j (let within : j < length ws = omega arith in within)))))

-- ---- the walk

no_more : {X : Type 0} (xs : List X) → length xs ≡ 0 → reverse xs ≡ []
no_more {X} xs e = ap (λ (ys : List X). reverse ys) (nil_from_length xs e)

module _ (game : Game) (moves : List (Option ℕ)) where
  walk_nil : (n : ℕ) (visits : List Visit) → walked visits [] ≡ walk game moves n [] visits
  walk_nil zero visits = refl
  walk_nil (suc n) visits = refl

  -- none waits any more
  pub walk_ends : (n : ℕ) (items rest : List Waiting) (visits : List Visit) (whole : Walked) → length items ≡ 0 → length rest ≡ 0 →
      walk game moves n (reverse items) visits ≡ whole → walked visits (reverse rest) ≡ whole
  walk_ends n items rest visits whole none gone is =
      ap (λ (os : List Waiting). walked visits os) (no_more rest gone)
      ∙ (walk_nil n visits ∙ (ap (λ (os : List Waiting). walk game moves n os visits) (sym (no_more items none)) ∙ is))

  -- one more was made
  pub walk_more : (most c : ℕ) (items rest more : List Waiting) (next : Waiting) (visits later : List Visit) (whole : Walked) → c < most → items ≡ rest ++ next ∷ [] →
      later ≡ visits ++ visit_of game moves visits next ∷ [] → reverse more ≡ opened game moves visits next ++ reverse rest →
      walk game moves (most - c) (reverse items) visits ≡ whole → walk game moves (most - (c + 1)) (reverse more) later ≡ whole
  walk_more most c items rest more next visits later whole l items_is later_is more_is is =
      ap₂ (λ (os : List Waiting) (vs : List Visit). walk game moves (most - (c + 1)) os vs) more_is later_is
      ∙ (ap₂ (λ (n : ℕ) (os : List Waiting). walk game moves n os visits) one_less (sym (ap (λ (os : List Waiting). reverse os) items_is ∙ reverse_push rest next)) ∙ is)
    where
      one_less : suc (most - (c + 1)) ≡ most - c
      one_less = omega arith

-- ---- whether it was cut

left_behind : (os : List Waiting) (o : Waiting) → is_left (os ++ o ∷ []) ≡ true
left_behind [] o = refl
left_behind (p ∷ os) o = refl

-- some wait, or none
pub left_is : (items : List Waiting) (n : ℕ) → n ≡ length items → not (n == 0) ≡ is_left (reverse items)
left_is [] n e = ap (λ (k : ℕ). not (k == 0)) e
left_is (o ∷ items) n e = ap (λ (k : ℕ). not (k == 0)) e ∙ (some (length items) ∙ sym (ap is_left (reverse_first o items) ∙ left_behind (reverse items) o))
  where
    some : (k : ℕ) → not (suc k == 0) ≡ true
    some k = ap not (ne_eqb (suc k) 0 (λ q. omega (arith, q)))

    reverse_first : (p : Waiting) (ps : List Waiting) → reverse (p ∷ ps) ≡ reverse ps ++ p ∷ []
    reverse_first p ps = reverse-append (p ∷ []) ps

-- ---- the way to a visit

-- what is left to look at, one visit on
pub above_next : (visits : List Visit) (k i : ℕ) (at before : Option ℕ) (n c : ℕ) → c < n → at ≡ Some i → (i ≡ k → ⊥) → before ≡ visit_before visits i →
    is_above visits k (n - (c + 1)) before ≡ is_above visits k (n - c) at
above_next visits k i at before n c l at_is other before_is =
    ap (is_above visits k (n - (c + 1))) before_is
    ∙ (ap (λ (b : Bool). b || is_above visits k (n - (c + 1)) (visit_before visits i)) (sym (ne_eqb i k other))
    ∙ ap₂ (λ (m : ℕ) (o : Option ℕ). is_above visits k m o) one_less (sym at_is))
  where
    one_less : suc (n - (c + 1)) ≡ n - c
    one_less = omega arith
