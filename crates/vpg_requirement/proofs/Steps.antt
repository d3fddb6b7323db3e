-- Each move that keeps to what holds lowers the progress numbers as a winning strategy needs it.
use Rattle.std.proofs.Common.{◌≡◌, ℕ, zero, suc, ◌+◌, ◌*◌, ◌/◌, ◌%◌, ◌<◌, ◌≤◌, ◌⊎◌, inl, inr, Bool, true, false, cond, eqb, List, [], ◌∷◌, length, map, refl, sym, ◌∙◌, subst, Contains, arith}
use Rattle.std.proofs.lemmas.Bool.{cases_Bool, cases_lt, eqb-false, ne_eqb}
use Rattle.std.proofs.lemmas.Nat.{div-mul-add, mod-mul-add, mod_below, div-add-mod'}
use Rattle.std.proofs.Math.Nat.{mul-le-mul_right}
use Rattle.vpg_hope.proofs.Edges.{Contains-first, Contains-later, Contains-cases, not_in_nil}
use Rattle.vpg_requirement.specs.Systems.{PlainSystem, IsClosedSystem}
use Rattle.vpg_requirement.specs.Fixpoints.{Kind, least, greatest, StateSet, nothing}
use Rattle.vpg_requirement.specs.NormalForms.{NormalForm, met, unmet, both, either, some_step, every_step, fixpoint, variable, HasPriorities}
use Rattle.vpg_requirement.specs.Situations.{Binder, Situation, situation, part_priority}
use Rattle.vpg_requirement.proofs.Evaluation.{iterate, holds}
use Rattle.vpg_requirement.proofs.Fixpoints.{body_grows, greatest_supported}
use Rattle.vpg_requirement.proofs.Numbers.{padded, taken_up, taken_down}
use Rattle.vpg_requirement.proofs.Signatures.{base, ranks, values, signature, IsHeld, IsRankedAt, progress, IsEntered, situation_entered}

-- how much of a part lies above its fixpoints and variables
abbrev pub size : NormalForm → ℕ
size met = 0
size unmet = 0
size (both f g) = suc (size f + size g)
size (either f g) = suc (size f + size g)
size (some_step x f) = suc (size f)
size (every_step x f) = suc (size f)
size (fixpoint kind p f) = 0
size (variable i) = 0

pub situation_size : (t : ℕ) (g : NormalForm) (scope : List Binder) → size (situation t g scope).part ≤ size g
situation_size t met scope = omega arith
situation_size t unmet scope = omega arith
situation_size t (both f g) scope = omega arith
situation_size t (either f g) scope = omega arith
situation_size t (some_step x f) scope = omega arith
situation_size t (every_step x f) scope = omega arith
situation_size t (fixpoint kind p f) scope = omega arith
situation_size t (variable i) scope = omega arith

pub mapped_contains : {X Y : Type 0} (g : X → Y) (xs : List X) (y : Y) → Contains (map g xs) y → (x : X) × Contains xs x × (g x ≡ y)
mapped_contains g [] y c = absurd (not_in_nil y c)
mapped_contains {X} {Y} g (x ∷ xs) y c = split (Contains-cases (g x) (map g xs) y c) (mapped_contains g xs y)
  where
    split : (g x ≡ y) ⊎ Contains (map g xs) y → (Contains (map g xs) y → (u : X) × Contains xs u × (g u ≡ y)) → (u : X) × Contains (x ∷ xs) u × (g u ≡ y)
    split (inl e) rest = (x, Contains-first x xs, e)
    split (inr k) rest = later (rest k)
      where
        later : (u : X) × Contains xs u × (g u ≡ y) → (u : X) × Contains (x ∷ xs) u × (g u ≡ y)
        later u = (u.0, Contains-later x xs u.0 u.1, u.2)

pub contains_mapped : {X Y : Type 0} (g : X → Y) (xs : List X) (x : X) → Contains xs x → Contains (map g xs) (g x)
contains_mapped g [] x c = absurd (not_in_nil x c)
contains_mapped g (u ∷ xs) x c = split (Contains-cases u xs x c) (contains_mapped g xs x)
  where
    split : (u ≡ x) ⊎ Contains xs x → (Contains xs x → Contains (map g xs) (g x)) → Contains (g u ∷ map g xs) (g x)
    split (inl e) rest = subst (λ z. Contains (g u ∷ map g xs) (g z)) e (Contains-first (g u) (map g xs))
    split (inr k) rest = Contains-later (g u) (map g xs) (g x) (rest k)

module _ (system : PlainSystem) (low depth wide : ℕ) where
  abbrev pub value : ℕ → Situation → ℕ
  value m q = progress system depth m q * wide + cond (eqb m low) (size q.part) 0

  -- at each odd priority that the move does not pass over, the value does not rise, and falls where it is that of the move
  abbrev pub IsBetter : Situation → Situation → Type 0
  IsBetter p q = (m : ℕ) → m % 2 ≡ 1 → part_priority low p.part p.scope ≤ m →
      (value m q ≤ value m p) × (part_priority low p.part p.scope ≡ m → value m q < value m p)

  pub record IsFit (q : Situation) : Type 0 where
    pub short : length q.scope ≤ depth
    pub small : size q.part < wide

  -- a move that takes up no fixpoint
  plain_better : (p q : Situation) → IsFit q → IsEntered system depth p.scope (signature system p) q →
      ((m : ℕ) → progress system depth m p ≡ padded (base system) depth m (ranks p.scope) (signature system p)) → part_priority low p.part p.scope ≡ low → size q.part < size p.part → IsBetter p q
  plain_better p q fit entered plain lowest smaller m odd l = decide (cases_Bool (eqb m low))
    where
      no_more : progress system depth m q ≤ progress system depth m p
      no_more = rw plain (entered.below m)

      scaled : progress system depth m q * wide ≤ progress system depth m p * wide
      scaled = mul-le-mul_right wide no_more

      decide : (eqb m low ≡ true) ⊎ (eqb m low ≡ false) → (value m q ≤ value m p) × (part_priority low p.part p.scope ≡ m → value m q < value m p)
      decide (inl t) = rw t (omega (arith, scaled, smaller), λ e. omega (arith, scaled, smaller))
      decide (inr f) = rw f (omega (arith, scaled), λ e. absurd (eqb-false m low f (sym e ∙ lowest)))

  -- a move that takes one up, where the numbers do not rise
  taken_better : (p q : Situation) → IsFit q → (r : ℕ) → part_priority low p.part p.scope ≡ r → low ≤ r → ((m : ℕ) → m % 2 ≡ 1 → r < m → progress system depth m q ≤ progress system depth m p) →
      ((m : ℕ) → m % 2 ≡ 1 → r ≡ m → progress system depth m q < progress system depth m p) → IsBetter p q
  taken_better p q fit r is_rank high weak strict m odd l = decide (cases_lt r m)
    where
      bonus : (b : Bool) → cond b (size q.part) 0 < wide
      bonus true = fit.small
      bonus false = omega (arith, fit.small)

      decide : (r < m) ⊎ (m ≤ r) → (value m q ≤ value m p) × (part_priority low p.part p.scope ≡ m → value m q < value m p)
      decide (inl less) = rw (ne_eqb m low (λ e. absurd (omega arith))) (omega (arith, mul-le-mul_right wide (weak m odd less)), λ e. absurd (omega (arith, is_rank, e)))
      decide (inr more) = (omega (arith, falls), λ e. omega (arith, falls))
        where
          same : r ≡ m
          same = omega (arith, is_rank, l)

          scaled : suc (progress system depth m q) * wide ≤ progress system depth m p * wide
          scaled = mul-le-mul_right wide (strict m odd same)

          falls : value m q < value m p
          falls = omega (arith, scaled, bonus (eqb m low))

  -- the two together
  pub record IsGoodMove (p q : Situation) : Type 0 where
    pub is_held : IsHeld system q
    pub better : IsBetter p q

  pub plain_move : (s t : ℕ) (g h : NormalForm) (scope : List Binder) → IsHeld system (record { state = s; part = g; scope = scope }) → t < system.states → HasPriorities low (ranks scope) h → IsFit (situation t h scope) → length scope ≤ depth →
      holds system (values system scope (signature system (record { state = s; part = g; scope = scope }))) h t ≡ true → size h < size g →
      ((m : ℕ) → progress system depth m (record { state = s; part = g; scope = scope }) ≡ padded (base system) depth m (ranks scope) (signature system (record { state = s; part = g; scope = scope }))) →
      part_priority low g scope ≡ low → IsGoodMove (record { state = s; part = g; scope = scope }) (situation t h scope)
  plain_move s t g h scope held inside ranked fit short e smaller plain lowest = of (situation_entered system depth low t h scope (signature system (record { state = s; part = g; scope = scope })) inside held.small ranked fit.short short e)
    where
      of : IsEntered system depth scope (signature system (record { state = s; part = g; scope = scope })) (situation t h scope) → IsGoodMove (record { state = s; part = g; scope = scope }) (situation t h scope)
      of entered = record {
        is_held = entered.is_held;
        better = plain_better (record { state = s; part = g; scope = scope }) (situation t h scope) fit entered plain lowest (omega (arith, situation_size t h scope, smaller));
      }

  -- a fixpoint is taken up
  module _ (closed : IsClosedSystem system) (s p : ℕ) (f : NormalForm) (scope : List Binder) where
    abbrev at : Kind → Situation
    at kind = record { state = s; part = variable zero; scope = record { kind = kind; priority = p; body = f } ∷ scope }

    abbrev inner : Kind → List Binder
    inner kind = record { kind = kind; priority = p; body = f } ∷ scope

    taken : (kind : Kind) (y : ℕ) → IsHeld system (at kind) → IsRankedAt low (at kind) → IsFit (at kind) → IsFit (situation s f (inner kind)) → y ≤ signature system (at kind) → (p % 2 ≡ 1 → y < signature system (at kind)) →
        holds system (values system (inner kind) y) f s ≡ true → IsGoodMove (at kind) (situation s f (inner kind))
    taken kind y held ranked fit_p fit_q le lt e = of (situation_entered system depth low s f (inner kind) y held.is_state (omega (arith, le, held.small)) ranked.scope.2 fit_q.short fit_p.short e)
      where
        of : IsEntered system depth (inner kind) y (situation s f (inner kind)) → IsGoodMove (at kind) (situation s f (inner kind))
        of entered = record {
          is_held = entered.is_held;
          better = taken_better (at kind) (situation s f (inner kind)) fit_q p refl ranked.scope.1
              (λ m odd l. omega (arith, entered.below m, taken_up (base system) depth m (omega arith) p (ranks scope) y (signature system (at kind)) l le))
              (λ m odd same. omega (arith, entered.below m, taken_down (base system) depth m (omega arith) p (ranks scope) y (signature system (at kind)) (omega arith) (lt (omega arith))));
        }

    pub fixpoint_move : (kind : Kind) → IsHeld system (at kind) → IsRankedAt low (at kind) → IsFit (at kind) → IsFit (situation s f (inner kind)) → IsGoodMove (at kind) (situation s f (inner kind))
    fixpoint_move greatest held ranked fit_p fit_q = taken greatest (signature system (at greatest)) held ranked fit_p fit_q (omega arith) (λ odd. absurd (omega (arith, ranked.scope.0)))
        (greatest_supported system.states (λ set. holds system (set ∷ values system scope (signature system (at greatest) / base system)) f)
        (body_grows system closed (values system scope (signature system (at greatest) / base system)) f) s held.is_state held.passing)
    fixpoint_move least held ranked fit_p fit_q = go (n % base system) refl held.passing
      where
        n : ℕ
        n = signature system (at least)

        sets : List StateSet
        sets = values system scope (n / base system)

        go : (k : ℕ) → n % base system ≡ k → iterate k (λ set. holds system (set ∷ sets) f) nothing s ≡ true → IsGoodMove (at least) (situation s f (inner least))
        go zero e h = absurd (clash h)
          where
            clash : false ≡ true → ⊥
            clash e = cc
        go (suc k) e h = taken least y held ranked fit_p fit_q (omega arith) (λ odd. omega arith) (rw (same_div, same_mod) h)
          where
            y : ℕ
            y = n / base system * base system + k

            k_small : k < base system
            k_small = omega (arith, mod_below n (base system) (omega arith), e)

            one_less : n ≡ suc y
            one_less = omega (arith, div-add-mod' n (base system), e)

            same_div : y / base system ≡ n / base system
            same_div = div-mul-add (n / base system) (base system) k k_small

            same_mod : y % base system ≡ k
            same_mod = mod-mul-add (n / base system) (base system) k k_small
