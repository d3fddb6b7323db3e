-- The signature of a situation that holds: the least number of approximations, a digit for each fixpoint of its scope,
-- under which it holds still. Those of Streett and Emerson 1989, as numbers.
use Rattle.std.proofs.Common.{◌≡◌, ℕ, zero, suc, ◌+◌, ◌*◌, ◌/◌, ◌%◌, ◌<◌, ◌≤◌, Bool, true, false, List, [], ◌∷◌, length, drop, map, refl, sym, ◌∙◌, arith}
use Rattle.std.proofs.lemmas.List.{length-map}
use Rattle.std.proofs.lemmas.Nat.{div_below, div-mul-add, mod-mul-add, mul-add-lt}
use Rattle.vpg_requirement.specs.Systems.{PlainSystem}
use Rattle.vpg_requirement.specs.Fixpoints.{Kind, least, greatest, StateSet, nothing, set_of}
use Rattle.vpg_requirement.specs.NormalForms.{NormalForm, met, unmet, both, either, some_step, every_step, fixpoint, variable, HasParity, HasPriorities}
use Rattle.vpg_requirement.specs.Situations.{Binder, Situation, situation}
use Rattle.vpg_requirement.proofs.Evaluation.{everything, iterate, holds}
use Rattle.vpg_requirement.proofs.Numbers.{search, search_least, search_finds, cut, padded, marked, padded_grows, entered, jumped}

abbrev pub base : PlainSystem → ℕ
base system = suc (suc system.states)

abbrev pub ranks : List Binder → List ℕ
ranks scope = map (λ binder. binder.priority) scope

pub ranks_length : (scope : List Binder) → length (ranks scope) ≡ length scope
ranks_length scope = length-map scope (λ binder. binder.priority)

-- ---- the sets that a number stands for

abbrev pub approximation : PlainSystem → Kind → NormalForm → List StateSet → ℕ → StateSet
approximation system least f sets k = iterate k (λ set. holds system (set ∷ sets) f) nothing
approximation system greatest f sets k = iterate (suc system.states) (λ set. holds system (set ∷ sets) f) everything

abbrev pub values : PlainSystem → List Binder → ℕ → List StateSet
values system [] n = []
values system (binder ∷ scope) n =
    approximation system binder.kind binder.body (values system scope (n / base system)) (n % base system) ∷ values system scope (n / base system)

abbrev pub room : PlainSystem → List Binder → ℕ
room system [] = 1
room system (binder ∷ scope) = room system scope * base system

pub whole_fixpoint : (system : PlainSystem) (kind : Kind) (p : ℕ) (f : NormalForm) (sets : List StateSet) (s : ℕ) → approximation system kind f sets (suc system.states) s ≡ holds system sets (fixpoint kind p f) s
whole_fixpoint system least p f sets s = refl
whole_fixpoint system greatest p f sets s = refl

value_dropped : (system : PlainSystem) (i : ℕ) (scope : List Binder) (n s : ℕ) → set_of (values system scope n) i s ≡ set_of (values system (drop i scope) (cut (base system) i n)) 0 s
value_dropped system zero scope n s = refl
value_dropped system (suc i) [] n s = refl
value_dropped system (suc i) (binder ∷ scope) n s = value_dropped system i scope (n / base system) s

room_dropped : (system : PlainSystem) (i : ℕ) (scope : List Binder) (n : ℕ) → i < length scope → n < room system scope → cut (base system) i n < room system (drop i scope)
room_dropped system zero scope n l h = h
room_dropped system (suc i) [] n l h = absurd (omega arith)
room_dropped system (suc i) (binder ∷ scope) n l h = room_dropped system i scope (n / base system) (omega arith) (div_below n (base system) (room system scope) (omega arith) h)

ranks_dropped : (i : ℕ) (scope : List Binder) → ranks (drop i scope) ≡ drop i (ranks scope)
ranks_dropped zero scope = refl
ranks_dropped (suc i) [] = refl
ranks_dropped (suc i) (binder ∷ scope) = ranks_dropped i scope

-- ---- situations that hold

abbrev pub passes : PlainSystem → Situation → ℕ → Bool
passes system q n = holds system (values system q.scope n) q.part q.state

abbrev pub signature : PlainSystem → Situation → ℕ
signature system q = search (passes system q) (room system q.scope)

pub record IsHeld (system : PlainSystem) (q : Situation) : Type 0 where
  pub is_state : q.state < system.states
  pub small : signature system q < room system q.scope
  pub passing : passes system q (signature system q) ≡ true

pub held : (system : PlainSystem) (q : Situation) (n : ℕ) → q.state < system.states → n < room system q.scope → passes system q n ≡ true → IsHeld system q × (signature system q ≤ n)
held system q n inside small e =
    (record { is_state = inside; small = omega (arith, below); passing = search_finds (passes system q) (room system q.scope) n e small }, below)
  where
    below : search (passes system q) (room system q.scope) ≤ n
    below = search_least (passes system q) (room system q.scope) n e

-- ---- the fixpoints of a scope are ranked

abbrev pub AreRanked : ℕ → List Binder → Type 0
AreRanked low [] = Unit {0}
AreRanked low (binder ∷ scope) = HasParity binder.kind binder.priority × (low ≤ binder.priority) × HasPriorities low (ranks (binder ∷ scope)) binder.body × AreRanked low scope

-- a fixpoint is no part, and its variable stands for the innermost
abbrev pub IsNormal : NormalForm → Type 0
IsNormal met = Unit {0}
IsNormal unmet = Unit {0}
IsNormal (both f g) = Unit {0}
IsNormal (either f g) = Unit {0}
IsNormal (some_step x f) = Unit {0}
IsNormal (every_step x f) = Unit {0}
IsNormal (fixpoint kind p f) = ⊥
IsNormal (variable zero) = Unit {0}
IsNormal (variable (suc i)) = ⊥

pub record IsRankedAt (low : ℕ) (q : Situation) : Type 0 where
  pub normal : IsNormal q.part
  pub part : HasPriorities low (ranks q.scope) q.part
  pub scope : AreRanked low q.scope

ranked_dropped : (low i : ℕ) (scope : List Binder) → AreRanked low scope → AreRanked low (drop i scope)
ranked_dropped low zero scope h = h
ranked_dropped low (suc i) [] h = tt
ranked_dropped low (suc i) (binder ∷ scope) h = ranked_dropped low i scope h.3

dropped_some : (i : ℕ) (scope : List Binder) → i < length (ranks scope) → 0 < length (ranks (drop i scope))
dropped_some zero scope l = l
dropped_some (suc i) [] l = absurd (omega arith)
dropped_some (suc i) (binder ∷ scope) l = dropped_some i scope (omega arith)

pub situation_ranked : (low t : ℕ) (g : NormalForm) (scope : List Binder) → HasPriorities low (ranks scope) g → AreRanked low scope → IsRankedAt low (situation t g scope)
situation_ranked low t met scope h k = record { normal = tt; part = tt; scope = tt }
situation_ranked low t unmet scope h k = record { normal = tt; part = tt; scope = tt }
situation_ranked low t (both f g) scope h k = record { normal = tt; part = h; scope = k }
situation_ranked low t (either f g) scope h k = record { normal = tt; part = h; scope = k }
situation_ranked low t (some_step x f) scope h k = record { normal = tt; part = h; scope = k }
situation_ranked low t (every_step x f) scope h k = record { normal = tt; part = h; scope = k }
situation_ranked low t (fixpoint kind p f) scope h k = record { normal = tt; part = (omega arith, λ j l. absurd (omega arith)); scope = (h.0, h.1, h.2, k) }
situation_ranked low t (variable i) scope h k = record { normal = tt; part = (dropped_some i scope h.0, λ j l. absurd (omega arith)); scope = ranked_dropped low i scope k }

-- ---- a situation that is entered under a number

abbrev pub progress_of : ℕ → ℕ → ℕ → NormalForm → List ℕ → ℕ → ℕ
progress_of b depth m met ps n = 0
progress_of b depth m unmet ps n = padded b depth m ps n
progress_of b depth m (both f g) ps n = padded b depth m ps n
progress_of b depth m (either f g) ps n = padded b depth m ps n
progress_of b depth m (some_step x f) ps n = padded b depth m ps n
progress_of b depth m (every_step x f) ps n = padded b depth m ps n
progress_of b depth m (fixpoint kind p f) ps n = padded b depth m ps n
progress_of b depth m (variable i) ps n = marked b depth m ps n

abbrev pub progress : PlainSystem → ℕ → ℕ → Situation → ℕ
progress system depth m q = progress_of (base system) depth m q.part (ranks q.scope) (signature system q)

pub record IsEntered (system : PlainSystem) (depth : ℕ) (scope : List Binder) (n : ℕ) (q : Situation) : Type 0 where
  pub is_held : IsHeld system q
  pub below : (m : ℕ) → progress system depth m q ≤ padded (base system) depth m (ranks scope) n

module _ (system : PlainSystem) (depth low : ℕ) where
  plain_entered : (t : ℕ) (g : NormalForm) (scope : List Binder) (n : ℕ) → t < system.states → n < room system scope → holds system (values system scope n) g t ≡ true →
      ((m x : ℕ) → progress_of (base system) depth m g (ranks scope) x ≡ padded (base system) depth m (ranks scope) x) → IsEntered system depth scope n (record { state = t; part = g; scope = scope })
  plain_entered t g scope n inside small e plain = of (held system (record { state = t; part = g; scope = scope }) n inside small e)
    where
      of : IsHeld system (record { state = t; part = g; scope = scope }) × (signature system (record { state = t; part = g; scope = scope }) ≤ n) → IsEntered system depth scope n (record { state = t; part = g; scope = scope })
      of h = record { is_held = h.0; below = λ m. rw plain (padded_grows (base system) depth m (omega arith) (ranks scope) (signature system (record { state = t; part = g; scope = scope })) n h.1) }

  pub situation_entered : (t : ℕ) (g : NormalForm) (scope : List Binder) (n : ℕ) → t < system.states → n < room system scope → HasPriorities low (ranks scope) g → length (situation t g scope).scope ≤ depth → length scope ≤ depth →
      holds system (values system scope n) g t ≡ true → IsEntered system depth scope n (situation t g scope)
  situation_entered t met scope n inside small ranked d d' e = record {
    is_held = (held system (situation t met scope) 0 (omega (arith, inside)) (omega arith) refl).0;
    below = λ m. omega arith;
  }
  situation_entered t unmet scope n inside small ranked d d' e = absurd (clash e)
    where
      clash : false ≡ true → ⊥
      clash e = cc
  situation_entered t (both f g) scope n inside small ranked d d' e = plain_entered t (both f g) scope n inside small e (λ m x. refl)
  situation_entered t (either f g) scope n inside small ranked d d' e = plain_entered t (either f g) scope n inside small e (λ m x. refl)
  situation_entered t (some_step x f) scope n inside small ranked d d' e = plain_entered t (some_step x f) scope n inside small e (λ m x. refl)
  situation_entered t (every_step x f) scope n inside small ranked d d' e = plain_entered t (every_step x f) scope n inside small e (λ m x. refl)
  situation_entered t (fixpoint kind p f) scope n inside small ranked d d' e = of (held system q (n * base system + suc system.states) inside bounded passing)
    where
      q : Situation
      q = situation t (fixpoint kind p f) scope

      k_small : suc system.states < base system
      k_small = omega arith

      bounded : n * base system + suc system.states < room system scope * base system
      bounded = omega (arith, mul-add-lt n (base system) (suc system.states) (room system scope) small k_small)

      passing : passes system q (n * base system + suc system.states) ≡ true
      passing = rw (div-mul-add n (base system) (suc system.states) k_small, mod-mul-add n (base system) (suc system.states) k_small) (whole_fixpoint system kind p f (values system scope n) t ∙ e)

      of : IsHeld system q × (signature system q ≤ n * base system + suc system.states) → IsEntered system depth scope n q
      of h = record {
        is_held = h.0;
        below = λ m. entered (base system) depth m (omega arith) p (ranks scope) (signature system q) n (suc system.states) (omega (arith, d, ranks_length scope)) k_small h.1;
      }
  situation_entered t (variable i) scope n inside small ranked d d' e = of (held system q (cut (base system) i n) inside (room_dropped system i scope n i_inside small) (sym (value_dropped system i scope n t) ∙ e))
    where
      q : Situation
      q = situation t (variable i) scope

      i_inside : i < length scope
      i_inside = omega (arith, ranked.0, ranks_length scope)

      of : IsHeld system q × (signature system q ≤ cut (base system) i n) → IsEntered system depth scope n q
      of h = record {
        is_held = h.0;
        below = λ m. rw (ranks_dropped i scope) (jumped (base system) depth m (omega arith) i (ranks scope) (signature system q) n ranked.0 (omega (arith, d', ranks_length scope)) ranked.1 h.1);
      }
