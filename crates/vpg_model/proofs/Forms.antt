-- The situations of pairs.
use Rattle.std.proofs.Common.{◌≡◌, ℕ, suc, ◌<◌, ◌⊎◌, inl, inr, Bool, true, false, cond, ◌&&◌, List, [], ◌∷◌, length, get_or, map, filter, drop, refl, sym, ◌∙◌, subst, ap, ap₂, arith}
use Rattle.std.specs.Prelude.{◌==◌}
use Rattle.std.proofs.lemmas.Bool.{cases_Bool}
use Rattle.vpg_sides.specs.declared.player.Player.TheVariants.{Even}
use Rattle.vpg_guards.specs.Formula.{Formula as Guard}
use Rattle.vpg_requirement.specs.Actions.{ActionFormula, permits}
use Rattle.vpg_requirement.specs.Systems.{Transition, System}
use Rattle.vpg_requirement.specs.NormalForms.{NormalForm, variable}
use Rattle.vpg_requirement.specs.Situations.{Binder, Situation, situation, part_owner, part_priority}
use Rattle.vpg_requirement.specs.Building.{GuardedMove, free_move, guarded_moves, step_moves}
use Rattle.vpg_parts.specs.declared.part.Kind.{Kind as PartKind}
use Rattle.vpg_parts.specs.declared.part.Part.{Part}
use Rattle.vpg_parts.specs.declared.part.Part.TheVariants.{True, False, And, Or, SomeStep, EveryStep, Fixpoint, Variable}
use Rattle.vpg_model.specs.Departures.{Departure, PairMove}
use Rattle.vpg_parts.specs.Parts.{part_at, resolved_from, resolved_part}
use Rattle.vpg_parts.specs.Sets.{is_permitted, ArePermitted}
use Rattle.vpg_model.specs.Pairs.{pair_by, pair_for, departures_at, leaving_moves, moves_by, owner_of_part, priority_of_part}
use Rattle.vpg_parts.specs.Parts.{binder_of}
use Rattle.vpg_model.specs.Forms.{transitions_from, AreDepartures, IsUnder, IsFormAt, StandFor, situation_in}

-- ---- the transitions from a state

filter_both : (p q : Transition Guard → Bool) (ts : List (Transition Guard)) → filter (λ t. p t && q t) ts ≡ filter q (filter p ts)
filter_both p q [] = refl
filter_both p q (t ∷ ts) = decide (cases_Bool (p t)) (filter_both p q ts)
  where
    decide : (p t ≡ true) ⊎ (p t ≡ false) → filter (λ t. p t && q t) ts ≡ filter q (filter p ts) → filter (λ t. p t && q t) (t ∷ ts) ≡ filter q (filter p (t ∷ ts))
    decide (inl e) rest = rw e (ap (λ (l : List (Transition Guard)). cond (q t) (t ∷ l) l) rest)
    decide (inr e) rest = rw e rest

abbrev of_leave : ℕ → Departure → Transition Guard
of_leave s t = record { step = record { source = s; label = t.action; target = t.target }; guard = t.guard }

own : (x : ActionFormula) (labels : ℕ) (sets : List (List Bool)) (y s : ℕ) → ArePermitted labels sets y x → (departures : List Departure) → ((k : ℕ) (d : Departure) → k < length departures → (get_or departures k d).action < labels) →
    filter (λ (t : Transition Guard). permits x t.step.label) (transitions_from s departures) ≡ transitions_from s (filter (λ t. is_permitted sets y t.action) departures)
own x labels sets y s p [] h = refl
own x labels sets y s p (t ∷ departures) h = decide (cases_Bool (is_permitted sets y t.action)) (own x labels sets y s p departures (λ k d l. h (suc k) d (omega arith)))
  where
    allowed : permits x t.action ≡ is_permitted sets y t.action
    allowed = p t.action (h 0 t (omega arith))

    decide : (is_permitted sets y t.action ≡ true) ⊎ (is_permitted sets y t.action ≡ false) →
        filter (λ (t : Transition Guard). permits x t.step.label) (transitions_from s departures) ≡ transitions_from s (filter (λ t. is_permitted sets y t.action) departures) →
        filter (λ (t : Transition Guard). permits x t.step.label) (transitions_from s (t ∷ departures)) ≡ transitions_from s (filter (λ t. is_permitted sets y t.action) (t ∷ departures))
    decide (inl e) rest = rw (allowed, e) (ap (λ (l : List (Transition Guard)). of_leave s t ∷ l) rest)
    decide (inr e) rest = rw (allowed, e) rest

abbrev pub AllLabels : ℕ → List (List Departure) → Type 0
AllLabels labels states = (i : ℕ) (k : ℕ) (d : Departure) → k < length (departures_at states i) → (get_or (departures_at states i) k d).action < labels

-- the transitions from a state that are permitted
among : (x : ActionFormula) (labels : ℕ) (sets : List (List Bool)) (y : ℕ) → ArePermitted labels sets y x → (system : System Guard) (states : List (List Departure)) → AreDepartures system states → AllLabels labels states → (s : ℕ) →
    filter (λ t. (t.step.source == s) && permits x t.step.label) system.transitions ≡ transitions_from s (filter (λ t. is_permitted sets y t.action) (departures_at states s))
among x labels sets y p system states are known s = filter_both (λ t. t.step.source == s) (λ t. permits x t.step.label) system.transitions
    ∙ ap (filter (λ (t : Transition Guard). permits x t.step.label)) (are.leaving s) ∙ own x labels sets y s p (departures_at states s) (known s)

-- ---- moves

abbrev pub move_in : (ℕ → NormalForm) → (ℕ → List Binder) → PairMove → GuardedMove
move_in form scope move = record { guard = move.guard; to = situation_in form scope move.to }

moved : (form : ℕ → NormalForm) (scope : ℕ → List Binder) (parts : List Part) (s a : ℕ) (binders : List Binder) →
    ((t : ℕ) → situation t (form a) binders ≡ situation_in form scope (pair_for parts t a)) → (departures : List Departure) →
    ◌≡◌ {A = List GuardedMove} (map (λ t. record { guard = t.guard; to = situation t.step.target (form a) binders }) (transitions_from s departures))
    (map (move_in form scope) (map (λ t. record { guard = t.guard; to = pair_for parts t.target a }) departures))
moved form scope parts s a binders h [] = refl
moved form scope parts s a binders h (t ∷ departures) = ap₂ {C = List GuardedMove} (λ (q : Situation) (l : List GuardedMove). (record { guard = t.guard; to = q }) ∷ l) (h t.target) (moved form scope parts s a binders h departures)

module _ (labels : ℕ) (system : System Guard) (states : List (List Departure)) (sets : List (List Bool)) (parts : List Part) (form : ℕ → NormalForm) (scope : ℕ → List Binder)
    (are : AreDepartures system states) (known : AllLabels labels states) (arena : StandFor labels sets parts form scope) where
  abbrev IsForm : ℕ → Part → Type 0
  IsForm k p = IsFormAt labels sets parts form scope k p

  abbrev at : ℕ → ℕ → Situation
  at s k = situation s (form k) (scope k)

  -- a variable is where its fixpoint is
  variable_is : (s k m i : ℕ) (kind : PartKind) (p b : ℕ) → IsForm m (Fixpoint kind p b) → form k ≡ variable i → drop i (scope k) ≡ binder_of kind p (form b) ∷ scope m → at s m ≡ at s k
  variable_is s k m i kind p b h e d = ap (λ (f : NormalForm). situation s f (scope m)) h.0 ∙ ap (λ (l : List Binder). record { state = s; part = variable 0; scope = l }) (sym d) ∙ sym (ap (λ (f : NormalForm). situation s f (scope k)) e)

  home_same : (s k : ℕ) (p : Part) → IsForm k p → situation_in form scope (pair_by s k p) ≡ at s k
  home_same s k True h = ap (λ (f : NormalForm). situation 0 f (scope 0)) (subst (IsForm 0) arena.constants.truth (arena.each 0)) ∙ sym (ap (λ (f : NormalForm). situation s f (scope k)) h)
  home_same s k False h = ap (λ (f : NormalForm). situation 0 f (scope 1)) (subst (IsForm 1) arena.constants.falsehood (arena.each 1)) ∙ sym (ap (λ (f : NormalForm). situation s f (scope k)) h)
  home_same s k (And a b) h = refl
  home_same s k (Or a b) h = refl
  home_same s k (SomeStep x a) h = refl
  home_same s k (EveryStep x a) h = refl
  home_same s k (Fixpoint kind p b) h = refl
  home_same s k (Variable m) h = variable_is s k m h.0 h.1 h.2 h.3 (subst (λ (q : Part). IsForm m q) h.4 (arena.each m)) h.5 h.6

  pub home_is : (s k : ℕ) → situation_in form scope (pair_for parts s k) ≡ at s k
  home_is s k = home_same s k (part_at parts k) (arena.each k)

  pub record IsSituated (s : ℕ) (q : Situation) (r : Part) : Type 0 where
    pub moves : guarded_moves system q.state q.part q.scope ≡ map (move_in form scope) (moves_by states sets parts s r)
    pub owner : owner_of_part r ≡ part_owner Even q.part
    pub priority : priority_of_part r ≡ part_priority 0 q.part q.scope

  steps_are : (s x a : ℕ) (actions : ActionFormula) (binders : List Binder) → ArePermitted labels sets x actions → IsUnder form scope a binders →
      step_moves system actions s (form a) binders ≡ map (move_in form scope) (leaving_moves states sets parts s x a)
  steps_are s x a actions binders p u =
      ap (map (λ (t : Transition Guard). step_to t)) (among actions labels sets x p system states are known s)
      ∙ moved form scope parts s a binders (λ t. sym (home_is t a ∙ u t)) (filter (λ t. is_permitted sets x t.action) (departures_at states s))
    where
      step_to : Transition Guard → GuardedMove
      step_to t = record { guard = t.guard; to = situation t.step.target (form a) binders }

  situated : (s k : ℕ) (p : Part) → IsForm k p → IsSituated s (at s k) (resolved_from parts p)
  situated s k True h = subst (λ (f : NormalForm). IsSituated s (situation s f (scope k)) True) (sym h) (record { moves = refl; owner = refl; priority = refl })
  situated s k False h = subst (λ (f : NormalForm). IsSituated s (situation s f (scope k)) False) (sym h) (record { moves = refl; owner = refl; priority = refl })
  situated s k (And a b) h = subst (λ (f : NormalForm). IsSituated s (situation s f (scope k)) (And a b)) (sym h.0)
      (record { moves = ap₂ {C = List GuardedMove} (λ (x y : Situation). free_move x ∷ free_move y ∷ []) (sym (home_is s a ∙ h.1 s)) (sym (home_is s b ∙ h.2 s)); owner = refl; priority = refl })
  situated s k (Or a b) h = subst (λ (f : NormalForm). IsSituated s (situation s f (scope k)) (Or a b)) (sym h.0)
      (record { moves = ap₂ {C = List GuardedMove} (λ (x y : Situation). free_move x ∷ free_move y ∷ []) (sym (home_is s a ∙ h.1 s)) (sym (home_is s b ∙ h.2 s)); owner = refl; priority = refl })
  situated s k (SomeStep x a) h = subst (λ (f : NormalForm). IsSituated s (situation s f (scope k)) (SomeStep x a)) (sym h.1)
      (record { moves = steps_are s x a h.0 (scope k) h.2 h.3; owner = refl; priority = refl })
  situated s k (EveryStep x a) h = subst (λ (f : NormalForm). IsSituated s (situation s f (scope k)) (EveryStep x a)) (sym h.1)
      (record { moves = steps_are s x a h.0 (scope k) h.2 h.3; owner = refl; priority = refl })
  situated s k (Fixpoint kind p b) h = subst (λ (f : NormalForm). IsSituated s (situation s f (scope k)) (Fixpoint kind p b)) (sym h.0)
      (record { moves = ap {B = List GuardedMove} (λ (x : Situation). free_move x ∷ []) (sym (home_is s b ∙ h.1 s)); owner = refl; priority = refl })
  situated s k (Variable m) h = subst (λ (q : Part). IsSituated s (at s k) q) (sym h.4)
      (subst (λ (q : Situation). IsSituated s q (Fixpoint h.1 h.2 h.3)) (variable_is s k m h.0 h.1 h.2 h.3 (subst (λ (q : Part). IsForm m q) h.4 (arena.each m)) h.5 h.6)
      (of m h.1 h.2 h.3 (subst (λ (q : Part). IsForm m q) h.4 (arena.each m))))
    where
      of : (m : ℕ) (kind : PartKind) (p b : ℕ) → IsForm m (Fixpoint kind p b) → IsSituated s (at s m) (Fixpoint kind p b)
      of m kind p b h = subst (λ (f : NormalForm). IsSituated s (situation s f (scope m)) (Fixpoint kind p b)) (sym h.0)
          (record { moves = ap {B = List GuardedMove} (λ (x : Situation). free_move x ∷ []) (sym (home_is s b ∙ h.1 s)); owner = refl; priority = refl })

  pub pair_situated : (pair : ℕ × ℕ) → IsSituated pair.0 (situation_in form scope pair) (resolved_part parts pair.1)
  pair_situated pair = situated pair.0 pair.1 (part_at parts pair.1) (arena.each pair.1)
