-- What is constructed is built.
use Rattle.std.proofs.Common.{◌≡◌, ℕ, zero, suc, ◌<◌, ◌≤◌, ◌⊎◌, inl, inr, true, false, ◌&&◌, cond, ltb, List, [], ◌∷◌, ◌++◌, length, map, Option, Some, None, refl, sym, ◌∙◌, subst, ap, ap₂, Contains, arith}
use Rattle.std.specs.Prelude.{◌==◌}
use Rattle.std.specs.List.{AllZip}
use Rattle.std.proofs.lemmas.List.Elements.{Contains-get_or}
use Rattle.std.proofs.lemmas.Bool.{cases_Bool, cases_lt, and_parts, eqb-true, ltb-true}
use Rattle.vpg_sides.specs.declared.player.Player.{Player}
use Rattle.vpg_guards.specs.Formula.{Formula as Guard}
use Rattle.vpg_game.specs.Guarded.{GuardedGame}
use Rattle.vpg_hope.proofs.Edges.{Contains-first, Contains-later}
use Rattle.vpg_requirement.specs.Actions.{ActionFormula, every_action, action, other_than, both_of, either_of}
use Rattle.vpg_requirement.specs.Systems.{System}
use Rattle.vpg_requirement.specs.Fixpoints.{Kind, least, greatest}
use Rattle.vpg_requirement.specs.NormalForms.{NormalForm, met, unmet, both, either, some_step, every_step, fixpoint, variable}
use Rattle.vpg_requirement.specs.Situations.{Binder, Situation, no_situation, situation_at}
use Rattle.vpg_requirement.specs.Building.{GuardedMove, targets_from, IsEdgeOf, IsRowOf, IsBuiltOf, IsReached}
use Rattle.vpg_requirement.specs.Construction.{same_actions, same_kind, same_form, same_scope, same_situation, place_of, is_place, with_targets, moves_at, exploration, are_places, are_closed, edge_for, row_for, ConstructionIsBuilt}

pub never : {X : Type 0} → false ≡ true → X
never e = absurd (clash e)
  where
    clash : false ≡ true → ⊥
    clash e = cc

-- ---- what is the same is one

pub actions_one : (x y : ActionFormula) → same_actions x y ≡ true → x ≡ y
actions_one every_action every_action e = refl
actions_one (action a) (action b) e = ap action (eqb-true a b e)
actions_one (other_than x) (other_than y) e = ap other_than (actions_one x y e)
actions_one (both_of x y) (both_of z w) e = ap₂ both_of (actions_one x z (and_parts (same_actions x z) (same_actions y w) e).0) (actions_one y w (and_parts (same_actions x z) (same_actions y w) e).1)
actions_one (either_of x y) (either_of z w) e = ap₂ either_of (actions_one x z (and_parts (same_actions x z) (same_actions y w) e).0) (actions_one y w (and_parts (same_actions x z) (same_actions y w) e).1)
actions_one _ _ e = never e

kind_one : (k l : Kind) → same_kind k l ≡ true → k ≡ l
kind_one least least e = refl
kind_one greatest greatest e = refl
kind_one _ _ e = never e

fixpoint_one : {k l : Kind} {p q : ℕ} {f g : NormalForm} → k ≡ l → p ≡ q → f ≡ g → fixpoint k p f ≡ fixpoint l q g
fixpoint_one h i j = cc

requirement_one : (f g : NormalForm) → same_form f g ≡ true → f ≡ g
requirement_one met met e = refl
requirement_one unmet unmet e = refl
requirement_one (both f g) (both h k) e = ap₂ both (requirement_one f h (and_parts (same_form f h) (same_form g k) e).0) (requirement_one g k (and_parts (same_form f h) (same_form g k) e).1)
requirement_one (either f g) (either h k) e = ap₂ either (requirement_one f h (and_parts (same_form f h) (same_form g k) e).0) (requirement_one g k (and_parts (same_form f h) (same_form g k) e).1)
requirement_one (some_step x f) (some_step y g) e = ap₂ some_step (actions_one x y (and_parts (same_actions x y) (same_form f g) e).0) (requirement_one f g (and_parts (same_actions x y) (same_form f g) e).1)
requirement_one (every_step x f) (every_step y g) e = ap₂ every_step (actions_one x y (and_parts (same_actions x y) (same_form f g) e).0) (requirement_one f g (and_parts (same_actions x y) (same_form f g) e).1)
requirement_one (fixpoint k p f) (fixpoint l q g) e =
    fixpoint_one (kind_one k l (and_parts (same_kind k l) ((p == q) && same_form f g) e).0)
    (eqb-true p q (and_parts (p == q) (same_form f g) (and_parts (same_kind k l) ((p == q) && same_form f g) e).1).0)
    (requirement_one f g (and_parts (p == q) (same_form f g) (and_parts (same_kind k l) ((p == q) && same_form f g) e).1).1)
requirement_one (variable i) (variable j) e = ap variable (eqb-true i j e)
requirement_one _ _ e = never e

binder_one : {k l : Kind} {p q : ℕ} {f g : NormalForm} → k ≡ l → p ≡ q → f ≡ g → ◌≡◌ {A = Binder} (record { kind = k; priority = p; body = f }) (record { kind = l; priority = q; body = g })
binder_one h i j = cc

scope_one : (scope other : List Binder) → same_scope scope other ≡ true → scope ≡ other
scope_one [] [] e = refl
scope_one (a ∷ scope) (b ∷ other) e = ap₂ {C = List Binder} (λ x xs. x ∷ xs) (of (and_parts (same_kind a.kind b.kind && ((a.priority == b.priority) && same_form a.body b.body)) (same_scope scope other) e).0)
    (scope_one scope other (and_parts (same_kind a.kind b.kind && ((a.priority == b.priority) && same_form a.body b.body)) (same_scope scope other) e).1)
  where
    of : (same_kind a.kind b.kind && ((a.priority == b.priority) && same_form a.body b.body)) ≡ true → a ≡ b
    of h = binder_one (kind_one a.kind b.kind (and_parts (same_kind a.kind b.kind) ((a.priority == b.priority) && same_form a.body b.body) h).0)
        (eqb-true a.priority b.priority (and_parts (a.priority == b.priority) (same_form a.body b.body) (and_parts (same_kind a.kind b.kind) ((a.priority == b.priority) && same_form a.body b.body) h).1).0)
        (requirement_one a.body b.body (and_parts (a.priority == b.priority) (same_form a.body b.body) (and_parts (same_kind a.kind b.kind) ((a.priority == b.priority) && same_form a.body b.body) h).1).1)
scope_one _ _ e = never e

situation_of : {s t : ℕ} {f g : NormalForm} {a b : List Binder} → s ≡ t → f ≡ g → a ≡ b → ◌≡◌ {A = Situation} (record { state = s; part = f; scope = a }) (record { state = t; part = g; scope = b })
situation_of h i j = cc

pub situation_one : (p q : Situation) → same_situation p q ≡ true → p ≡ q
situation_one p q e = situation_of (eqb-true p.state q.state (and_parts (p.state == q.state) (same_form p.part q.part && same_scope p.scope q.scope) e).0)
    (requirement_one p.part q.part (and_parts (same_form p.part q.part) (same_scope p.scope q.scope) (and_parts (p.state == q.state) (same_form p.part q.part && same_scope p.scope q.scope) e).1).0)
    (scope_one p.scope q.scope (and_parts (same_form p.part q.part) (same_scope p.scope q.scope) (and_parts (p.state == q.state) (same_form p.part q.part && same_scope p.scope q.scope) e).1).1)

-- ---- the places grow

abbrev pub IsLonger : List Situation → List Situation → Type 0
IsLonger places more = (k : ℕ) → k < length places → (k < length more) × (situation_at more k ≡ situation_at places k)

pub appended : (places : List Situation) (q : Situation) → IsLonger places (places ++ q ∷ [])
appended [] q k l = absurd (omega arith)
appended (p ∷ places) q zero l = (omega arith, refl)
appended (p ∷ places) q (suc k) l = of (appended places q k (omega arith))
  where
    of : (k < length (places ++ q ∷ [])) × (situation_at (places ++ q ∷ []) k ≡ situation_at places k) → (suc k < suc (length (places ++ q ∷ []))) × (situation_at (places ++ q ∷ []) k ≡ situation_at places k)
    of h = (omega (arith, h.0), h.1)

-- ---- and each is reached

pub length_appended : (places : List Situation) (q : Situation) → length (places ++ q ∷ []) ≡ suc (length places)
length_appended [] q = refl
length_appended (p ∷ places) q = ap suc (length_appended places q)

pub last_appended : (places : List Situation) (q : Situation) → situation_at (places ++ q ∷ []) (length places) ≡ q
last_appended [] q = refl
last_appended (p ∷ places) q = last_appended places q

one_reached : (system : System Guard) (roots places : List Situation) (at : ℕ) (q : Situation) → at < length places → Contains (targets_from system (situation_at places at)) q → IsReached system roots places → IsReached system roots (places ++ q ∷ [])
one_reached system roots places at q l c h v high = decide (cases_lt v (length places))
  where
    decide : (v < length places) ⊎ (length places ≤ v) → Contains roots (situation_at (places ++ q ∷ []) v) ⊎ ((u : ℕ) × (u < v) × Contains (targets_from system (situation_at (places ++ q ∷ []) u)) (situation_at (places ++ q ∷ []) v))
    decide (inl old) = of (h v old)
      where
        of : Contains roots (situation_at places v) ⊎ ((u : ℕ) × (u < v) × Contains (targets_from system (situation_at places u)) (situation_at places v)) → Contains roots (situation_at (places ++ q ∷ []) v) ⊎ ((u : ℕ) × (u < v) × Contains (targets_from system (situation_at (places ++ q ∷ []) u)) (situation_at (places ++ q ∷ []) v))
        of (inl root) = inl (subst (λ p. Contains roots p) (sym (appended places q v old).1) root)
        of (inr u) = inr (u.0, u.1, rw ((appended places q u.0 (before u.1)).1, (appended places q v old).1) u.2)
          where
            before : u.0 < v → u.0 < length places
            before k = omega arith
    decide (inr new) = inr (at, omega arith, rw ((appended places q at l).1) (subst (λ z. Contains (targets_from system (situation_at places at)) z) (sym here) c))
      where
        same : v ≡ length places
        same = omega (arith, length_appended places q)

        here : situation_at (places ++ q ∷ []) v ≡ q
        here = ap (situation_at (places ++ q ∷ [])) same ∙ last_appended places q

targets_reached : (system : System Guard) (roots : List Situation) (at : ℕ) (place : Situation) (moves : List GuardedMove) → ((q : Situation) → Contains (map (λ move. move.to) moves) q → Contains (targets_from system place) q) → (places : List Situation) → at < length places → situation_at places at ≡ place → IsReached system roots places → IsReached system roots (with_targets places moves)
targets_reached system roots at place [] inside places l e h = h
targets_reached system roots at place (move ∷ moves) inside places l e h = decide (cases_Bool (is_place places move.to)) (targets_reached system roots at place moves (λ q c. inside q (Contains-later move.to (map (λ move. move.to) moves) q c)))
  where
    decide : (is_place places move.to ≡ true) ⊎ (is_place places move.to ≡ false) → ((more : List Situation) → at < length more → situation_at more at ≡ place → IsReached system roots more → IsReached system roots (with_targets more moves)) → IsReached system roots (with_targets places (move ∷ moves))
    decide (inl t) rest = rw t (rest places l e h)
    decide (inr f) rest = rw f (rest (places ++ move.to ∷ []) (appended places move.to at l).0 ((appended places move.to at l).1 ∙ e)
        (one_reached system roots places at move.to l (subst (λ p. Contains (targets_from system p) move.to) (sym e) (inside move.to (Contains-first move.to (map (λ move. move.to) moves)))) h))

pub explored_reached : (system : System Guard) (roots : List Situation) (more at : ℕ) (places : List Situation) → IsReached system roots places → IsReached system roots (exploration system more at places)
explored_reached system roots zero at places h = h
explored_reached system roots (suc more) at places h = decide (cases_Bool (ltb at (length places))) (explored_reached system roots more (suc at) (with_targets places (moves_at system (situation_at places at))))
  where
    next : List Situation
    next = with_targets places (moves_at system (situation_at places at))

    decide : (ltb at (length places) ≡ true) ⊎ (ltb at (length places) ≡ false) → (IsReached system roots next → IsReached system roots (exploration system more (suc at) next)) → IsReached system roots (exploration system (suc more) at places)
    decide (inl t) rest = rw t (rest (targets_reached system roots at (situation_at places at) (moves_at system (situation_at places at)) (λ q c. c) places (ltb-true at (length places) t) refl h))
    decide (inr f) rest = rw f h

-- ---- the rows

edges_found : (places : List Situation) (moves : List GuardedMove) → are_places places moves ≡ true → AllZip (IsEdgeOf places) moves (map (edge_for places) moves)
edges_found places [] e = tt
edges_found places (move ∷ moves) e = (of (and_parts (is_place places move.to) (are_places places moves) e).0, edges_found places moves (and_parts (is_place places move.to) (are_places places moves) e).1)
  where
    of : is_place places move.to ≡ true → IsEdgeOf places move (edge_for places move)
    of h = record {
      guard = refl;
      inside = ltb-true (place_of places move.to) (length places) (and_parts (ltb (place_of places move.to) (length places)) (same_situation (situation_at places (place_of places move.to)) move.to) h).0;
      target = situation_one (situation_at places (place_of places move.to)) move.to (and_parts (ltb (place_of places move.to) (length places)) (same_situation (situation_at places (place_of places move.to)) move.to) h).1;
    }

rows_built : (mover : Player) (low : ℕ) (system : System Guard) (places rest : List Situation) → are_closed system places rest ≡ true → AllZip (IsRowOf mover low system places) rest (map (row_for mover low system places) rest)
rows_built mover low system places [] e = tt
rows_built mover low system places (place ∷ rest) e = (
  record { owner = refl; priority = refl; named = map (edge_for places) (moves_at system place); edges = refl; moves = edges_found places (moves_at system place) (and_parts (are_places places (moves_at system place)) (are_closed system places rest) e).0 },
  rows_built mover low system places rest (and_parts (are_places places (moves_at system place)) (are_closed system places rest) e).1,
)

abbrev IsDone : Player → ℕ → System Guard → List Situation → List Situation → GuardedGame Guard → Type 0
IsDone mover low system roots places game = IsBuiltOf mover low system places game × IsReached system roots places

pub construction_is_built : ConstructionIsBuilt
construction_is_built mover low limit system roots places game e = decide (cases_Bool (are_closed system all all)) e
  where
    all : List Situation
    all = exploration system limit 0 roots

    rows : GuardedGame Guard
    rows = map (row_for mover low system all) all

    done : are_closed system all all ≡ true → IsDone mover low system roots all rows
    done t = (rows_built mover low system all all t, explored_reached system roots limit 0 roots start)
      where
        start : IsReached system roots roots
        start = λ v l. inl (Contains-get_or roots v no_situation l)

    decide : (are_closed system all all ≡ true) ⊎ (are_closed system all all ≡ false) → cond {A = Option (List Situation × GuardedGame Guard)} (are_closed system all all) (Some (all, rows)) None ≡ Some (places, game) → IsDone mover low system roots places game
    decide (inl t) h = of (rw t at h)
      where
        of : ◌≡◌ {A = Option (List Situation × GuardedGame Guard)} (Some (all, rows)) (Some (places, game)) → IsDone mover low system roots places game
        of h = subst (λ (r : List Situation × GuardedGame Guard). IsDone mover low system roots r.0 r.1) (same h) (done t)
          where
            same : ◌≡◌ {A = Option (List Situation × GuardedGame Guard)} (Some (all, rows)) (Some (places, game)) → ◌≡◌ {A = List Situation × GuardedGame Guard} (all, rows) (places, game)
            same h = cc
    decide (inr f) h = absurd (clash (rw f at h))
      where
        clash : ◌≡◌ {A = Option (List Situation × GuardedGame Guard)} None (Some (places, game)) → ⊥
        clash h = cc
