-- Where nothing is constructed, more than so many different situations can be reached.
use Rattle.std.proofs.Common.{◌≡◌, ℕ, zero, suc, ◌+◌, ◌<◌, ◌≤◌, ◌⊎◌, inl, inr, true, false, ◌&&◌, ltb, List, [], ◌∷◌, ◌++◌, length, map, Option, Some, None, refl, sym, ◌∙◌, subst, ap, Contains, arith}
use Rattle.std.specs.Prelude.{◌==◌}
use Rattle.std.proofs.lemmas.List.Elements.{Contains-get_or}
use Rattle.std.proofs.lemmas.Bool.{cases_Bool, cases_lt, cases_eq, and_parts, and_from, eq-eqb, ltb-true, ltb-false, lt-ltb}
use Rattle.vpg_guards.specs.Formula.{Formula as Guard}
use Rattle.vpg_game.specs.Guarded.{GuardedGame}
use Rattle.vpg_hope.proofs.Edges.{Contains-first, Contains-later, Contains-cases, not_in_nil}
use Rattle.vpg_requirement.specs.Actions.{ActionFormula, every_action, action, other_than, both_of, either_of}
use Rattle.vpg_requirement.specs.Systems.{System}
use Rattle.vpg_requirement.specs.Fixpoints.{Kind, least, greatest}
use Rattle.vpg_requirement.specs.NormalForms.{NormalForm, met, unmet, both, either, some_step, every_step, fixpoint, variable}
use Rattle.vpg_requirement.specs.Situations.{Binder, Situation, no_situation, situation_at}
use Rattle.vpg_requirement.specs.Building.{IsReached}
use Rattle.vpg_requirement.specs.Building.{GuardedMove}
use Rattle.vpg_requirement.specs.Construction.{same_actions, same_kind, same_form, same_scope, same_situation, place_of, is_place, with_targets, moves_at, exploration, are_places, are_closed, row_for, AreDistinct, RefusedIsTooMany}
use Rattle.vpg_requirement.proofs.Constructed.{situation_one, never, appended, IsLonger, explored_reached, length_appended, last_appended}

-- ---- what is one is the same

actions_same : (x : ActionFormula) → same_actions x x ≡ true
actions_same every_action = refl
actions_same (action a) = eq-eqb a a refl
actions_same (other_than x) = actions_same x
actions_same (both_of x y) = and_from (same_actions x x) (same_actions y y) (actions_same x) (actions_same y)
actions_same (either_of x y) = and_from (same_actions x x) (same_actions y y) (actions_same x) (actions_same y)

kind_same : (k : Kind) → same_kind k k ≡ true
kind_same least = refl
kind_same greatest = refl

requirement_same : (f : NormalForm) → same_form f f ≡ true
requirement_same met = refl
requirement_same unmet = refl
requirement_same (both f g) = and_from (same_form f f) (same_form g g) (requirement_same f) (requirement_same g)
requirement_same (either f g) = and_from (same_form f f) (same_form g g) (requirement_same f) (requirement_same g)
requirement_same (some_step x f) = and_from (same_actions x x) (same_form f f) (actions_same x) (requirement_same f)
requirement_same (every_step x f) = and_from (same_actions x x) (same_form f f) (actions_same x) (requirement_same f)
requirement_same (fixpoint k p f) = and_from (same_kind k k) ((p == p) && same_form f f) (kind_same k) (and_from (p == p) (same_form f f) (eq-eqb p p refl) (requirement_same f))
requirement_same (variable i) = eq-eqb i i refl

scope_same : (scope : List Binder) → same_scope scope scope ≡ true
scope_same [] = refl
scope_same (b ∷ scope) = and_from (same_kind b.kind b.kind && ((b.priority == b.priority) && same_form b.body b.body)) (same_scope scope scope)
    (and_from (same_kind b.kind b.kind) ((b.priority == b.priority) && same_form b.body b.body) (kind_same b.kind) (and_from (b.priority == b.priority) (same_form b.body b.body) (eq-eqb b.priority b.priority refl) (requirement_same b.body)))
    (scope_same scope)

situation_same : (q : Situation) → same_situation q q ≡ true
situation_same q = and_from (q.state == q.state) (same_form q.part q.part && same_scope q.scope q.scope) (eq-eqb q.state q.state refl) (and_from (same_form q.part q.part) (same_scope q.scope q.scope) (requirement_same q.part) (scope_same q.scope))

-- ---- places that are found

abbrev IsFound : List Situation → Situation → Type 0
IsFound places q = (k : ℕ) × (k < length places) × (situation_at places k ≡ q)

place_found : (places : List Situation) (q : Situation) (k : ℕ) → k < length places → situation_at places k ≡ q → (place_of places q < length places) × (same_situation (situation_at places (place_of places q)) q ≡ true)
place_found [] q k l e = absurd (omega arith)
place_found (p ∷ places) q k l e = decide (cases_Bool (same_situation p q)) k l e (place_found places q)
  where
    decide : (same_situation p q ≡ true) ⊎ (same_situation p q ≡ false) → (k : ℕ) → k < suc (length places) → situation_at (p ∷ places) k ≡ q → ((k : ℕ) → k < length places → situation_at places k ≡ q → (place_of places q < length places) × (same_situation (situation_at places (place_of places q)) q ≡ true)) →
        (place_of (p ∷ places) q < suc (length places)) × (same_situation (situation_at (p ∷ places) (place_of (p ∷ places) q)) q ≡ true)
    decide (inl t) k l e rest = rw t (omega arith, t)
    decide (inr f) zero l e rest = absurd (clash (rw e at f))
      where
        clash : same_situation q q ≡ false → ⊥
        clash h = never (sym h ∙ situation_same q)
    decide (inr f) (suc k) l e rest = rw f (later (rest k (omega arith) e))
      where
        later : (place_of places q < length places) × (same_situation (situation_at places (place_of places q)) q ≡ true) → (suc (place_of places q) < suc (length places)) × (same_situation (situation_at places (place_of places q)) q ≡ true)
        later h = (omega (arith, h.0), h.1)

found_is_place : (places : List Situation) (q : Situation) → IsFound places q → is_place places q ≡ true
found_is_place places q h = of (place_found places q h.0 h.1 h.2)
  where
    of : (place_of places q < length places) × (same_situation (situation_at places (place_of places q)) q ≡ true) → is_place places q ≡ true
    of j = and_from (ltb (place_of places q) (length places)) (same_situation (situation_at places (place_of places q)) q) (lt-ltb (place_of places q) (length places) j.0) j.1

place_is_found : (places : List Situation) (q : Situation) → is_place places q ≡ true → IsFound places q
place_is_found places q e = (
  place_of places q,
  ltb-true (place_of places q) (length places) (and_parts (ltb (place_of places q) (length places)) (same_situation (situation_at places (place_of places q)) q) e).0,
  situation_one (situation_at places (place_of places q)) q (and_parts (ltb (place_of places q) (length places)) (same_situation (situation_at places (place_of places q)) q) e).1,
)

longer_found : (places more : List Situation) (q : Situation) → IsLonger places more → IsFound places q → IsFound more q
longer_found places more q h f = (f.0, (h f.0 f.1).0, (h f.0 f.1).1 ∙ f.2)

longer_trans : (a b c : List Situation) → IsLonger a b → IsLonger b c → IsLonger a c
longer_trans a b c h j k l = ((j k (h k l).0).0, (j k (h k l).0).1 ∙ (h k l).1)

-- ---- exploring covers what it has looked at

record IsStep (places more : List Situation) (targets : List Situation) : Type 0 where
  longer : IsLonger places more
  covers : (q : Situation) → Contains targets q → IsFound more q
  distinct : AreDistinct places → AreDistinct more

appended_distinct : (places : List Situation) (q : Situation) → (IsFound places q → ⊥) → AreDistinct places → AreDistinct (places ++ q ∷ [])
appended_distinct places q new d u v l h e = decide (cases_lt v (length places))
  where
    decide : (v < length places) ⊎ (length places ≤ v) → ⊥
    decide (inl old) = d u v l old (sym (appended places q u (omega arith)).1 ∙ e ∙ (appended places q v old).1)
    decide (inr last) = new (u, inside, sym (appended places q u inside).1 ∙ e ∙ ap (situation_at (places ++ q ∷ [])) same ∙ last_appended places q)
      where
        same : v ≡ length places
        same = omega (arith, length_appended places q)

        inside : u < length places
        inside = omega (arith, length_appended places q)

targets_step : (moves : List GuardedMove) (places : List Situation) → IsStep places (with_targets places moves) (map (λ move. move.to) moves)
targets_step [] places = record { longer = λ k l. (l, refl); covers = λ q c. absurd (not_in_nil q c); distinct = λ d. d }
targets_step (move ∷ moves) places = decide (cases_Bool (is_place places move.to)) (targets_step moves)
  where
    first : (more : List Situation) → IsFound more move.to → IsStep more (with_targets more moves) (map (λ move. move.to) moves) → (q : Situation) → Contains (map (λ move. move.to) (move ∷ moves)) q → IsFound (with_targets more moves) q
    first more here rest q c = of (Contains-cases move.to (map (λ move. move.to) moves) q c)
      where
        of : (move.to ≡ q) ⊎ Contains (map (λ move. move.to) moves) q → IsFound (with_targets more moves) q
        of (inl e) = subst (IsFound (with_targets more moves)) e (longer_found more (with_targets more moves) move.to rest.longer here)
        of (inr k) = rest.covers q k

    decide : (is_place places move.to ≡ true) ⊎ (is_place places move.to ≡ false) → ((more : List Situation) → IsStep more (with_targets more moves) (map (λ move. move.to) moves)) → IsStep places (with_targets places (move ∷ moves)) (map (λ move. move.to) (move ∷ moves))
    decide (inl t) rest = rw t (record { longer = (rest places).longer; covers = first places (place_is_found places move.to t) (rest places); distinct = (rest places).distinct })
    decide (inr f) rest = rw f (record {
      longer = longer_trans places more (with_targets more moves) (appended places move.to) (rest more).longer;
      covers = first more (length places, omega (arith, length_appended places move.to), last_appended places move.to) (rest more);
      distinct = λ d. (rest more).distinct (appended_distinct places move.to (λ h. never (sym f ∙ found_is_place places move.to h)) d);
    })
      where
        more : List Situation
        more = places ++ move.to ∷ []

abbrev IsCovered : System Guard → List Situation → ℕ → Type 0
IsCovered system places k = (q : Situation) → Contains (map (λ move. move.to) (moves_at system (situation_at places k))) q → IsFound places q

record IsOutcome (system : System Guard) (more at : ℕ) (result : List Situation) : Type 0 where
  whole : ((k : ℕ) → k < length result → IsCovered system result k) ⊎ (at + more < length result)
  distinct : AreDistinct result

explored_outcome : (system : System Guard) (more at : ℕ) (places : List Situation) → AreDistinct places → ((k : ℕ) → k < at → k < length places → IsCovered system places k) → IsOutcome system more at (exploration system more at places)
explored_outcome system zero at places d h = record { whole = decide (cases_lt at (length places)); distinct = d }
  where
    decide : (at < length places) ⊎ (length places ≤ at) → ((k : ℕ) → k < length places → IsCovered system places k) ⊎ (at + 0 < length places)
    decide (inl l) = inr (omega arith)
    decide (inr l) = inl (λ k j. h k (omega arith) j)
explored_outcome system (suc more) at places d h = decide (cases_Bool (ltb at (length places))) (explored_outcome system more (suc at) next)
  where
    next : List Situation
    next = with_targets places (moves_at system (situation_at places at))

    step : IsStep places next (map (λ move. move.to) (moves_at system (situation_at places at)))
    step = targets_step (moves_at system (situation_at places at)) places

    kept : at < length places → (k : ℕ) → k < suc at → k < length next → IsCovered system next k
    kept inside k l j = of (cases_eq k at)
      where
        of : (k ≡ at) ⊎ (k ≡ at → ⊥) → IsCovered system next k
        of (inl e) = λ q c. step.covers q (subst (λ p. Contains (map (λ move. move.to) (moves_at system p)) q) (ap (situation_at next) e ∙ (step.longer at inside).1) c)
        of (inr e) = λ q c. longer_found places next q step.longer (h k before old q (subst (λ p. Contains (map (λ move. move.to) (moves_at system p)) q) (step.longer k old).1 c))
          where
            before : k < at
            before = omega arith

            old : k < length places
            old = omega arith

    decide : (ltb at (length places) ≡ true) ⊎ (ltb at (length places) ≡ false) → (AreDistinct next → ((k : ℕ) → k < suc at → k < length next → IsCovered system next k) → IsOutcome system more (suc at) (exploration system more (suc at) next)) → IsOutcome system (suc more) at (exploration system (suc more) at places)
    decide (inl t) rest = rw t (of (rest (step.distinct d) (kept (ltb-true at (length places) t))))
      where
        of : IsOutcome system more (suc at) (exploration system more (suc at) next) → IsOutcome system (suc more) at (exploration system more (suc at) next)
        of o = record { whole = moved o.whole; distinct = o.distinct }
          where
            moved : ((k : ℕ) → k < length (exploration system more (suc at) next) → IsCovered system (exploration system more (suc at) next) k) ⊎ (suc at + more < length (exploration system more (suc at) next)) →
                ((k : ℕ) → k < length (exploration system more (suc at) next) → IsCovered system (exploration system more (suc at) next) k) ⊎ (at + suc more < length (exploration system more (suc at) next))
            moved (inl c) = inl c
            moved (inr l) = inr (omega arith)
    decide (inr f) rest = rw f (record { whole = inl (λ k j. h k (omega (arith, ltb-false at (length places) f)) j); distinct = d })

-- ---- what is covered is closed

covered_moves : (places : List Situation) (moves : List GuardedMove) → ((q : Situation) → Contains (map (λ move. move.to) moves) q → IsFound places q) → are_places places moves ≡ true
covered_moves places [] h = refl
covered_moves places (move ∷ moves) h = and_from (is_place places move.to) (are_places places moves) (found_is_place places move.to (h move.to (Contains-first move.to (map (λ move. move.to) moves))))
    (covered_moves places moves (λ q c. h q (Contains-later move.to (map (λ move. move.to) moves) q c)))

covered_closed : (system : System Guard) (places rest : List Situation) → ((k : ℕ) → k < length rest → (q : Situation) → Contains (map (λ move. move.to) (moves_at system (situation_at rest k))) q → IsFound places q) → are_closed system places rest ≡ true
covered_closed system places [] h = refl
covered_closed system places (p ∷ rest) h = and_from (are_places places (moves_at system p)) (are_closed system places rest) (covered_moves places (moves_at system p) (h 0 (omega arith))) (covered_closed system places rest (λ k l. h (suc k) (omega arith)))

pub refused_is_too_many : RefusedIsTooMany
refused_is_too_many mover low limit system roots d e = (all, explored_reached system roots limit 0 roots start, outcome.distinct, more outcome.whole)
  where
    all : List Situation
    all = exploration system limit 0 roots

    start : IsReached system roots roots
    start = λ v l. inl (Contains-get_or roots v no_situation l)

    outcome : IsOutcome system limit 0 all
    outcome = explored_outcome system limit 0 roots d (λ k l j. absurd (omega arith))

    open_list : are_closed system all all ≡ true → ⊥
    open_list t = clash (rw t at e)
      where
        clash : ◌≡◌ {A = Option (List Situation × GuardedGame Guard)} (Some (all, map (row_for mover low system all) all)) None → ⊥
        clash h = cc

    more : ((k : ℕ) → k < length all → IsCovered system all k) ⊎ (0 + limit < length all) → limit < length all
    more (inl c) = absurd (open_list (covered_closed system all all c))
    more (inr l) = omega arith
