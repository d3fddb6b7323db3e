-- The game of the negation is the dual of the game, and the negation holds where the requirement does not.
use Rattle.std.proofs.Common.{◌≡◌, ℕ, zero, suc, ◌<◌, ◌⊎◌, inl, inr, Bool, true, false, not, ◌&&◌, ◌||◌, List, [], ◌∷◌, length, get_or, map, refl, sym, ◌∙◌, subst, ap, Contains, All, arith}
use Rattle.std.proofs.lemmas.Bool.{cases_Bool}
use Rattle.std.proofs.lemmas.List.{length-map, drop-map}
use Rattle.std.proofs.lemmas.List.Elements.{All-head, All-tail, All-cons}
use Rattle.vpg_sides.specs.declared.player.Player.{Player}
use Rattle.vpg_sides.specs.declared.player.Player.TheVariants.{Even, Odd}
use Rattle.vpg_sides.specs.Players.{opponent}
use Rattle.vpg_hope.specs.Games.{Game, Vertex, HasEdge, owner_of, priority_of, successors_of}
use Rattle.vpg_hope.specs.Comparison.{dual_game}
use Rattle.vpg_hope.specs.Strategies.{Strategy, Wins}
use Rattle.vpg_hope.proofs.Dual.{wins_from_dual}
use Rattle.vpg_hope.proofs.Edges.{edges_inside, edge_inside}
use Rattle.vpg_requirement.specs.Systems.{PlainSystem, successors}
use Rattle.vpg_requirement.specs.Fixpoints.{Kind, least, greatest, other_kind, StateSet, set_of}
use Rattle.vpg_requirement.specs.NormalForms.{NormalForm, met, unmet, both, either, some_step, every_step, fixpoint, variable, dual_form, HasParity, HasPriorities}
use Rattle.vpg_requirement.specs.Situations.{Binder, Situation, situation, moves_of, moves_from, part_owner, part_priority, situation_at, IsGameOfSituations}
use Rattle.vpg_requirement.specs.Laws.{WhatFailsIsLost}
use Rattle.vpg_requirement.proofs.Evaluation.{any_in, all_in, iterate, start_of, holds}
use Rattle.vpg_requirement.proofs.Fixpoints.{holds_means}
use Rattle.vpg_requirement.proofs.Steps.{mapped_contains, contains_mapped}
use Rattle.vpg_requirement.proofs.Won.{good_wins, holding_is_good}

-- ---- the negation holds elsewhere

abbrev AreOpposite : ℕ → List StateSet → List StateSet → Type 0
AreOpposite n As Bs = (i : ℕ) → i < n → (s : ℕ) → set_of As i s ≡ not (set_of Bs i s)

opposite_more : (n : ℕ) (A B : StateSet) (As Bs : List StateSet) → ((s : ℕ) → A s ≡ not (B s)) → AreOpposite n As Bs → AreOpposite (suc n) (A ∷ As) (B ∷ Bs)
opposite_more n A B As Bs h hs zero l s = h s
opposite_more n A B As Bs h hs (suc i) l s = hs i (omega arith) s

pub or_not : (a b : Bool) → (not a || not b) ≡ not (a && b)
or_not true b = refl
or_not false b = refl

pub and_not : (a b : Bool) → (not a && not b) ≡ not (a || b)
and_not true b = refl
and_not false b = refl

pub any_not : (P Q : StateSet) → ((t : ℕ) → P t ≡ not (Q t)) → (ts : List ℕ) → any_in P ts ≡ not (all_in Q ts)
any_not P Q h [] = refl
any_not P Q h (t ∷ ts) = rw (h t, any_not P Q h ts) (or_not (Q t) (all_in Q ts))

pub all_not : (P Q : StateSet) → ((t : ℕ) → P t ≡ not (Q t)) → (ts : List ℕ) → all_in P ts ≡ not (any_in Q ts)
all_not P Q h [] = refl
all_not P Q h (t ∷ ts) = rw (h t, all_not P Q h ts) (and_not (Q t) (any_in Q ts))

iterate_not : (F G : StateSet → StateSet) → ((X Y : StateSet) → ((s : ℕ) → X s ≡ not (Y s)) → (s : ℕ) → F X s ≡ not (G Y s)) → (A B : StateSet) → ((s : ℕ) → A s ≡ not (B s)) → (k s : ℕ) → iterate k F A s ≡ not (iterate k G B s)
iterate_not F G h A B base zero s = base s
iterate_not F G h A B base (suc k) s = h (iterate k F A) (iterate k G B) (iterate_not F G h A B base k) s

start_not : (kind : Kind) (s : ℕ) → start_of (other_kind kind) s ≡ not (start_of kind s)
start_not least s = refl
start_not greatest s = refl

pub dual_holds : (system : PlainSystem) (low : ℕ) (f : NormalForm) (ps : List ℕ) (As Bs : List StateSet) → HasPriorities low ps f → AreOpposite (length ps) As Bs → (s : ℕ) → holds system As (dual_form f) s ≡ not (holds system Bs f s)
dual_holds system low met ps As Bs r h s = refl
dual_holds system low unmet ps As Bs r h s = refl
dual_holds system low (both f g) ps As Bs r h s = rw (dual_holds system low f ps As Bs r.0 h s, dual_holds system low g ps As Bs r.1 h s) (or_not (holds system Bs f s) (holds system Bs g s))
dual_holds system low (either f g) ps As Bs r h s = rw (dual_holds system low f ps As Bs r.0 h s, dual_holds system low g ps As Bs r.1 h s) (and_not (holds system Bs f s) (holds system Bs g s))
dual_holds system low (some_step x f) ps As Bs r h s = all_not (holds system As (dual_form f)) (holds system Bs f) (dual_holds system low f ps As Bs r h) (successors system x s)
dual_holds system low (every_step x f) ps As Bs r h s = any_not (holds system As (dual_form f)) (holds system Bs f) (dual_holds system low f ps As Bs r h) (successors system x s)
dual_holds system low (fixpoint kind p f) ps As Bs r h s =
    iterate_not (λ set. holds system (set ∷ As) (dual_form f)) (λ set. holds system (set ∷ Bs) f)
    (λ X Y k. dual_holds system low f (p ∷ ps) (X ∷ As) (Y ∷ Bs) r.2 (opposite_more (length ps) X Y As Bs k h)) (start_of (other_kind kind)) (start_of kind) (start_not kind) (suc system.states) s
dual_holds system low (variable i) ps As Bs r h s = h i r.0 s

-- ---- the negation is ranked

get_raised : (ps : List ℕ) (i : ℕ) → i < length ps → get_or (map suc ps) i 0 ≡ suc (get_or ps i 0)
get_raised [] i l = absurd (omega arith)
get_raised (p ∷ ps) zero l = refl
get_raised (p ∷ ps) (suc i) l = get_raised ps i (omega arith)

dual_parity : (kind : Kind) (p : ℕ) → HasParity kind p → HasParity (other_kind kind) (suc p)
dual_parity least p h = omega arith
dual_parity greatest p h = omega arith

pub dual_ranked : (low : ℕ) (ps : List ℕ) (f : NormalForm) → HasPriorities low ps f → HasPriorities (suc low) (map suc ps) (dual_form f)
dual_ranked low ps met r = tt
dual_ranked low ps unmet r = tt
dual_ranked low ps (both f g) r = (dual_ranked low ps f r.0, dual_ranked low ps g r.1)
dual_ranked low ps (either f g) r = (dual_ranked low ps f r.0, dual_ranked low ps g r.1)
dual_ranked low ps (some_step x f) r = dual_ranked low ps f r
dual_ranked low ps (every_step x f) r = dual_ranked low ps f r
dual_ranked low ps (fixpoint kind p f) r = (dual_parity kind p r.0, omega (arith, r.1), dual_ranked low (p ∷ ps) f r.2)
dual_ranked low ps (variable i) r = (
  omega (arith, r.0, length-map ps suc),
  λ j l. omega (arith, get_raised ps j (omega (arith, r.0)), get_raised ps i r.0, r.1 j l),
)

-- ---- the game of the negation is the dual

abbrev dual_binder : Binder → Binder
dual_binder binder = record { kind = other_kind binder.kind; priority = suc binder.priority; body = dual_form binder.body }

abbrev pub dual_situation : Situation → Situation
dual_situation q = record { state = q.state; part = dual_form q.part; scope = map dual_binder q.scope }

pub dual_of_situation : (t : ℕ) (g : NormalForm) (scope : List Binder) → dual_situation (situation t g scope) ≡ situation t (dual_form g) (map dual_binder scope)
dual_of_situation t met scope = refl
dual_of_situation t unmet scope = refl
dual_of_situation t (both f g) scope = refl
dual_of_situation t (either f g) scope = refl
dual_of_situation t (some_step x f) scope = refl
dual_of_situation t (every_step x f) scope = refl
dual_of_situation t (fixpoint kind p f) scope = refl
dual_of_situation t (variable i) scope = rw (drop-map dual_binder i scope) refl

dual_steps : (f : NormalForm) (scope : List Binder) (ts : List ℕ) → map dual_situation (map (λ t. situation t f scope) ts) ≡ map (λ t. situation t (dual_form f) (map dual_binder scope)) ts
dual_steps f scope [] = refl
dual_steps f scope (t ∷ ts) = rw (dual_of_situation t f scope, dual_steps f scope ts) refl

dual_moves : (system : PlainSystem) (s : ℕ) (g : NormalForm) (scope : List Binder) → map dual_situation (moves_of system s g scope) ≡ moves_of system s (dual_form g) (map dual_binder scope)
dual_moves system s met scope = refl
dual_moves system s unmet scope = refl
dual_moves system s (both f g) scope = rw (dual_of_situation s f scope, dual_of_situation s g scope) refl
dual_moves system s (either f g) scope = rw (dual_of_situation s f scope, dual_of_situation s g scope) refl
dual_moves system s (some_step x f) scope = dual_steps f scope (successors system x s)
dual_moves system s (every_step x f) scope = dual_steps f scope (successors system x s)
dual_moves system s (fixpoint kind p f) scope = refl
dual_moves system s (variable i) [] = refl
dual_moves system s (variable i) (binder ∷ scope) = rw (dual_of_situation s binder.body (binder ∷ scope)) refl

dual_chooser : (mover : Player) (g : NormalForm) → part_owner (opponent mover) (dual_form g) ≡ opponent (part_owner mover g)
dual_chooser mover met = refl
dual_chooser mover unmet = refl
dual_chooser mover (both f g) = refl
dual_chooser mover (either f g) = refl
dual_chooser mover (some_step x f) = refl
dual_chooser mover (every_step x f) = refl
dual_chooser mover (fixpoint kind p f) = refl
dual_chooser mover (variable i) = refl

dual_rank : (low : ℕ) (g : NormalForm) (scope : List Binder) → part_priority (suc low) (dual_form g) (map dual_binder scope) ≡ suc (part_priority low g scope)
dual_rank low met scope = refl
dual_rank low unmet scope = refl
dual_rank low (both f g) scope = refl
dual_rank low (either f g) scope = refl
dual_rank low (some_step x f) scope = refl
dual_rank low (every_step x f) scope = refl
dual_rank low (fixpoint kind p f) scope = refl
dual_rank low (variable i) [] = refl
dual_rank low (variable i) (binder ∷ scope) = refl

dual_owner : (game : Game) (v : ℕ) → v < length game → owner_of (dual_game game) v ≡ opponent (owner_of game v)
dual_owner [] v l = absurd (omega arith)
dual_owner (x ∷ game) zero l = refl
dual_owner (x ∷ game) (suc v) l = dual_owner game v (omega arith)

dual_priority : (game : Game) (v : ℕ) → v < length game → priority_of (dual_game game) v ≡ suc (priority_of game v)
dual_priority [] v l = absurd (omega arith)
dual_priority (x ∷ game) zero l = refl
dual_priority (x ∷ game) (suc v) l = dual_priority game v (omega arith)

dual_successors : (game : Game) (v : ℕ) → successors_of (dual_game game) v ≡ successors_of game v
dual_successors [] v = refl
dual_successors (x ∷ game) zero = refl
dual_successors (x ∷ game) (suc v) = dual_successors game v

dual_at : (places : List Situation) (v : ℕ) → v < length places → situation_at (map dual_situation places) v ≡ dual_situation (situation_at places v)
dual_at [] v l = absurd (omega arith)
dual_at (q ∷ places) zero l = refl
dual_at (q ∷ places) (suc v) l = dual_at places v (omega arith)

dual_edges_inside : (n : ℕ) (game : Game) → All (λ vertex. All (λ w. w < n) vertex.successors) game → All (λ vertex. All (λ w. w < n) vertex.successors) (dual_game game)
dual_edges_inside n [] h = λ k d l. absurd (omega arith)
dual_edges_inside n (x ∷ game) h = All-cons (λ (vertex : Vertex). All (λ w. w < n) vertex.successors) _ (dual_game game) (All-head (λ (vertex : Vertex). All (λ w. w < n) vertex.successors) x game h)
    (dual_edges_inside n game (All-tail (λ (vertex : Vertex). All (λ w. w < n) vertex.successors) x game h))

module _ (mover : Player) (low : ℕ) (system : PlainSystem) (places : List Situation) (game : Game) (arena : IsGameOfSituations mover low system places game) where
  size_game : length (dual_game game) ≡ length game
  size_game = length-map game _

  from_edge : (v w : ℕ) → HasEdge (dual_game game) v w → HasEdge game v w
  from_edge v w e = subst (λ ws. Contains ws w) (dual_successors game v) e

  to_edge : (v w : ℕ) → HasEdge game v w → HasEdge (dual_game game) v w
  to_edge v w e = subst (λ ws. Contains ws w) (sym (dual_successors game v)) e

  inside_places : (v : ℕ) → v < length game → v < length places
  inside_places v l = omega (arith, arena.count)

  pub dual_arena : IsGameOfSituations (opponent mover) (suc low) system (map dual_situation places) (dual_game game)
  dual_arena = record {
    count = size_game ∙ arena.count ∙ sym (length-map places dual_situation);
    inside = subst (λ n. All (λ vertex. All (λ w. w < n) vertex.successors) (dual_game game)) (sym size_game) (dual_edges_inside (length game) game arena.inside);
    owners = owners;
    priorities = priorities;
    sound = sound;
    complete = complete;
  }
    where
      owners : (v : ℕ) → v < length (dual_game game) → owner_of (dual_game game) v ≡ part_owner (opponent mover) (situation_at (map dual_situation places) v).part
      owners v l = rw (dual_owner game v (omega (arith, size_game)), arena.owners v (omega (arith, size_game)), dual_at places v (inside_places v (omega (arith, size_game)))) (sym (dual_chooser mover (situation_at places v).part))

      priorities : (v : ℕ) → v < length (dual_game game) → priority_of (dual_game game) v ≡ part_priority (suc low) (situation_at (map dual_situation places) v).part (situation_at (map dual_situation places) v).scope
      priorities v l = rw (dual_priority game v (omega (arith, size_game)), arena.priorities v (omega (arith, size_game)), dual_at places v (inside_places v (omega (arith, size_game)))) (sym (dual_rank low (situation_at places v).part (situation_at places v).scope))

      sound : (v w : ℕ) → HasEdge (dual_game game) v w → Contains (moves_from system (situation_at (map dual_situation places) v)) (situation_at (map dual_situation places) w)
      sound v w e = rw (dual_at places v (inside_places v (edge_inside game v w (from_edge v w e))), dual_at places w (inside_places w (edges_inside game arena.inside v w (from_edge v w e))), ← dual_moves system (situation_at places v).state (situation_at places v).part (situation_at places v).scope)
          (contains_mapped dual_situation (moves_from system (situation_at places v)) (situation_at places w) (arena.sound v w (from_edge v w e)))

      complete : (v : ℕ) → v < length (dual_game game) → (q : Situation) → Contains (moves_from system (situation_at (map dual_situation places) v)) q → (w : ℕ) × HasEdge (dual_game game) v w × (situation_at (map dual_situation places) w ≡ q)
      complete v l q c = of (mapped_contains dual_situation (moves_from system (situation_at places v)) q moved)
        where
          v_inside : v < length game
          v_inside = omega (arith, size_game)

          moved : Contains (map dual_situation (moves_from system (situation_at places v))) q
          moved = rw (dual_moves system (situation_at places v).state (situation_at places v).part (situation_at places v).scope) (rw (dual_at places v (inside_places v v_inside)) at c)

          of : (x : Situation) × Contains (moves_from system (situation_at places v)) x × (dual_situation x ≡ q) → (w : ℕ) × HasEdge (dual_game game) v w × (situation_at (map dual_situation places) w ≡ q)
          of x = found (arena.complete v v_inside x.0 x.1)
            where
              found : (w : ℕ) × HasEdge game v w × (situation_at places w ≡ x.0) → (w : ℕ) × HasEdge (dual_game game) v w × (situation_at (map dual_situation places) w ≡ q)
              found w = (w.0, to_edge v w.0 w.1, dual_at places w.0 (inside_places w.0 (edges_inside game arena.inside v w.0 w.1)) ∙ ap dual_situation w.2 ∙ x.2)

pub what_fails_is_lost : WhatFailsIsLost
what_fails_is_lost system form places game closed ranked arena s v s_inside v_inside at fails = decide (cases_Bool (holds system [] form s))
  where
    dual_places : List Situation
    dual_places = map dual_situation places

    v_dual : v < length (dual_game game)
    v_dual = omega (arith, length-map {B = Vertex} game (λ vertex. record { owner = opponent vertex.owner; priority = suc vertex.priority; successors = vertex.successors }))

    at_dual : situation_at dual_places v ≡ situation s (dual_form form) []
    at_dual = dual_at places v (omega (arith, arena.count)) ∙ ap dual_situation at ∙ dual_of_situation s form []

    won : holds system [] (dual_form form) s ≡ true → (strategy : Strategy) × Wins game Odd strategy v
    won h = back (good_wins system closed Odd 1 dual_places (dual_game game) (dual_arena Even 0 system places game arena) v v_dual
        (holding_is_good system closed Odd 1 dual_places (dual_game game) (dual_arena Even 0 system places game arena) s v (dual_form form) s_inside (dual_ranked 0 [] form ranked) at_dual h))
      where
        back : (strategy : Strategy) × Wins (dual_game game) Even strategy v → (strategy : Strategy) × Wins game Odd strategy v
        back w = (w.0, wins_from_dual game Odd w.0 v (edges_inside game arena.inside) v_inside w.1)

    decide : (holds system [] form s ≡ true) ⊎ (holds system [] form s ≡ false) → (strategy : Strategy) × Wins game Odd strategy v
    decide (inl t) = absurd (fails (holds_means system closed form [] s s_inside t))
    decide (inr f) = won (dual_holds system 0 form [] [] [] ranked (λ i l. absurd (omega arith)) s ∙ ap not f)
