-- In each product the game that is built for the family is the game of the product's system.
use Rattle.std.proofs.Common.{◌≡◌, ℕ, zero, suc, ◌<◌, ◌⊎◌, inl, inr, Bool, true, false, ◌&&◌, List, [], ◌∷◌, length, get_or, map, filter, refl, sym, ◌∙◌, subst, ap, Contains, All, arith}
use Rattle.std.specs.Prelude.{◌==◌}
use Rattle.std.specs.List.{AllZip}
use Rattle.std.proofs.lemmas.Bool.{cases_Bool, or_cases, or_left, or_right, eqb-true}
use Rattle.std.proofs.lemmas.List.{length-map}
use Rattle.std.proofs.lemmas.List.Elements.{All-cons, All-nil}
use Rattle.vpg_sides.specs.declared.player.Player.{Player}
use Rattle.vpg_sides.specs.declared.player.Player.TheVariants.{Even}
use Rattle.vpg_guards.specs.Formula.{Formula as Guard, truth}
use Rattle.vpg_guards.specs.Grammar.{either as either_guard}
use Rattle.vpg_guards.proofs.LawProofs.{joined_guards_mean_both}
use Rattle.vpg_game.specs.Edges.{join_edge}
use Rattle.vpg_game.specs.Guarded.{GuardedEdge, GuardedVertex, GuardedGame}
use Rattle.vpg_hope.specs.Games.{Game, Vertex, HasEdge, owner_of, priority_of, successors_of}
use Rattle.vpg_hope.specs.Hope.{product_game}
use Rattle.vpg_hope.proofs.Edges.{edge_inside, Contains-first, Contains-later, Contains-cases, not_in_nil}
use Rattle.vpg_requirement.specs.Actions.{ActionFormula, permits}
use Rattle.vpg_requirement.specs.Systems.{Transition, System, PlainSystem, product_system}
use Rattle.vpg_requirement.specs.NormalForms.{NormalForm, met, unmet, both, either, some_step, every_step, fixpoint, variable}
use Rattle.vpg_requirement.specs.Situations.{Binder, Situation, situation, situation_at, moves_of, moves_from, IsGameOfSituations}
use Rattle.vpg_requirement.specs.Building.{GuardedMove, free_move, guarded_moves, join_edges, IsEdgeOf, IsRowOf, IsBuiltOf}
use Rattle.vpg_requirement.specs.Laws.{BuiltIsGame}

module _ (set : List Bool) where
  -- ---- edges and moves that a product keeps

  abbrev kept : List (GuardedEdge Guard) → List ℕ
  kept edges = map (λ edge. edge.to) (filter (λ edge. truth set edge.guard) edges)

  abbrev IsKept : List (GuardedEdge Guard) → ℕ → Type 0
  IsKept [] w = ⊥
  IsKept (edge ∷ edges) w = ((truth set edge.guard ≡ true) × (edge.to ≡ w)) ⊎ IsKept edges w

  abbrev IsMoved : List GuardedMove → Situation → Type 0
  IsMoved [] q = ⊥
  IsMoved (move ∷ moves) q = ((truth set move.guard ≡ true) × (move.to ≡ q)) ⊎ IsMoved moves q

  kept_from : (edges : List (GuardedEdge Guard)) (w : ℕ) → Contains (kept edges) w → IsKept edges w
  kept_from [] w c = not_in_nil w c
  kept_from (edge ∷ edges) w c = decide (cases_Bool (truth set edge.guard)) (kept_from edges w)
    where
      decide : (truth set edge.guard ≡ true) ⊎ (truth set edge.guard ≡ false) → (Contains (kept edges) w → IsKept edges w) → IsKept (edge ∷ edges) w
      decide (inl t) rest = first (Contains-cases edge.to (kept edges) w (rw t at c))
        where
          first : (edge.to ≡ w) ⊎ Contains (kept edges) w → IsKept (edge ∷ edges) w
          first (inl e) = inl (t, e)
          first (inr k) = inr (rest k)
      decide (inr f) rest = inr (rest (rw f at c))

  kept_to : (edges : List (GuardedEdge Guard)) (w : ℕ) → IsKept edges w → Contains (kept edges) w
  kept_to [] w k = absurd k
  kept_to (edge ∷ edges) w (inl k) = rw k.0 (subst (λ x. Contains (edge.to ∷ kept edges) x) k.1 (Contains-first edge.to (kept edges)))
  kept_to (edge ∷ edges) w (inr k) = decide (cases_Bool (truth set edge.guard)) (kept_to edges w k)
    where
      decide : (truth set edge.guard ≡ true) ⊎ (truth set edge.guard ≡ false) → Contains (kept edges) w → Contains (kept (edge ∷ edges)) w
      decide (inl t) rest = rw t (Contains-later edge.to (kept edges) w rest)
      decide (inr f) rest = rw f rest

  -- ---- edges that are joined

  join_from : (es : List (GuardedEdge Guard)) (e : GuardedEdge Guard) (w : ℕ) → IsKept (join_edge es e) w → IsKept es w ⊎ ((truth set e.guard ≡ true) × (e.to ≡ w))
  join_from [] e w (inl k) = inr k
  join_from [] e w (inr k) = absurd k
  join_from (f ∷ fs) e w k = decide (cases_Bool (f.to == e.to)) (join_from fs e w)
    where
      decide : ((f.to == e.to) ≡ true) ⊎ ((f.to == e.to) ≡ false) → (IsKept (join_edge fs e) w → IsKept fs w ⊎ ((truth set e.guard ≡ true) × (e.to ≡ w))) → IsKept (f ∷ fs) w ⊎ ((truth set e.guard ≡ true) × (e.to ≡ w))
      decide (inl t) rest = joined (rw t at k)
        where
          joined : ((truth set (either_guard f.guard e.guard) ≡ true) × (f.to ≡ w)) ⊎ IsKept fs w → IsKept (f ∷ fs) w ⊎ ((truth set e.guard ≡ true) × (e.to ≡ w))
          joined (inl h) = split (or_cases (truth set f.guard) (truth set e.guard) (sym (joined_guards_mean_both set [] f.guard e.guard).either_true ∙ h.0))
            where
              split : (truth set f.guard ≡ true) ⊎ (truth set e.guard ≡ true) → IsKept (f ∷ fs) w ⊎ ((truth set e.guard ≡ true) × (e.to ≡ w))
              split (inl a) = inl (inl (a, h.1))
              split (inr b) = inr (b, sym (eqb-true f.to e.to t) ∙ h.1)
          joined (inr h) = inl (inr h)
      decide (inr n) rest = joined (rw n at k)
        where
          joined : ((truth set f.guard ≡ true) × (f.to ≡ w)) ⊎ IsKept (join_edge fs e) w → IsKept (f ∷ fs) w ⊎ ((truth set e.guard ≡ true) × (e.to ≡ w))
          joined (inl h) = inl (inl h)
          joined (inr h) = later (rest h)
            where
              later : IsKept fs w ⊎ ((truth set e.guard ≡ true) × (e.to ≡ w)) → IsKept (f ∷ fs) w ⊎ ((truth set e.guard ≡ true) × (e.to ≡ w))
              later (inl x) = inl (inr x)
              later (inr x) = inr x

  join_old : (es : List (GuardedEdge Guard)) (e : GuardedEdge Guard) (w : ℕ) → IsKept es w → IsKept (join_edge es e) w
  join_old [] e w k = absurd k
  join_old (f ∷ fs) e w k = decide (cases_Bool (f.to == e.to)) k (join_old fs e w)
    where
      decide : ((f.to == e.to) ≡ true) ⊎ ((f.to == e.to) ≡ false) → IsKept (f ∷ fs) w → (IsKept fs w → IsKept (join_edge fs e) w) → IsKept (join_edge (f ∷ fs) e) w
      decide (inl t) (inl h) rest = rw t (inl ((joined_guards_mean_both set [] f.guard e.guard).either_true ∙ or_left (truth set f.guard) (truth set e.guard) h.0, h.1))
      decide (inl t) (inr h) rest = rw t (inr h)
      decide (inr n) (inl h) rest = rw n (inl h)
      decide (inr n) (inr h) rest = rw n (inr (rest h))

  join_new : (es : List (GuardedEdge Guard)) (e : GuardedEdge Guard) → truth set e.guard ≡ true → IsKept (join_edge es e) e.to
  join_new [] e h = inl (h, refl)
  join_new (f ∷ fs) e h = decide (cases_Bool (f.to == e.to)) (join_new fs e h)
    where
      decide : ((f.to == e.to) ≡ true) ⊎ ((f.to == e.to) ≡ false) → IsKept (join_edge fs e) e.to → IsKept (join_edge (f ∷ fs) e) e.to
      decide (inl t) rest = rw t (inl ((joined_guards_mean_both set [] f.guard e.guard).either_true ∙ or_right (truth set f.guard) (truth set e.guard) h, eqb-true f.to e.to t))
      decide (inr n) rest = rw n (inr rest)

  joins_from : (named es : List (GuardedEdge Guard)) (w : ℕ) → IsKept (join_edges es named) w → IsKept es w ⊎ IsKept named w
  joins_from [] es w k = inl k
  joins_from (e ∷ named) es w k = split (joins_from named (join_edge es e) w k)
    where
      split : IsKept (join_edge es e) w ⊎ IsKept named w → IsKept es w ⊎ IsKept (e ∷ named) w
      split (inl h) = first (join_from es e w h)
        where
          first : IsKept es w ⊎ ((truth set e.guard ≡ true) × (e.to ≡ w)) → IsKept es w ⊎ IsKept (e ∷ named) w
          first (inl x) = inl x
          first (inr x) = inr (inl x)
      split (inr h) = inr (inr h)

  joins_old : (named es : List (GuardedEdge Guard)) (w : ℕ) → IsKept es w → IsKept (join_edges es named) w
  joins_old [] es w k = k
  joins_old (e ∷ named) es w k = joins_old named (join_edge es e) w (join_old es e w k)

  joins_new : (named es : List (GuardedEdge Guard)) (w : ℕ) → IsKept named w → IsKept (join_edges es named) w
  joins_new [] es w k = absurd k
  joins_new (e ∷ named) es w (inl k) = joins_old named (join_edge es e) w (subst (λ x. IsKept (join_edge es e) x) k.1 (join_new es e k.0))
  joins_new (e ∷ named) es w (inr k) = joins_new named (join_edge es e) w k

  -- ---- the moves of a family's situation that a product keeps are those in the product's system

  abbrev plain_steps : ActionFormula → ℕ → NormalForm → List Binder → List (Transition Guard) → List Situation
  plain_steps x s f scope ts = map (λ t. situation t f scope) (map (λ step. step.target) (filter (λ step. (step.source == s) && permits x step.label) (map (λ t. t.step) (filter (λ t. truth set t.guard) ts))))

  abbrev guarded_steps : ActionFormula → ℕ → NormalForm → List Binder → List (Transition Guard) → List GuardedMove
  guarded_steps x s f scope ts = map (λ t. record { guard = t.guard; to = situation t.step.target f scope }) (filter (λ t. (t.step.source == s) && permits x t.step.label) ts)

  steps_from : (x : ActionFormula) (s : ℕ) (f : NormalForm) (scope : List Binder) (ts : List (Transition Guard)) (q : Situation) → Contains (plain_steps x s f scope ts) q → IsMoved (guarded_steps x s f scope ts) q
  steps_from x s f scope [] q c = not_in_nil q c
  steps_from x s f scope (t ∷ ts) q c = decide (cases_Bool (truth set t.guard)) (cases_Bool ((t.step.source == s) && permits x t.step.label)) (steps_from x s f scope ts q)
    where
      decide : (truth set t.guard ≡ true) ⊎ (truth set t.guard ≡ false) → (((t.step.source == s) && permits x t.step.label) ≡ true) ⊎ (((t.step.source == s) && permits x t.step.label) ≡ false) → (Contains (plain_steps x s f scope ts) q → IsMoved (guarded_steps x s f scope ts) q) →
          IsMoved (guarded_steps x s f scope (t ∷ ts)) q
      decide (inl a) (inl b) rest = rw b (first (Contains-cases (situation t.step.target f scope) (plain_steps x s f scope ts) q (rw b at (rw a at c))))
        where
          first : (situation t.step.target f scope ≡ q) ⊎ Contains (plain_steps x s f scope ts) q → ((truth set t.guard ≡ true) × (situation t.step.target f scope ≡ q)) ⊎ IsMoved (guarded_steps x s f scope ts) q
          first (inl e) = inl (a, e)
          first (inr k) = inr (rest k)
      decide (inl a) (inr b) rest = rw b (rest (rw b at (rw a at c)))
      decide (inr a) (inl b) rest = rw b (inr (rest (rw a at c)))
      decide (inr a) (inr b) rest = rw b (rest (rw a at c))

  steps_to : (x : ActionFormula) (s : ℕ) (f : NormalForm) (scope : List Binder) (ts : List (Transition Guard)) (q : Situation) → IsMoved (guarded_steps x s f scope ts) q → Contains (plain_steps x s f scope ts) q
  steps_to x s f scope [] q k = absurd k
  steps_to x s f scope (t ∷ ts) q k = decide (cases_Bool (truth set t.guard)) (cases_Bool ((t.step.source == s) && permits x t.step.label)) (steps_to x s f scope ts q)
    where
      decide : (truth set t.guard ≡ true) ⊎ (truth set t.guard ≡ false) → (((t.step.source == s) && permits x t.step.label) ≡ true) ⊎ (((t.step.source == s) && permits x t.step.label) ≡ false) → (IsMoved (guarded_steps x s f scope ts) q → Contains (plain_steps x s f scope ts) q) →
          Contains (plain_steps x s f scope (t ∷ ts)) q
      decide (inl a) (inl b) rest = rw a (rw b (first (rw b at k)))
        where
          first : ((truth set t.guard ≡ true) × (situation t.step.target f scope ≡ q)) ⊎ IsMoved (guarded_steps x s f scope ts) q → Contains (situation t.step.target f scope ∷ plain_steps x s f scope ts) q
          first (inl e) = subst (λ z. Contains (situation t.step.target f scope ∷ plain_steps x s f scope ts) z) e.1 (Contains-first (situation t.step.target f scope) (plain_steps x s f scope ts))
          first (inr m) = Contains-later (situation t.step.target f scope) (plain_steps x s f scope ts) q (rest m)
      decide (inl a) (inr b) rest = rw a (rw b (rest (rw b at k)))
      decide (inr a) (inl b) rest = rw a (first (rw b at k))
        where
          first : ((truth set t.guard ≡ true) × (situation t.step.target f scope ≡ q)) ⊎ IsMoved (guarded_steps x s f scope ts) q → Contains (plain_steps x s f scope ts) q
          first (inl e) = absurd (clash e.0)
            where
              clash : truth set t.guard ≡ true → ⊥
              clash h = cc (h, a)
          first (inr m) = rest m
      decide (inr a) (inr b) rest = rw a (rest (rw b at k))

  one_from : (p q : Situation) → Contains (p ∷ []) q → IsMoved (free_move p ∷ []) q
  one_from p q c = of (Contains-cases p [] q c)
    where
      of : (p ≡ q) ⊎ Contains [] q → IsMoved (free_move p ∷ []) q
      of (inl e) = inl (refl, e)
      of (inr k) = absurd (not_in_nil q k)

  one_to : (p q : Situation) → IsMoved (free_move p ∷ []) q → Contains (p ∷ []) q
  one_to p q (inl k) = subst (λ z. Contains (p ∷ []) z) k.1 (Contains-first p [])
  one_to p q (inr k) = absurd k

  two_from : (p r q : Situation) → Contains (p ∷ r ∷ []) q → IsMoved (free_move p ∷ free_move r ∷ []) q
  two_from p r q c = of (Contains-cases p (r ∷ []) q c)
    where
      of : (p ≡ q) ⊎ Contains (r ∷ []) q → IsMoved (free_move p ∷ free_move r ∷ []) q
      of (inl e) = inl (refl, e)
      of (inr k) = inr (one_from r q k)

  two_to : (p r q : Situation) → IsMoved (free_move p ∷ free_move r ∷ []) q → Contains (p ∷ r ∷ []) q
  two_to p r q (inl k) = subst (λ z. Contains (p ∷ r ∷ []) z) k.1 (Contains-first p (r ∷ []))
  two_to p r q (inr k) = Contains-later p (r ∷ []) q (one_to r q k)

  moves_agree_from : (system : System Guard) (s : ℕ) (g : NormalForm) (scope : List Binder) (q : Situation) → Contains (moves_of (product_system (truth set) system) s g scope) q → IsMoved (guarded_moves system s g scope) q
  moves_agree_from system s met scope q c = not_in_nil q c
  moves_agree_from system s unmet scope q c = not_in_nil q c
  moves_agree_from system s (both f g) scope q c = two_from (situation s f scope) (situation s g scope) q c
  moves_agree_from system s (either f g) scope q c = two_from (situation s f scope) (situation s g scope) q c
  moves_agree_from system s (some_step x f) scope q c = steps_from x s f scope system.transitions q c
  moves_agree_from system s (every_step x f) scope q c = steps_from x s f scope system.transitions q c
  moves_agree_from system s (fixpoint kind p f) scope q c = one_from (situation s (fixpoint kind p f) scope) q c
  moves_agree_from system s (variable i) [] q c = not_in_nil q c
  moves_agree_from system s (variable i) (binder ∷ scope) q c = one_from (situation s binder.body (binder ∷ scope)) q c

  moves_agree_to : (system : System Guard) (s : ℕ) (g : NormalForm) (scope : List Binder) (q : Situation) → IsMoved (guarded_moves system s g scope) q → Contains (moves_of (product_system (truth set) system) s g scope) q
  moves_agree_to system s met scope q k = absurd k
  moves_agree_to system s unmet scope q k = absurd k
  moves_agree_to system s (both f g) scope q k = two_to (situation s f scope) (situation s g scope) q k
  moves_agree_to system s (either f g) scope q k = two_to (situation s f scope) (situation s g scope) q k
  moves_agree_to system s (some_step x f) scope q k = steps_to x s f scope system.transitions q k
  moves_agree_to system s (every_step x f) scope q k = steps_to x s f scope system.transitions q k
  moves_agree_to system s (fixpoint kind p f) scope q k = one_to (situation s (fixpoint kind p f) scope) q k
  moves_agree_to system s (variable i) [] q k = absurd k
  moves_agree_to system s (variable i) (binder ∷ scope) q k = one_to (situation s binder.body (binder ∷ scope)) q k

  -- ---- moves and the edges that stand for them

  edges_from : (places : List Situation) (moves : List GuardedMove) (named : List (GuardedEdge Guard)) → AllZip (IsEdgeOf places) moves named → (w : ℕ) → IsKept named w → IsMoved moves (situation_at places w) × (w < length places)
  edges_from places [] [] z w k = absurd k
  edges_from places [] (e ∷ named) z w k = absurd z
  edges_from places (m ∷ moves) [] z w k = absurd z
  edges_from places (m ∷ moves) (e ∷ named) z w (inl k) = (inl (sym (ap (truth set) z.0.guard) ∙ k.0, sym z.0.target ∙ ap (situation_at places) k.1), subst (λ x. x < length places) k.1 z.0.inside)
  edges_from places (m ∷ moves) (e ∷ named) z w (inr k) = of (edges_from places moves named z.1 w k)
    where
      of : IsMoved moves (situation_at places w) × (w < length places) → IsMoved (m ∷ moves) (situation_at places w) × (w < length places)
      of h = (inr h.0, h.1)

  edges_to : (places : List Situation) (moves : List GuardedMove) (named : List (GuardedEdge Guard)) → AllZip (IsEdgeOf places) moves named → (q : Situation) → IsMoved moves q → (w : ℕ) × IsKept named w × (situation_at places w ≡ q)
  edges_to places [] [] z q k = absurd k
  edges_to places [] (e ∷ named) z q k = absurd k
  edges_to places (m ∷ moves) [] z q k = absurd z
  edges_to places (m ∷ moves) (e ∷ named) z q (inl k) = (e.to, inl (ap (truth set) z.0.guard ∙ k.0, refl), z.0.target ∙ k.1)
  edges_to places (m ∷ moves) (e ∷ named) z q (inr k) = of (edges_to places moves named z.1 q k)
    where
      of : (w : ℕ) × IsKept named w × (situation_at places w ≡ q) → (w : ℕ) × IsKept (e ∷ named) w × (situation_at places w ≡ q)
      of h = (h.0, inr h.1, h.2)

  -- ---- the rows

  record IsAt (mover : Player) (low : ℕ) (system : System Guard) (places : List Situation) (place : Situation) (game : Game) (v : ℕ) : Type 0 where
    vertex : GuardedVertex Guard
    row : IsRowOf mover low system places place vertex
    owner : owner_of game v ≡ vertex.owner
    priority : priority_of game v ≡ vertex.priority
    successors : successors_of game v ≡ kept vertex.edges

  row_at : (mover : Player) (low : ℕ) (system : System Guard) (places ps : List Situation) (game : GuardedGame Guard) → AllZip (IsRowOf mover low system places) ps game → (v : ℕ) → v < length game → IsAt mover low system places (situation_at ps v) (product_game (truth set) game) v
  row_at mover low system places [] [] z v l = absurd (omega arith)
  row_at mover low system places [] (x ∷ game) z v l = absurd z
  row_at mover low system places (p ∷ ps) [] z v l = absurd z
  row_at mover low system places (p ∷ ps) (x ∷ game) z zero l = record { vertex = x; row = z.0; owner = refl; priority = refl; successors = refl }
  row_at mover low system places (p ∷ ps) (x ∷ game) z (suc v) l = of (row_at mover low system places ps game z.1 v (omega arith))
    where
      of : IsAt mover low system places (situation_at ps v) (product_game (truth set) game) v → IsAt mover low system places (situation_at ps v) (product_game (truth set) (x ∷ game)) (suc v)
      of h = record { vertex = h.vertex; row = h.row; owner = h.owner; priority = h.priority; successors = h.successors }

  pub zip_length : (mover : Player) (low : ℕ) (system : System Guard) (places ps : List Situation) (game : GuardedGame Guard) → AllZip (IsRowOf mover low system places) ps game → length game ≡ length ps
  zip_length mover low system places [] [] z = refl
  zip_length mover low system places [] (x ∷ game) z = absurd z
  zip_length mover low system places (p ∷ ps) [] z = absurd z
  zip_length mover low system places (p ∷ ps) (x ∷ game) z = omega (arith, zip_length mover low system places ps game z.1)

  all_contained : (n : ℕ) (ws : List ℕ) → ((w : ℕ) → Contains ws w → w < n) → All (λ w. w < n) ws
  all_contained n [] h = All-nil (λ w. w < n)
  all_contained n (w ∷ ws) h = All-cons (λ w. w < n) w ws (h w (Contains-first w ws)) (all_contained n ws (λ u c. h u (Contains-later w ws u c)))

  all_vertices : (P : Vertex → Type 0) (game : Game) → ((v : ℕ) → v < length game → P (get_or game v (record { owner = Even; priority = 0; successors = [] }))) → All P game
  all_vertices P [] h = All-nil P
  all_vertices P (x ∷ game) h = All-cons P x game (h 0 (omega arith)) (all_vertices P game (λ v l. h (suc v) (omega arith)))

  module _ (mover : Player) (low : ℕ) (system : System Guard) (places : List Situation) (guarded : GuardedGame Guard) (built : IsBuiltOf mover low system places guarded) where
    game : Game
    game = product_game (truth set) guarded

    abbrev plain : PlainSystem
    plain = product_system (truth set) system

    game_length : length game ≡ length guarded
    unfolding game
    game_length = length-map guarded _

    at_vertex : (v : ℕ) → v < length game → IsAt mover low system places (situation_at places v) game v
    unfolding game
    at_vertex v l = row_at mover low system places places guarded built v (omega (arith, game_length))

    edge_kept : (v w : ℕ) (h : IsAt mover low system places (situation_at places v) game v) → HasEdge game v w → IsKept h.row.named w
    edge_kept v w h e = of (joins_from h.row.named [] w (subst (λ es. IsKept es w) h.row.edges (kept_from h.vertex.edges w (subst (λ ws. Contains ws w) h.successors e))))
      where
        of : ⊥ ⊎ IsKept h.row.named w → IsKept h.row.named w
        of (inl k) = absurd k
        of (inr k) = k

    kept_edge : (v w : ℕ) (h : IsAt mover low system places (situation_at places v) game v) → IsKept h.row.named w → HasEdge game v w
    kept_edge v w h k = subst (λ ws. Contains ws w) (sym h.successors) (kept_to h.vertex.edges w (subst (λ es. IsKept es w) (sym h.row.edges) (joins_new h.row.named [] w k)))

    edge_moved : (v w : ℕ) → HasEdge game v w → IsMoved (guarded_moves system (situation_at places v).state (situation_at places v).part (situation_at places v).scope) (situation_at places w) × (w < length places)
    edge_moved v w e = of (at_vertex v (edge_inside game v w e))
      where
        of : IsAt mover low system places (situation_at places v) game v → IsMoved (guarded_moves system (situation_at places v).state (situation_at places v).part (situation_at places v).scope) (situation_at places w) × (w < length places)
        of h = edges_from places (guarded_moves system (situation_at places v).state (situation_at places v).part (situation_at places v).scope) h.row.named h.row.moves w (edge_kept v w h e)

    pub built_arena : IsGameOfSituations mover low (product_system (truth set) system) places (product_game (truth set) guarded)
    unfolding game
    built_arena = record {
      count = game_length ∙ zip_length mover low system places places guarded built;
      inside = all_vertices (λ vertex. All (λ w. w < length game) vertex.successors) game (λ v l. all_contained (length game) (successors_of game v) (λ w c. omega (arith, (edge_moved v w c).1, game_length, zip_length mover low system places places guarded built)));
      owners = λ v l. (at_vertex v l).owner ∙ (at_vertex v l).row.owner;
      priorities = λ v l. (at_vertex v l).priority ∙ (at_vertex v l).row.priority;
      sound = λ v w e. moves_agree_to system (situation_at places v).state (situation_at places v).part (situation_at places v).scope (situation_at places w) (edge_moved v w e).0;
      complete = complete;
    }
      where
        complete : (v : ℕ) → v < length game → (q : Situation) → Contains (moves_from plain (situation_at places v)) q → (w : ℕ) × HasEdge game v w × (situation_at places w ≡ q)
        complete v l q c = of (at_vertex v l)
          where
            of : IsAt mover low system places (situation_at places v) game v → (w : ℕ) × HasEdge game v w × (situation_at places w ≡ q)
            of h = found (edges_to places (guarded_moves system (situation_at places v).state (situation_at places v).part (situation_at places v).scope) h.row.named h.row.moves q (moves_agree_from system (situation_at places v).state (situation_at places v).part (situation_at places v).scope q c))
              where
                found : (w : ℕ) × IsKept h.row.named w × (situation_at places w ≡ q) → (w : ℕ) × HasEdge game v w × (situation_at places w ≡ q)
                found w = (w.0, kept_edge v w.0 h w.1, w.2)

pub built_is_game : BuiltIsGame
built_is_game mover low system places game built set = built_arena set mover low system places game built
