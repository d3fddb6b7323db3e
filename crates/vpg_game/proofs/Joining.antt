-- Joining the edges of one vertex.
use Rattle.std.proofs.Common.{◌≡◌, ℕ, zero, suc, ◌<◌, Bool, true, false, cond, List, [], ◌∷◌, ◌++◌, length, set, refl, sym, ap, ◌∙◌, inl, inr, arith}
use Rattle.std.specs.Prelude.{◌==◌, slice_index, slice_index_or}
use Rattle.std.proofs.lemmas.Bool.{eqb-true, eq-eqb, cases_lt}
use Rattle.std.proofs.lemmas.List.{get_or_append_left, get_or_push, get_or-set_other, get_or-set_same, length-append}
use Rattle.vpg_guards.specs.Formula.{Formula}
use Rattle.vpg_guards.specs.Grammar.{either}
use Rattle.vpg_game.specs.Edges.{GuardedEdge, join_edge, no_edge, ArePlaces}

pub join_new : (es : List (GuardedEdge Formula)) (e : GuardedEdge Formula) → ((k : ℕ) → k < length es → (slice_index_or es k no_edge).to ≡ e.to → ⊥) → join_edge es e ≡ es ++ e ∷ []
join_new [] e none = refl
join_new (f ∷ fs) e none = go (f.to == e.to) refl (join_new fs e (λ k lt. none (suc k) (omega arith)))
  where
    go : (b : Bool) → (f.to == e.to) ≡ b → join_edge fs e ≡ fs ++ e ∷ [] → cond b (record { to = f.to; guard = either f.guard e.guard } ∷ fs) (f ∷ join_edge fs e) ≡ f ∷ (fs ++ e ∷ [])
    go true is rest = absurd (none 0 (omega arith) (eqb-true f.to e.to is))
    go false is rest = ap (λ (es : List (GuardedEdge Formula)). f ∷ es) rest

join_first : (es : List (GuardedEdge Formula)) (e : GuardedEdge Formula) (at : ℕ) → at < length es → (slice_index_or es at no_edge).to ≡ e.to → ((k : ℕ) → k < at → (slice_index_or es k no_edge).to ≡ e.to → ⊥)
    → join_edge es e ≡ set es at (record { to = (slice_index_or es at no_edge).to; guard = either (slice_index_or es at no_edge).guard e.guard })
join_first [] e at lt same none = absurd (omega arith)
join_first (f ∷ fs) e zero lt same none = ap (λ b. cond b (record { to = f.to; guard = either f.guard e.guard } ∷ fs) (f ∷ join_edge fs e)) (eq-eqb f.to e.to same)
join_first (f ∷ fs) e (suc at) lt same none = go (f.to == e.to) refl (join_first fs e at (omega arith) same (λ k less. none (suc k) (omega arith)))
  where
    go : (b : Bool) → (f.to == e.to) ≡ b → join_edge fs e ≡ set fs at (record { to = (slice_index_or fs at no_edge).to; guard = either (slice_index_or fs at no_edge).guard e.guard })
        → cond b (record { to = f.to; guard = either f.guard e.guard } ∷ fs) (f ∷ join_edge fs e) ≡ f ∷ set fs at (record { to = (slice_index_or fs at no_edge).to; guard = either (slice_index_or fs at no_edge).guard e.guard })
    go true is rest = absurd (none 0 (omega arith) (eqb-true f.to e.to is))
    go false is rest = ap (λ (es : List (GuardedEdge Formula)). f ∷ es) rest

pub edge_same : {a b : ℕ} {f h : Formula} → a ≡ b → f ≡ h → ◌≡◌ {A = GuardedEdge Formula} (record { to = a; guard = f }) (record { to = b; guard = h })
edge_same p q = cc

-- ---- places of edges

-- an edge of a target stands at the target's place
same_place : (places : List ℕ) (es : List (GuardedEdge Formula)) (to k : ℕ) → ArePlaces places es → k < length es → (slice_index_or es k no_edge).to ≡ to → slice_index places to ≡ k
same_place places es to k are lt e = ap (slice_index places) (sym e) ∙ are k lt

pub set_twice : (es : List (GuardedEdge Formula)) (i : ℕ) (a b : GuardedEdge Formula) → set (set es i a) i b ≡ set es i b
set_twice [] i a b = refl
set_twice (e ∷ es) zero a b = refl
set_twice (e ∷ es) (suc i) a b = ap (λ (fs : List (GuardedEdge Formula)). e ∷ fs) (set_twice es i a b)

pub join_there : (places : List ℕ) (es : List (GuardedEdge Formula)) (e : GuardedEdge Formula) → ArePlaces places es → slice_index places e.to < length es → (slice_index_or es (slice_index places e.to) no_edge).to ≡ e.to
    → join_edge es e ≡ set es (slice_index places e.to) (record { to = e.to; guard = either (slice_index_or es (slice_index places e.to) no_edge).guard e.guard })
join_there places es e are lt same =
    join_first es e (slice_index places e.to) lt same (λ k less h. let p = same_place places es e.to k are (omega arith) h in omega arith)
    ∙ ap (λ (t : ℕ). set es (slice_index places e.to) (record { to = t; guard = either (slice_index_or es (slice_index places e.to) no_edge).guard e.guard })) same

pub join_behind : (places : List ℕ) (es : List (GuardedEdge Formula)) (e : GuardedEdge Formula) → ArePlaces places es → (slice_index places e.to < length es → (slice_index_or es (slice_index places e.to) no_edge).to ≡ e.to → ⊥)
    → join_edge es e ≡ es ++ e ∷ []
join_behind places es e are none =
    join_new es e (λ k lt h. let p = same_place places es e.to k are lt h in none (omega arith) (ap (λ (i : ℕ). (slice_index_or es i no_edge).to) p ∙ h))

pub places_behind : (places : List ℕ) (es : List (GuardedEdge Formula)) (e : GuardedEdge Formula) → ArePlaces places es → e.to < length places → (slice_index places e.to < length es → (slice_index_or es (slice_index places e.to) no_edge).to ≡ e.to → ⊥)
    → ArePlaces (set places e.to (length es)) (es ++ e ∷ [])
places_behind places es e are within none k lt = elim (cases_lt k (length es)) [
  | inl less ↦ (
      let old : slice_index_or (es ++ e ∷ []) k no_edge ≡ slice_index_or es k no_edge = get_or_append_left es (e ∷ []) no_edge k less in
      let other : (slice_index_or es k no_edge).to ≡ e.to → ⊥ = λ h. let p = same_place places es e.to k are less h in none (omega arith) (ap (λ (i : ℕ). (slice_index_or es i no_edge).to) p ∙ h) in
      ap (λ (f : GuardedEdge Formula). slice_index (set places e.to (length es)) f.to) old ∙ get_or-set_other places e.to (slice_index_or es k no_edge).to (length es) 0 other ∙ are k less)
  | inr most ↦ (
      let here : k ≡ length es = omega (arith, length-append es (e ∷ [])) in
      let new : slice_index_or (es ++ e ∷ []) k no_edge ≡ e = ap (λ (i : ℕ). slice_index_or (es ++ e ∷ []) i no_edge) here ∙ get_or_push es e no_edge (length es) refl in
      ap (λ (f : GuardedEdge Formula). slice_index (set places e.to (length es)) f.to) new ∙ get_or-set_same places e.to (length es) 0 within ∙ sym here)
]
