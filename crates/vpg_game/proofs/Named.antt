-- The edges of a vertex hold where a successor that is named does.
use Rattle.std.proofs.Common.{◌≡◌, ◌⊎◌, ◌↔◌, inl, inr, ℕ, Bool, true, false, cond, List, [], ◌∷◌, refl, sym, ◌∙◌}
use Rattle.std.specs.Prelude.{◌==◌, ◌||◌}
use Rattle.std.proofs.lemmas.Bool.{eqb-true, cases_Bool}
use Rattle.vpg_guards.specs.Formula.{Formula, truth}
use Rattle.vpg_guards.specs.Grammar.{either}
use Rattle.vpg_guards.proofs.LawProofs.{joined_guards_mean_both}
use Rattle.vpg_game.specs.Edges.{GuardedEdge, join_edge}
use Rattle.vpg_game.specs.Spelled.{SpelledSuccessor, SpelledEntry}
use Rattle.vpg_game.specs.Game.{place_of, joined_edges, vertex_of}
use Rattle.vpg_game.specs.Laws.{SomeEdgeHolds, SomeNamedHolds}

module _ (set : List Bool) (to : ℕ) where
  abbrev Holds : GuardedEdge Formula → Type 0
  Holds e = (e.to ≡ to) × (truth set e.guard ≡ true)

  either_is : (g h : Formula) → truth set (either g h) ≡ (truth set g || truth set h)
  either_is g h = (joined_guards_mean_both set [] g h).either_true

  left_or : (g h : Formula) → truth set g ≡ true → truth set (either g h) ≡ true
  left_or g h e = either_is g h ∙ rw e refl

  right_or : (g h : Formula) → truth set h ≡ true → truth set (either g h) ≡ true
  right_or g h e = elim (cases_Bool (truth set g)) [
    | inl t ↦ left_or g h t
    | inr f ↦ either_is g h ∙ rw (f, e) refl
  ]

  some_or : (g h : Formula) → truth set (either g h) ≡ true → (truth set g ≡ true) ⊎ (truth set h ≡ true)
  some_or g h e = go (truth set g) refl (sym (either_is g h) ∙ e)
    where
      go : (b : Bool) → truth set g ≡ b → (b || truth set h) ≡ true → (truth set g ≡ true) ⊎ (truth set h ≡ true)
      go true is e = inl is
      go false is e = inr e

  joined_holds : (es : List (GuardedEdge Formula)) (e : GuardedEdge Formula) → SomeEdgeHolds set to (join_edge es e) → SomeEdgeHolds set to es ⊎ Holds e
  joined_holds [] e (inl h) = inr h
  joined_holds [] e (inr never) = absurd never
  joined_holds (f ∷ fs) e some = go (f.to == e.to) refl (joined_holds fs e) some
    where
      go : (b : Bool) → (f.to == e.to) ≡ b → (SomeEdgeHolds set to (join_edge fs e) → SomeEdgeHolds set to fs ⊎ Holds e)
          → SomeEdgeHolds set to (cond b (record { to = f.to; guard = either f.guard e.guard } ∷ fs) (f ∷ join_edge fs e)) → SomeEdgeHolds set to (f ∷ fs) ⊎ Holds e
      go true is rest (inl h) = elim (some_or f.guard e.guard h.1) [
        | inl t ↦ inl (inl (h.0, t))
        | inr t ↦ inr (sym (eqb-true f.to e.to is) ∙ h.0, t)
      ]
      go true is rest (inr h) = inl (inr h)
      go false is rest (inl h) = inl (inl h)
      go false is rest (inr h) = elim (rest h) [
        | inl old ↦ inl (inr old)
        | inr new ↦ inr new
      ]

  holds_joined : (es : List (GuardedEdge Formula)) (e : GuardedEdge Formula) → SomeEdgeHolds set to es ⊎ Holds e → SomeEdgeHolds set to (join_edge es e)
  holds_joined [] e (inl never) = absurd never
  holds_joined [] e (inr h) = inl h
  holds_joined (f ∷ fs) e some = go (f.to == e.to) refl (holds_joined fs e) some
    where
      go : (b : Bool) → (f.to == e.to) ≡ b → (SomeEdgeHolds set to fs ⊎ Holds e → SomeEdgeHolds set to (join_edge fs e))
          → SomeEdgeHolds set to (f ∷ fs) ⊎ Holds e → SomeEdgeHolds set to (cond b (record { to = f.to; guard = either f.guard e.guard } ∷ fs) (f ∷ join_edge fs e))
      go true is rest (inl (inl h)) = inl (h.0, left_or f.guard e.guard h.1)
      go true is rest (inl (inr h)) = inr h
      go true is rest (inr h) = inl (eqb-true f.to e.to is ∙ h.0, right_or f.guard e.guard h.1)
      go false is rest (inl (inl h)) = inl h
      go false is rest (inl (inr h)) = inr (rest (inl h))
      go false is rest (inr h) = inr (rest (inr h))

  abbrev named_edge : List ℕ → SpelledSuccessor → GuardedEdge Formula
  named_edge ids s = record { to = place_of ids s.id; guard = s.guard }

  all_joined : (ids : List ℕ) (es : List (GuardedEdge Formula)) (ss : List SpelledSuccessor) → SomeEdgeHolds set to (joined_edges ids es ss) → SomeEdgeHolds set to es ⊎ SomeNamedHolds set ids to ss
  all_joined ids es [] some = inl some
  all_joined ids es (s ∷ ss) some = elim (all_joined ids (join_edge es (named_edge ids s)) ss some) [
    | inl first ↦ elim (joined_holds es (named_edge ids s) first) [
      | inl old ↦ inl old
      | inr new ↦ inr (inl new)
    ]
    | inr later ↦ inr (inr later)
  ]

  all_named : (ids : List ℕ) (es : List (GuardedEdge Formula)) (ss : List SpelledSuccessor) → SomeEdgeHolds set to es ⊎ SomeNamedHolds set ids to ss → SomeEdgeHolds set to (joined_edges ids es ss)
  all_named ids es [] (inl h) = h
  all_named ids es [] (inr never) = absurd never
  all_named ids es (s ∷ ss) (inl h) = all_named ids (join_edge es (named_edge ids s)) ss (inl (holds_joined es (named_edge ids s) (inl h)))
  all_named ids es (s ∷ ss) (inr (inl h)) = all_named ids (join_edge es (named_edge ids s)) ss (inl (holds_joined es (named_edge ids s) (inr h)))
  all_named ids es (s ∷ ss) (inr (inr h)) = all_named ids (join_edge es (named_edge ids s)) ss (inr h)

only_named : (set : List Bool) (ids : List ℕ) (to : ℕ) (ss : List SpelledSuccessor) → ⊥ ⊎ SomeNamedHolds set ids to ss → SomeNamedHolds set ids to ss
only_named set ids to ss (inl never) = absurd never
only_named set ids to ss (inr h) = h

pub edges_hold_as_named : (set : List Bool) (ids : List ℕ) (entry : SpelledEntry) (to : ℕ) → SomeEdgeHolds set to (vertex_of ids entry).edges ↔ SomeNamedHolds set ids to entry.successors
edges_hold_as_named set ids entry to = (
  λ some. only_named set ids to entry.successors (all_joined set to ids [] entry.successors some),
  λ some. all_named set to ids [] entry.successors (inr some),
)
