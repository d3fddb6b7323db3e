-- The priorities of a game and of its dual.
use Rattle.std.proofs.Common.{◌≡◌, ℕ, zero, suc, ◌+◌, ◌<◌, ◌≤◌, ◌^◌, List, [], ◌∷◌, length, map, get_or, refl, sym, ap, ap₂, subst, add-zero, add-one, ◌∙◌, arith}
use Rattle.vpg_guards.specs.Formula.{Formula}
use Rattle.vpg_game.specs.Game.{NamedVertex, NamedGame, IsGame, AreVertices, unnamed, graph_of, no_vertex}
use Rattle.vpg_game.specs.Guarded.{GuardedGame, guarded_priorities, dual}
use Rattle.vpg_game.specs.Levels.{levels_of, top_of}
use Rattle.vpg_game.proofs.Duals.{dual_of_dual_has_top}
use Rattle.vpg_game.proofs.Graphs.{games_have_graphs}

pub raised_priorities : (raise : ℕ) (vs : List NamedVertex) → map (λ v. v.priority + raise) vs ≡ map (λ p. p + raise) (guarded_priorities (map unnamed vs))
raised_priorities raise [] = refl
raised_priorities raise (v ∷ vs) = ap (λ (ps : List ℕ). (v.priority + raise) ∷ ps) (raised_priorities raise vs)

unraised : (ps : List ℕ) → map (λ p. p + 0) ps ≡ ps
unraised [] = refl
unraised (p ∷ ps) = ap₂ (λ (q : ℕ) (qs : List ℕ). q ∷ qs) (add-zero p) (unraised ps)

dual_raises : (graph : GuardedGame Formula) → map (λ p. p + 1) (guarded_priorities graph) ≡ guarded_priorities (dual graph)
dual_raises [] = refl
dual_raises (v ∷ vs) = ap₂ (λ (q : ℕ) (qs : List ℕ). q ∷ qs) (add-one v.priority) (dual_raises vs)

pub own_levels : (graph : GuardedGame Formula) → levels_of (map (λ p. p + 0) (guarded_priorities graph)) ≡ levels_of (guarded_priorities graph)
own_levels graph = ap levels_of (unraised (guarded_priorities graph))

pub dual_levels : (graph : GuardedGame Formula) → levels_of (map (λ p. p + 1) (guarded_priorities graph)) ≡ levels_of (guarded_priorities (dual graph))
dual_levels graph = ap levels_of (dual_raises graph)

twice_raised : (ps : List ℕ) → map (λ p. p + 1) (map (λ p. p + 1) ps) ≡ map (λ p. p + 2) ps
twice_raised [] = refl
twice_raised (p ∷ ps) = ap₂ (λ (q : ℕ) (qs : List ℕ). q ∷ qs) (two p) (twice_raised ps)
  where
    two : (q : ℕ) → q + 1 + 1 ≡ q + 2
    two q = omega arith

pub dual_of_dual_levels : (graph : GuardedGame Formula) → levels_of (map (λ p. p + 2) (guarded_priorities graph)) ≡ levels_of (guarded_priorities (dual (dual graph)))
dual_of_dual_levels graph = ap levels_of (sym (twice_raised (guarded_priorities graph)) ∙ ap (λ (ps : List ℕ). map (λ p. p + 1) ps) (dual_raises graph) ∙ dual_raises (dual graph))

pub tops_within : (raise : ℕ) (game : NamedGame) → raise ≤ 2 → IsGame game → top_of (levels_of (map (λ p. p + raise) (guarded_priorities (graph_of game)))) ≤ 2 ^ 62
tops_within zero game h is = subst (λ ls. top_of ls ≤ 2 ^ 62) (sym (own_levels (graph_of game))) (games_have_graphs game is).top
tops_within (suc zero) game h is = subst (λ ls. top_of ls ≤ 2 ^ 62) (sym (dual_levels (graph_of game))) (games_have_graphs game is).dual_top
tops_within (suc (suc zero)) game h is = subst (λ t. t ≤ 2 ^ 62) (sym same) (games_have_graphs game is).top
  where
    same : top_of (levels_of (map (λ p. p + 2) (guarded_priorities (graph_of game)))) ≡ top_of (levels_of (guarded_priorities (graph_of game)))
    same = ap (λ (ps : List ℕ). top_of (levels_of ps)) (sym (twice_raised (guarded_priorities (graph_of game)))) ∙ dual_of_dual_has_top (guarded_priorities (graph_of game))
tops_within (suc (suc (suc n))) game h is = absurd (omega arith)

priority_within : (n m : ℕ) (vs : List NamedVertex) (v : ℕ) → AreVertices n m vs → v < length vs → (get_or vs v no_vertex).priority ≤ 65536
priority_within n m [] v are less = absurd (omega arith)
priority_within n m (w ∷ vs) zero are less = are.1
priority_within n m (w ∷ vs) (suc v) are less = priority_within n m vs v are.3 (omega arith)

pub priority_at : (game : NamedGame) (v : ℕ) → IsGame game → v < length game.vertices → (get_or game.vertices v no_vertex).priority ≤ 65536
priority_at game v is less = priority_within (length game.vertices) game.features game.vertices v is.each less
