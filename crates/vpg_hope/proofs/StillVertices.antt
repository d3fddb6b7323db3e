-- Vertices whose guards have the values that they had.
use Rattle.std.proofs.Common.{◌≡◌, ℕ, zero, suc, List, [], ◌∷◌, Bool, false, IfOk, Result, Ok, Err, get_or, map, refl, ap}
use Rattle.vpg_game.specs.Game.{vertex_in}
use Rattle.vpg_game.specs.Guarded.{GuardedEdge, GuardedGame, dual}
use Rattle.vpg_sides.specs.Players.{opponent}
use Rattle.vpg_guards.specs.Formula.{Formula}
use Rattle.vpg_guards.specs.Known.{kleene}
use Rattle.vpg_guards.specs.declared.tri.Tri.{Tri}
use Rattle.vpg_hope.specs.Games.{isolated}
use Rattle.vpg_hope.specs.Hope.{hopeful_game}
use Rattle.vpg_hope.specs.Selection.{AreStill}
use Rattle.vpg_hope.specs.Unmarked.{AreSameUnmarked}
use Rattle.vpg_hope.proofs.ChangeSteps.{kept_same}

same_hopeful : (before now : List Tri) (graph : GuardedGame Formula) (v : ℕ) → AreStill before now (vertex_in graph v).edges →
    get_or (hopeful_game (kleene before) graph) v isolated ≡ get_or (hopeful_game (kleene now) graph) v isolated
same_hopeful before now [] v still = refl
same_hopeful before now (x ∷ graph) zero still =
    ap (λ (kept : List (GuardedEdge Formula)). record { owner = x.owner; priority = x.priority; successors = map (λ edge. edge.to) kept }) (kept_same x.owner before now x.edges still)
same_hopeful before now (x ∷ graph) (suc v) still = same_hopeful before now graph v still

same_of_dual : (before now : List Tri) (graph : GuardedGame Formula) (v : ℕ) → AreStill before now (vertex_in graph v).edges →
    get_or (hopeful_game (kleene before) (dual graph)) v isolated ≡ get_or (hopeful_game (kleene now) (dual graph)) v isolated
same_of_dual before now [] v still = refl
same_of_dual before now (x ∷ graph) zero still =
    ap (λ (kept : List (GuardedEdge Formula)). record { owner = opponent x.owner; priority = suc x.priority; successors = map (λ edge. edge.to) kept })
    (kept_same (opponent x.owner) before now x.edges still)
same_of_dual before now (x ∷ graph) (suc v) still = same_of_dual before now graph v still

module _ (before now : List Tri) (graph : GuardedGame Formula) (first second : List Tri) (first_is : first ≡ before) (second_is : second ≡ now) where
  still_of : (marks : List Bool) → ((v : ℕ) → get_or marks v false ≡ false → AreStill first second (vertex_in graph v).edges) →
      (v : ℕ) → get_or marks v false ≡ false → AreStill before now (vertex_in graph v).edges
  still_of marks still v unmarked = coe 0 1 (k. AreStill (first_is k) (second_is k) (vertex_in graph v).edges) (still v unmarked)

  -- of the marks that a call gives
  pub hopeful_unmarked : {T E : Type 0} (marks : T → List Bool) (r : Result T E) →
      IfOk r (λ m. (v : ℕ) → get_or (marks m) v false ≡ false → AreStill first second (vertex_in graph v).edges) →
      IfOk r (λ m. AreSameUnmarked (marks m) (hopeful_game (kleene before) graph) (hopeful_game (kleene now) graph))
  hopeful_unmarked marks (Ok m) still = λ v unmarked. same_hopeful before now graph v (still_of (marks m) still v unmarked)
  hopeful_unmarked marks (Err e) still = tt

  pub dual_unmarked : {T E : Type 0} (marks : T → List Bool) (r : Result T E) →
      IfOk r (λ m. (v : ℕ) → get_or (marks m) v false ≡ false → AreStill first second (vertex_in graph v).edges) →
      IfOk r (λ m. AreSameUnmarked (marks m) (hopeful_game (kleene before) (dual graph)) (hopeful_game (kleene now) (dual graph)))
  dual_unmarked marks (Ok m) still = λ v unmarked. same_of_dual before now graph v (still_of (marks m) still v unmarked)
  dual_unmarked marks (Err e) still = tt
