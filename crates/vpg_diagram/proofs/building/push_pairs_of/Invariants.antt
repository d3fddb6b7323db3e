use Rattle.std.proofs.Common.{◌≡◌, ◌++◌, ◌∷◌, [], map, drop}
use Rattle.vpg_diagram.specs.Clauses.{feature_out}
use Rattle.vpg_diagram.proofs.building.push_pairs_of.Given as goal

abbrev pub invariant-loop-other : goal.invariant-loop-other
invariant-loop-other l =
    l.clauses.items ++ map (λ d. feature_out l.feature ∷ feature_out d ∷ []) (drop l.other-index l.others)
    ≡ l.fn.clauses.items ++ map (λ d. feature_out l.feature ∷ feature_out d ∷ []) l.others
