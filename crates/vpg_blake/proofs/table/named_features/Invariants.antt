use Rattle.std.proofs.Common.{◌≡◌, ◌++◌, ◌-◌}
use Rattle.std.specs.Prelude.{filter, ◌==◌}
use Rattle.std.specs.List.{list_any, range_with_len}
use Rattle.vpg_blake.specs.Blake.{named_below}
use Rattle.vpg_guards.specs.View.{formula_of}
use Rattle.vpg_blake.proofs.table.named_features.Given as goal

-- what is found and what is still to find is the whole
abbrev pub invariant-loop-feature : goal.invariant-loop-feature
invariant-loop-feature l =
    l.ascending.items ++ filter (λ f. list_any (λ h. h == f) l.named.items) (range_with_len l.feature (l.features - l.feature))
    ≡ named_below l.features (formula_of l.guard)
