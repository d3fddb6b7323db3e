use Rattle.std.proofs.Common.{◌≡◌, drop}
use Rattle.std.specs.Prelude.{find, ◌==◌}
use Rattle.vpg_blake.proofs.table.find_feature.Given as goal

-- what is found from here on is what is found in all
abbrev pub invariant-loop-one : goal.invariant-loop-one
invariant-loop-one l = find (λ h. h == l.feature) l.named ≡ find (λ h. h == l.feature) (drop l.one-index l.named)
