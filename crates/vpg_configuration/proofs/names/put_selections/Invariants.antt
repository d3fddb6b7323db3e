use Rattle.std.proofs.Common.{◌≡◌, ◌++◌, take, map}
use Rattle.std.specs.Prelude.{flat_map}
use Rattle.vpg_configuration.specs.Configurations.{selection}
use Rattle.vpg_configuration.proofs.names.put_selections.Given as goal

abbrev pub invariant-loop-line : goal.invariant-loop-line
invariant-loop-line l = l.out.items ≡ l.fn.out.items ++ flat_map selection (map (λ w. w.now) (take l.line-index l.lines))
