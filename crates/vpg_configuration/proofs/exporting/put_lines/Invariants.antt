use Rattle.std.proofs.Common.{◌≡◌, ◌++◌, map}
use Rattle.std.specs.Prelude.{flat_map}
use Rattle.vpg_partial.specs.Known.{literal_of}
use Rattle.vpg_configuration.specs.Exports.{features_known, line_of}
use Rattle.vpg_configuration.proofs.exporting.put_lines.Given as goal

abbrev pub invariant-loop-f : goal.invariant-loop-f
invariant-loop-f l =
    l.out.items ≡ l.fn.out.items ++ flat_map (line_of l.form l.names l.known (map literal_of l.decisions)) (features_known l.known l.value l.f)
