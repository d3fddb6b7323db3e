use Rattle.std.proofs.Common.{◌≡◌, drop, map}
use Rattle.vpg_xml.specs.View.{attribute_of}
use Rattle.vpg_configuration.specs.Deciding.{unknown_value}
use Rattle.vpg_configuration.proofs.reading.unknown_value.Given as goal

abbrev pub invariant-loop-a : goal.invariant-loop-a
invariant-loop-a l = unknown_value (map attribute_of l.attributes) ≡ unknown_value (map attribute_of (drop l.a-index l.attributes))
