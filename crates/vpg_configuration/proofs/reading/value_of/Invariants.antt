use Rattle.std.proofs.Common.{◌≡◌, drop, map}
use Rattle.vpg_xml.specs.View.{attribute_of}
use Rattle.vpg_featureide.specs.Model.{value_of}
use Rattle.vpg_configuration.proofs.reading.value_of.Given as goal

abbrev pub invariant-loop-a : goal.invariant-loop-a
invariant-loop-a l = value_of l.key (map attribute_of l.attributes) ≡ value_of l.key (map attribute_of (drop l.a-index l.attributes))
