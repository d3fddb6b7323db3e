use Rattle.std.proofs.Common.{◌≡◌, drop}
use Rattle.vpg_xml.specs.View.{elements_of}
use Rattle.vpg_featureide.specs.Model.{nothing, seen_with}
use Rattle.vpg_featureide.specs.View.{seen_of}
use Rattle.vpg_featureide.proofs.model.seen.Given as goal

abbrev pub invariant-loop-e : goal.invariant-loop-e
invariant-loop-e l = seen_with nothing (elements_of l.elements) ≡ seen_with (seen_of l.builder) (elements_of (drop l.e-index l.elements))
