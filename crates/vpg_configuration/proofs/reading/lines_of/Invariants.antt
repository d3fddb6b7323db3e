use Rattle.std.proofs.Common.{◌≡◌, [], drop}
use Rattle.vpg_xml.specs.View.{elements_of}
use Rattle.vpg_configuration.specs.Deciding.{lines_with}
use Rattle.vpg_configuration.proofs.reading.lines_of.Given as goal

abbrev pub invariant-loop-e : goal.invariant-loop-e
invariant-loop-e l = lines_with [] (elements_of l.elements) ≡ lines_with l.lines.items (elements_of (drop l.e-index l.elements))
