use Rattle.vpg_xml.specs.View.{elements_of}
use Rattle.vpg_featureide.specs.Spans.{AreSpans}
use Rattle.vpg_featureide.proofs.spans.spans.Given as goal

abbrev pub invariant-loop-j : goal.invariant-loop-j
invariant-loop-j l = AreSpans l.j l.spans.items (elements_of l.elements)
