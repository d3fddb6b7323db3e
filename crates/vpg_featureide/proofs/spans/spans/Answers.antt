use Rattle.std.proofs.Common.{◌+◌, sym, subst}
use Rattle.vpg_xml.specs.View.{element_of, elements_of}
use Rattle.vpg_featureide.specs.Spans.{AreSpans}
use Rattle.vpg_featureide.proofs.Formed.{element_is}
use Rattle.vpg_featureide.proofs.Spanned.{one_more}
use Rattle.vpg_featureide.proofs.spans.spans.Goals as goal

pub loop-j-preserved : goal.loop-j-preserved
loop-j-preserved c =
    let xs = c.args.elements.now in
    let e = c.index-elements-j.result in
    subst (λ spans. AreSpans (c.loop-j.j + 1) spans (elements_of xs)) (sym c.put_child.ensures)
    (one_more c.loop-j.spans.items (elements_of xs) c.loop-j.j (element_of e)
    (element_is xs c.loop-j.j e c.loop-j-test.true c.index-elements-j.is) c.loop-j.invariant)
