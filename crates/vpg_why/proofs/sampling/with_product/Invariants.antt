use Rattle.vpg_partial.specs.TableLaws.{AreAmong, AreChoicesOf}
use Rattle.vpg_why.specs.Explained.{choices}
use Rattle.vpg_why.proofs.sampling.with_product.Given as goal

abbrev pub invariant-loop-feature : goal.invariant-loop-feature
invariant-loop-feature l = AreChoicesOf l.order.diagram.lines (choices l.more.items) × AreAmong (choices l.decisions) (choices l.more.items)
