use Rattle.vpg_sides.specs.declared.which.Which.TheVariants.{Hopeful, Dual}
use Rattle.vpg_why.specs.declared.question.Aim.TheVariants as aims
use Rattle.vpg_why.specs.Explained.{choices}
use Rattle.vpg_why.specs.Foreseen.{AreFindings}
use Rattle.vpg_winners.proofs.gathering.search_findings.Given as goal

abbrev pub invariant-loop-feature : goal.invariant-loop-feature
invariant-loop-feature l = record {
  won : AreFindings l.order.game l.order.diagram (aims.Won Hopeful l.vertex) (choices l.order.decisions) l.won;
  lost : AreFindings l.order.game l.order.diagram (aims.Won Dual l.vertex) (choices l.order.decisions) l.lost;
}
