use Rattle.vpg_sets.specs.Sets.{IsGrown}
use Rattle.vpg_why.specs.declared.question.Aim.{Aim}
use Rattle.vpg_why.specs.Explained.{choices}
use Rattle.vpg_why.specs.Foreseen.{AreFindings}
use Rattle.vpg_winners.specs.Finding.{IsSetOfMet}
use Rattle.vpg_winners.proofs.Learned.{AreForcedTo}
use Rattle.vpg_winners.proofs.gathering.gather_all.Given as goal

abbrev pub invariant-loop-feature : goal.invariant-loop-feature
invariant-loop-feature l = record {
  grown : IsGrown l.fn.sets l.sets;
  findings : (aim : Aim) → IsSetOfMet l.order.game l.order.diagram aim (choices l.order.decisions) l.fn.sets l.fn.set →
      AreFindings l.order.game l.order.diagram aim (choices l.order.decisions) l.findings;
  forced : (aim : Aim) → IsSetOfMet l.order.game l.order.diagram aim (choices l.order.decisions) l.fn.sets l.fn.set →
      AreForcedTo l.order.game l.order.diagram aim (choices l.order.decisions) l.findings.forced.items l.feature;
}
