use Rattle.vpg_why.specs.Explained.{choices}
use Rattle.vpg_winners.proofs.Learned.{met_grown}
use Rattle.vpg_winners.proofs.gathering.findings_of_both.Goals as goal

pub returns-clause-lost : goal.returns-clause-lost
returns-clause-lost c aim met =
    let order = c.args.order.now in
    c.in_ok-other.ensures.findings aim
    (met_grown order.game order.diagram aim (choices order.decisions) c.args.sets.now c.findings_of.new.sets c.args.lost
    c.in_ok-one.ensures.grown c.requires.lost met)
