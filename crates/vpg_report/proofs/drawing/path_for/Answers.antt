use Rattle.std.proofs.Common.{Option, subst}
use Rattle.vpg_checking.specs.Behaviours.{Behaviour}
use Rattle.vpg_diagram.specs.FeatureDiagram.{feature_count}
use Rattle.vpg_looks.specs.Answers.{IsOver}
use Rattle.vpg_report.proofs.Draws.{system_over}
use Rattle.vpg_report.proofs.drawing.path_for.Goals as goal

pub path_at-requires-clause-features : goal.path_at-requires-clause-features
path_at-requires-clause-features c = system_over c.args.order.now c.args.behaviour.now c.in-Some.made c.game-order.ensures.order c.in-Some.is c.requires.system

pub no_trace-requires-clause-features : goal.no_trace-requires-clause-features
no_trace-requires-clause-features c = system_over c.args.order.now c.args.behaviour.now c.in-Some.made c.game-order.ensures.order c.in-Some.is c.requires.system

pub unreachable-requires : goal.unreachable-requires
unreachable-requires c = subst (λ (b : Option Behaviour). IsOver (feature_count c.args.order.now.diagram.lines) b) c.in-None.is c.requires.system
