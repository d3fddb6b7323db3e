use Rattle.std.proofs.Common.{sym, ◌∙◌}
use Rattle.vpg_configuration.proofs.Documented.{decided_in, decided_out, undecided}
use Rattle.vpg_configuration.proofs.exporting.decided_by.Goals as goal

pub returns-then-has_decision : goal.returns-then-has_decision
returns-then-has_decision c = decided_in c.args.decisions.now c.args.feature (sym c.has_decision.ensures ∙ c.if-has_decision.true)

pub returns-then-has_decision-2 : goal.returns-then-has_decision-2
returns-then-has_decision-2 c =
    decided_out c.args.decisions.now c.args.feature (sym c.has_decision.ensures ∙ c.if-has_decision.false) (sym c.has_decision-2.ensures ∙ c.if-has_decision-2.true)

pub returns : goal.returns
returns c = undecided c.args.decisions.now c.args.feature (sym c.has_decision.ensures ∙ c.if-has_decision.false) (sym c.has_decision-2.ensures ∙ c.if-has_decision-2.false)
