use Rattle.std.proofs.lemmas.Grind.{common_steps}
use Rattle.std.proofs.Common.{ℕ, ◌-◌, length, sym, ap, ◌∙◌, subst, arith}
use Rattle.vpg_diagram.specs.Clauses.{feature_out}
use Rattle.vpg_partial.specs.Propagation.{IsMissingAtCount}
use Rattle.vpg_partial.proofs.CountSteps.{closed_when_parent_out, closed_when_parent_open, closed_when_between, closed_when_members_known, missing_parent_at, missing_member}
use Rattle.vpg_partial.proofs.rules.missing_at_count.Goals as goal

pub returns-then-is_known-clause-closed : goal.returns-then-is_known-clause-closed
returns-then-is_known-clause-closed c =
    closed_when_parent_out c.args.count.now c.args.known.now (sym (rw c.parent-parent.ensures at c.is_known.ensures) ∙ c.if-is_known.true)

pub returns-then-ins-high-clause-missing : goal.returns-then-ins-high-clause-missing
returns-then-ins-high-clause-missing c =
    subst (λ (p : ℕ). IsMissingAtCount c.args.count.now c.args.known.now (feature_out p)) (sym c.parent-parent.ensures)
    (missing_parent_at c.args.count.now c.args.known.now c.known_members-ins.result c.known_members-outs.result c.high-high.result (length c.members-members.result.now - c.low.result)
    c.requires (sym (rw c.parent-parent.ensures at c.is_known.ensures) ∙ c.if-is_known.false)
    (rw c.members-members.ensures at c.known_members-ins.ensures) (rw c.members-members.ensures at c.known_members-outs.ensures) c.high-high.ensures
    (cc (ap length c.members-members.ensures, c.low.ensures)) c.then-ins-high.either)

pub returns-then-not-is_known-clause-closed : goal.returns-then-not-is_known-clause-closed
returns-then-not-is_known-clause-closed c =
    closed_when_parent_open c.args.count.now c.args.known.now (sym (rw c.parent-parent.ensures at c.is_known-2.ensures) ∙ c.if-not-is_known.true)
    (omega (arith, rw c.members-members.ensures at c.known_members-ins.ensures))
    (omega (arith, rw c.members-members.ensures at c.known_members-outs.ensures, ap length c.members-members.ensures))

pub returns-then-outs-most_out-2-clause-closed : goal.returns-then-outs-most_out-2-clause-closed
returns-then-outs-most_out-2-clause-closed c =
    closed_when_between c.args.count.now c.args.known.now
    (omega (arith, rw c.members-members.ensures at c.known_members-ins.ensures))
    (omega (arith, rw c.members-members.ensures at c.known_members-outs.ensures, ap length c.members-members.ensures))

pub returns-in-Some-clause-missing : goal.returns-in-Some-clause-missing
returns-in-Some-clause-missing c =
    missing_member c.args.count.now c.args.known.now c.in-Some.feature c.known_members-ins.result c.known_members-outs.result c.high-high.result (length c.members-members.result.now - c.low.result)
    c.requires (sym (rw c.parent-parent.ensures at c.is_known-2.ensures) ∙ c.if-not-is_known.false)
    (rw c.members-members.ensures at c.known_members-ins.ensures) (rw c.members-members.ensures at c.known_members-outs.ensures) c.high-high.ensures
    (cc (ap length c.members-members.ensures, c.low.ensures)) c.else-ins-high-2.either
    (sym (rw c.members-members.ensures at c.first_unknown.ensures) ∙ c.in-Some.is)

pub returns-in-None-clause-closed : goal.returns-in-None-clause-closed
returns-in-None-clause-closed c =
    closed_when_members_known c.args.count.now c.args.known.now
    (omega (arith, rw c.members-members.ensures at c.known_members-ins.ensures))
    (omega (arith, rw c.members-members.ensures at c.known_members-outs.ensures, ap length c.members-members.ensures))
    (sym (rw c.members-members.ensures at c.first_unknown.ensures) ∙ c.in-None.is)

pub overflow_sub-most_out : goal.overflow_sub-most_out
overflow_sub-most_out c = grind (arith, common_steps)
