use Rattle.std.proofs.lemmas.Grind.{common_steps}
use Rattle.std.proofs.Common.{ℕ, Bool, ◌-◌, length, nat_lt, sym, ap, ◌∙◌, subst, arith}
use Rattle.vpg_diagram.specs.Clauses.{feature_out, MeetsCount}
use Rattle.vpg_partial.specs.Propagation.{IsMissingAtCount}
use Rattle.vpg_partial.proofs.CountSteps.{missing_parent_at, missing_member}
use Rattle.vpg_products.specs.Stepping.{IsStep, if_out}
use Rattle.vpg_products.specs.declared.stepping.Step.{Step}
use Rattle.vpg_products.proofs.Rules.{count_out, count_adds, open_member}
use Rattle.vpg_products.proofs.stepping.step_at_count.Goals as goal

pub returns-then-ins-high : goal.returns-then-ins-high
returns-then-ins-high c =
    subst (λ (s : Step). IsStep (λ set. MeetsCount set c.args.count.now) c.args.known.now s)
    (sym (c.without_parent.ensures ∙ ap (λ (p : ℕ). if_out p c.is_known-is_in.result) c.parent-parent.ensures))
    (count_out c.args.count.now c.args.known.now c.is_known-is_in.result
    (missing_parent_at c.args.count.now c.args.known.now c.known_members-ins.result c.known_members-outs.result c.high-high.result (length c.members-members.result.now - c.low.result)
    c.requires (sym (rw c.parent-parent.ensures at c.is_known.ensures) ∙ c.if-is_known.false)
    (rw c.members-members.ensures at c.known_members-ins.ensures) (rw c.members-members.ensures at c.known_members-outs.ensures) c.high-high.ensures
    (cc (ap length c.members-members.ensures, c.low.ensures)) c.then-ins-high.either)
    (sym (rw c.parent-parent.ensures at c.is_known-is_in.ensures)))

pub returns-in-Some : goal.returns-in-Some
returns-in-Some c =
    let found = sym (rw c.members-members.ensures at c.first_open.ensures) ∙ c.in-Some.is in
    count_adds c.args.count.now c.args.known.now (record { feature = c.in-Some.feature; value = nat_lt c.known_members-ins.result c.high-high.result })
    (missing_member c.args.count.now c.args.known.now c.in-Some.feature c.known_members-ins.result c.known_members-outs.result c.high-high.result (length c.members-members.result.now - c.low.result)
    c.requires (sym (rw c.parent-parent.ensures at c.is_known-is_in.ensures) ∙ c.if-not-is_in.false)
    (rw c.members-members.ensures at c.known_members-ins.ensures) (rw c.members-members.ensures at c.known_members-outs.ensures) c.high-high.ensures
    (cc (ap length c.members-members.ensures, c.low.ensures)) c.if-outs-most_out-2.either found)
    (open_member c.args.count.now c.args.known.now c.in-Some.feature (nat_lt c.known_members-ins.result c.high-high.result) found)
