use Rattle.std.proofs.Common.{ℕ, ◌<◌, sym, subst, ◌∙◌}
use Rattle.vpg_winners.proofs.Learned.{all_gathered, had_gathered}
use Rattle.vpg_winners.proofs.gathering.gather.Goals as goal

pub returns-then-one_has-clause-gathered : goal.returns-then-one_has-clause-gathered
returns-then-one_has-clause-gathered c game diagram aim own met are =
    had_gathered game diagram aim own c.args.literal c.args.findings.now
    (rw c.deref.ensures.value at (sym c.one_has.ensures ∙ c.if-one_has.true)) are

pub returns-clause-findings : goal.returns-clause-findings
returns-clause-findings c game diagram aim own met are =
    (all_gathered game diagram aim own c.args.sets.now c.under.new.self c.args.set c.in_ok-under.under c.args.literal met
    c.in_ok-under.ensures.grown c.in_ok-under.ensures.set c.args.findings.now c.learn.new.findings c.in_ok-found.found
    c.in_ok-found.ensures.some c.in_ok-found.ensures.none c.in_ok-learn.ensures.met c.in_ok-learn.ensures.not_forced
    c.in_ok-learn.ensures.not_met c.in_ok-learn.ensures.forced
    (subst (λ (n : ℕ). c.args.literal.feature < n) (sym met.features) c.requires.below) are).0

pub returns-clause-gathered : goal.returns-clause-gathered
returns-clause-gathered c game diagram aim own met are =
    (all_gathered game diagram aim own c.args.sets.now c.under.new.self c.args.set c.in_ok-under.under c.args.literal met
    c.in_ok-under.ensures.grown c.in_ok-under.ensures.set c.args.findings.now c.learn.new.findings c.in_ok-found.found
    c.in_ok-found.ensures.some c.in_ok-found.ensures.none c.in_ok-learn.ensures.met c.in_ok-learn.ensures.not_forced
    c.in_ok-learn.ensures.not_met c.in_ok-learn.ensures.forced
    (subst (λ (n : ℕ). c.args.literal.feature < n) (sym met.features) c.requires.below) are).1
