use Rattle.std.proofs.Common.{Bool, not, List, [], ◌∷◌, ◌++◌, sym, ap, subst, ◌∙◌}
use Rattle.vpg_why.specs.Reasons.{IsReason}
use Rattle.vpg_why.specs.Suffices.{choice}
use Rattle.vpg_why.proofs.Reasons.{both_true, reason_is_lost, reason_without, reason_with, reason_of_both, second_half, second_later}
use Rattle.vpg_why.proofs.searching.both.Goals as goal

pub returns-in-Some-clause-found : goal.returns-in-Some-clause-found
returns-in-Some-clause-found c game diagram aim chosen f with_it was =
    second_half game diagram aim chosen f c.args.value c.in-Product.found
    (reason_is_lost game diagram aim chosen (choice f c.args.value ∷ []) c.in-Some.field-0.items (rw c.in-Some.is at with_it)) (rw c.in-Product.is at was)

pub returns-in-Some-clause-exact : goal.returns-in-Some-clause-exact
returns-in-Some-clause-exact c avoided tried some was none = both_true c.in-Product.found.first c.args.value ((rw c.in-Product.is at was) none) (tried none)

pub returns-in-Product-clause-found : goal.returns-in-Product-clause-found
returns-in-Product-clause-found c game diagram aim chosen f with_it was =
    second_later game diagram aim chosen f c.args.value c.in-Product.found (rw c.in-Product.is at was)

pub returns-then-not-front-clause-found : goal.returns-then-not-front-clause-found
returns-then-not-front-clause-found c game diagram aim chosen f with_it was =
    let front = c.without_last-front.result.marks.items in
    reason_without game diagram aim chosen f (not c.args.value) front c.in-Nothing.marks.items
    (c.without_last-front.ensures ∙ ap (λ (b : Bool). front ++ b ∷ []) c.if-not-front.true) (rw c.in-Nothing.is at was)

pub returns-in-Some-one-clause-found : goal.returns-in-Some-one-clause-found
returns-in-Some-one-clause-found c game diagram aim chosen f with_it was =
    let front = c.without_last-front.result.marks.items in
    subst (λ (ms : List Bool). IsReason game diagram aim chosen [] ms)
    (sym (rw (c.deref.ensures.value, c.deref-in-Some-one.ensures.value) at c.in_ok-marks-in-Some-one.ensures))
    (reason_of_both game diagram aim chosen f c.args.value c.in-Some-one.first.items front (rw c.in-Some-one.is at with_it)
    (reason_with game diagram aim chosen f (not c.args.value) front c.in-Nothing.marks.items
    (c.without_last-front.ensures ∙ ap (λ (b : Bool). front ++ b ∷ []) c.if-not-front.false) (rw c.in-Nothing.is at was)))
