use Rattle.std.proofs.Common.{Bool, [], ◌∷◌, ◌++◌, ap, ◌∙◌}
use Rattle.vpg_why.proofs.Reasons.{both_true, half_first, reason_without, reason_with}
use Rattle.vpg_why.proofs.searching.first_half.Goals as goal

pub returns-in-Product-clause-found : goal.returns-in-Product-clause-found
returns-in-Product-clause-found c game diagram aim chosen f agree was = half_first game diagram aim chosen f c.args.value c.in-Product.found agree (rw c.in-Product.is at was)

pub returns-in-Product-clause-exact : goal.returns-in-Product-clause-exact
returns-in-Product-clause-exact c avoided tried was none = both_true c.in-Product.found.first c.args.value ((rw c.in-Product.is at was) none) (tried none)

pub returns-then-front-clause-found : goal.returns-then-front-clause-found
returns-then-front-clause-found c game diagram aim chosen f agree was =
    let front = c.without_last-front.result.marks.items in
    reason_with game diagram aim chosen f c.args.value front c.in-Nothing.marks.items
    (c.without_last-front.ensures ∙ ap (λ (b : Bool). front ++ b ∷ []) c.if-front.true) (rw c.in-Nothing.is at was)

pub returns-else-front-clause-found : goal.returns-else-front-clause-found
returns-else-front-clause-found c game diagram aim chosen f agree was =
    let front = c.without_last-front.result.marks.items in
    reason_without game diagram aim chosen f c.args.value front c.in-Nothing.marks.items
    (c.without_last-front.ensures ∙ ap (λ (b : Bool). front ++ b ∷ []) c.if-front.false) (rw c.in-Nothing.is at was)
