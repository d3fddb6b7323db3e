use Rattle.std.proofs.Common.{◌++◌, ◌∷◌, [], sym, ap, ◌∙◌, min, max}
use Rattle.vpg_measure.specs.Lifts.{best_for}
use Rattle.vpg_measure.proofs.BestValues.{least_more, greatest_more}
use Rattle.vpg_measure.proofs.folding.better.Goals as goal

pub returns-in-Even : goal.returns-in-Even
returns-in-Even c top values is =
    let mine = ap (λ o. best_for o top values) c.in-Even.is in
    c.min.ensures
    ∙ ap (λ n. min n c.args.value) (is ∙ mine)
    ∙ sym (least_more top c.args.value values)
    ∙ sym (ap (λ o. best_for o top (values ++ c.args.value ∷ [])) c.in-Even.is)

pub returns-in-Odd : goal.returns-in-Odd
returns-in-Odd c top values is =
    let mine = ap (λ o. best_for o top values) c.in-Odd.is in
    c.max.ensures
    ∙ ap (λ n. max n c.args.value) (is ∙ mine)
    ∙ sym (greatest_more c.args.value values)
    ∙ sym (ap (λ o. best_for o top (values ++ c.args.value ∷ [])) c.in-Odd.is)
