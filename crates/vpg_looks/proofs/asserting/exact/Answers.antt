use Rattle.vpg_script.proofs.Given.{if_ok}
use Rattle.vpg_looks.specs.Asserted.{answer_by}
use Rattle.vpg_looks.proofs.Asserted.{exact_told}
use Rattle.vpg_looks.proofs.asserting.exact.Goals as goal

pub returns : goal.returns
returns c = λ names.
    let found = c.in_ok-found.found in
    let so = exact_told names c.args.order.now c.args.limits c.args.vertex c.args.asserted found c.in_ok-found.ensures.decided (λ r. c.in_ok-found.ensures.settled r.0 r.1) in
    if_ok c.answered.result _ _ (λ tone given. (answer_by c.args.asserted found, (so, given))) c.answered.ensures
