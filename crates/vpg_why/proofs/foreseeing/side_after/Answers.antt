use Rattle.std.proofs.Common.{◌++◌, ◌∷◌, [], sym, refl, ◌∙◌}
use Rattle.vpg_why.specs.Explained.{choices}
use Rattle.vpg_why.specs.declared.question.Aim.TheVariants as aims
use Rattle.vpg_why.proofs.Beside.{named_one}
use Rattle.vpg_why.proofs.Ahead.{found_with, side_found, side_met}
use Rattle.vpg_why.proofs.foreseeing.side_after.Goals as goal

pub returns-then-one_has-clause-side : goal.returns-then-one_has-clause-side
returns-then-one_has-clause-side c =
    let order = c.args.order.now in
    let is = c.game-order.ensures.order in
    let own = choices order.decisions in
    side_met order.game order.diagram c.args.limits c.args.vertex c.args.which (own ++ c.args.choice ∷ []) is.game is.diagram
    (named_one order.diagram.lines own c.args.choice is.named c.requires.feature) c.requires.vertex
    (found_with order.game order.diagram (aims.Won c.args.which c.args.vertex) own c.args.choice c.args.findings.now.met.items c.requires.findings.met
    (sym (rw c.deref.ensures.value at c.one_has.ensures) ∙ c.if-one_has.true)) _ refl refl

pub returns-clause-side : goal.returns-clause-side
returns-clause-side c =
    let order = c.args.order.now in
    let own = choices order.decisions in
    let aim = aims.Won c.args.which c.args.vertex in
    side_found order.game order.diagram c.args.limits c.args.vertex c.args.which (own ++ c.args.choice ∷ []) c.in_ok-found.found _ c.in_ok-verdict.ensures.shown c.in_ok-found.ensures.found
    c.in_ok-found.ensures.settled (λ e. c.in_ok-met.ensures.yes e order.game order.diagram aim own c.in_ok-found.ensures.found) c.in_ok-met.ensures.no c.in_ok-met.ensures.settled

pub returns-clause-findings : goal.returns-clause-findings
returns-clause-findings c =
    let order = c.args.order.now in
    c.in_ok-met.ensures.findings order.game order.diagram (aims.Won c.args.which c.args.vertex) (choices order.decisions) c.requires.feature c.in_ok-found.ensures.found c.requires.findings
