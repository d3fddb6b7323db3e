use Rattle.std.proofs.Common.{false, arith}
use Rattle.std.proofs.lemmas.List.{get_or_default}
use Rattle.vpg_diagram.specs.declared.clause.Literal.{Literal}
use Rattle.vpg_winners.proofs.Differing.{differ, not_the_end, rest_differs, same_rest}
use Rattle.vpg_winners.proofs.joining.differ_at.Goals as goal

abbrev no_literal : Literal
no_literal = record { feature = 0; value = false }

pub returns-then-place-one-clause-none : goal.returns-then-place-one-clause-none
returns-then-place-one-clause-none c = λ e p d.
    let front = c.same_front-place.ensures in
    not_the_end c.args.one.now c.args.other.now p d c.same_front-place.result front.same front.within front.stops
    (omega (arith, c.if-place-one.true))

pub returns-then-rest-one-clause-none : goal.returns-then-rest-one-clause-none
returns-then-rest-one-clause-none c = λ e p d.
    let front = c.same_front-place.ensures in
    rest_differs c.args.one.now c.args.other.now p d c.same_front-place.result front.same front.within front.stops
    c.same_front-rest.result c.same_front-rest.ensures.stops c.if-rest-one.true

pub returns-clause-some : goal.returns-clause-some
returns-clause-some c =
    let front = c.same_front-place.ensures in
    let n = c.same_front-place.result in
    differ c.args.one.now c.args.other.now n _ _ (omega (arith, front.within, c.if-place-one.false))
    (omega (arith, front.within, c.if-place-one.false, c.if-one-other.false)) front.same
    (get_or_default c.args.one.now n no_literal _ (omega (arith, front.within, c.if-place-one.false)))
    (get_or_default c.args.other.now n no_literal _ (omega (arith, front.within, c.if-place-one.false, c.if-one-other.false)))
    c.if-one-place.false
    (front.stops no_literal (omega (arith, front.within, c.if-place-one.false))
    (omega (arith, front.within, c.if-place-one.false, c.if-one-other.false)))
    (same_rest c.args.one.now c.args.other.now n c.same_front-rest.result c.if-one-other.false c.if-rest-one.false
    c.same_front-rest.ensures.same)
