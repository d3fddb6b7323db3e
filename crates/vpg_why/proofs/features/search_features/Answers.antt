use Rattle.std.proofs.Common.{◌≤◌, List, count_by, refl, sym, subst, arith}
use Rattle.vpg_guards.specs.declared.tri.Tri.{Tri}
use Rattle.vpg_products.specs.Growing.{AreShown}
use Rattle.vpg_why.specs.Explained.{choices}
use Rattle.vpg_why.specs.Suffices.{is_open}
use Rattle.vpg_why.proofs.ByFeatures.{conflict_loses, fewer_most, most_grow, shown_of_table}
use Rattle.vpg_why.proofs.features.search_features.Goals as goal

pub reason-requires-clause-lost : goal.reason-requires-clause-lost
reason-requires-clause-lost c =
    conflict_loses c.args.order.now.game c.args.order.now.diagram (choices c.args.decisions.now) c.game-order.ensures.order.diagram.diagram ((rw c.in_default.is at c.in_ok-known.ensures.conflict) refl)

pub search_known-requires-clause-shown : goal.search_known-requires-clause-shown
search_known-requires-clause-shown c =
    subst (λ (ts : List Tri). AreShown c.args.order.now.diagram.lines (choices c.args.decisions.now) ts) (sym c.values.ensures)
    (shown_of_table c.args.order.now.diagram.lines (choices c.args.decisions.now) c.in-Some.known c.game-order.ensures.order.diagram.diagram (rw c.in-Some.is at c.in_ok-known.ensures.known))

pub returns-clause-fewer : goal.returns-clause-fewer
returns-clause-fewer c most up =
    fewer_most c.args.trials.now c.search_known.new.trials (count_by is_open c.in-Some.known) most (up c.in-Some.known (rw c.in-Some.is at c.in_ok-known.ensures.known)) (rw c.values.ensures at c.in_ok-found.ensures.fewer)

pub returns-clause-settled : goal.returns-clause-settled
returns-clause-settled c room =
    let few : count_by is_open c.in-Some.known ≤ room.most = room.are_open c.in-Some.known (rw c.in-Some.is at c.in_ok-known.ensures.known) in
    (rw c.values.ensures at c.in_ok-found.ensures.settled) (let d = room.deep in omega (arith, d, few)) (most_grow (count_by is_open c.in-Some.known) room.most c.args.trials.now few room.enough)
