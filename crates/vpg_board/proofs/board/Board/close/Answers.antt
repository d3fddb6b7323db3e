use Rattle.std.proofs.Common.{◌≡◌, length, sym, ap, ◌∙◌, subst}
use Rattle.std.specs.Mem.Slots.{slots_items}
use Rattle.vpg_sides.specs.declared.which.Which.{Which}
use Rattle.vpg_sides.specs.declared.which.Which.TheVariants.{Hopeful, Dual}
use Rattle.vpg_measure.specs.Lifts.{IsBelowTable}
use Rattle.vpg_measure.specs.Orders.{OrderView, IsSameOrder, harvest_table}
use Rattle.vpg_board.specs.declared.lifter.Lifter.{Lifter}
use Rattle.vpg_board.specs.Places.{table_in, places}
use Rattle.vpg_board.specs.Joins.{IsEndOf}
use Rattle.vpg_board.proofs.Ending.{may_be_harvested, was_seen, end_of}
use Rattle.vpg_board.proofs.board.Board.close.Goals as goal

pub of-requires-clause-hopeful : goal.of-requires-clause-hopeful
of-requires-clause-hopeful c =
    let inner = c.seat.inside.inner in
    let self = c.self.inside in
    may_be_harvested self.order self.table.shared.key c.self.invariant.order c.self.invariant.key inner.id inner.me.0 (slots_items c.close_with-closed.result.words) (slots_items c.close_with-closed.result.slots)
    c.seat.invariant.1.stands c.close_with-closed.ensures.values.2 Hopeful self.vertices c.in-Ok.hopeful.items c.self.invariant.vertices c.in-Ok.ensures.hopeful

pub of-requires-clause-dual : goal.of-requires-clause-dual
of-requires-clause-dual c =
    let inner = c.seat.inside.inner in
    let self = c.self.inside in
    may_be_harvested self.order self.table.shared.key c.self.invariant.order c.self.invariant.key inner.id inner.me.0 (slots_items c.close_with-closed.result.words) (slots_items c.close_with-closed.result.slots)
    c.seat.invariant.1.stands c.close_with-closed.ensures.values.2 Dual self.vertices c.in-Ok.dual.items c.self.invariant.vertices c.in-Ok.ensures.dual

pub returns-clause-seen : goal.returns-clause-seen
returns-clause-seen c which =
    let inner = c.seat.inside.inner in
    let self = c.self.inside in
    let wide : length inner.me.0.seen ≡ places self.order = c.seat.invariant.1.safe.wide ∙ ap (λ b. places b.order) (ap (λ s. s.board) c.seat.view_is ∙ c.requires ∙ sym c.self.view_is) in
    let seen = was_seen self.order self.table.shared.key c.self.invariant.order c.self.invariant.key inner.id inner.me.0 (slots_items c.close_with-closed.result.words) (slots_items c.close_with-closed.result.slots)
    c.seat.invariant.1.stands c.close_with-closed.ensures.values.2 in
    let at : (w : Which) → IsBelowTable (table_in self.order w inner.me.0.seen) (harvest_table w c.of.result) = λ w. elim w as (λ x. IsBelowTable (table_in self.order x inner.me.0.seen) (harvest_table x c.of.result)) [
      | Hopeful ↦ seen Hopeful self.vertices c.of.result.hopeful c.self.invariant.vertices (c.of.ensures.hopeful ∙ c.in-Ok.ensures.hopeful) wide
      | Dual ↦ seen Dual self.vertices c.of.result.dual c.self.invariant.vertices (c.of.ensures.dual ∙ c.in-Ok.ensures.dual) wide
    ] in
    subst (λ (x : OrderView). IsBelowTable (table_in x which c.args.seat.lifter.seen) (harvest_table which c.of.result)) (ap (λ b. b.order) c.self.view_is)
    (subst (λ (x : Lifter). IsBelowTable (table_in self.order which x.seen) (harvest_table which c.of.result)) (ap (λ s. s.lifter) c.seat.view_is) (at which))

pub returns-in_default-clause-back : goal.returns-in_default-clause-back
returns-in_default-clause-back c = ap (λ b. b.order) c.self.view_is

pub returns-clause-order : goal.returns-clause-order
returns-clause-order c = subst (IsSameOrder c.of.result.order) (ap (λ b. b.order) c.self.view_is) c.of.ensures.order

pub returns-clause-words : goal.returns-clause-words
returns-clause-words c =
    let inner = c.seat.inside.inner in
    let self = c.self.inside in
    let ended : IsEndOf self.order inner.me.0 c.of.result =
    end_of self.order self.table.shared.key c.self.invariant.order c.self.invariant.key inner.id inner.me.0 (slots_items c.close_with-closed.result.words) (slots_items c.close_with-closed.result.slots)
    c.seat.invariant.1.stands c.close_with-closed.ensures.values.2 self.vertices c.of.result c.self.invariant.vertices (c.of.ensures.hopeful ∙ c.in-Ok.ensures.hopeful) (c.of.ensures.dual ∙ c.in-Ok.ensures.dual) in
    subst (λ (x : OrderView). IsEndOf x c.args.seat.lifter c.of.result) (ap (λ b. b.order) c.self.view_is)
    (subst (λ (x : Lifter). IsEndOf self.order x c.of.result) (ap (λ s. s.lifter) c.seat.view_is) ended)
