use Rattle.std.proofs.Common.{◌≡◌, ◌<◌, ◌++◌, ◌∷◌, [], All, Bool, IfSome, IfNone, sym, ap, ap₂, ◌∙◌, subst, arith}
use Rattle.atomic_table.specs.Seated.{TableId}
use Rattle.vpg_measure.specs.Orders.{OrderView, IsOrder}
use Rattle.vpg_board.specs.declared.lifter.Lifter.{Lifter}
use Rattle.vpg_board.specs.Places.{place_of}
use Rattle.vpg_board.specs.Run.{claim}
use Rattle.vpg_board.specs.Taken.{Takes}
use Rattle.vpg_board.specs.Seats.{BoardView, IsSeat}
use Rattle.vpg_board.proofs.Atomic.{claiming}
use Rattle.vpg_board.proofs.Taking.{claim_vertex, claim_place, claim_later, claim_none, seat_claims}
use Rattle.vpg_board.proofs.board.Board.claim.Goals as goal
use Rattle.vpg_board.proofs.board.Board.claim.Goals.{After-vertex_at-claimed}

pub fetch_add-place-requires : goal.fetch_add-place-requires
fetch_add-place-requires c =
    let i = c.seat.invariant.1 in
    let same = ap (λ v. v.board) c.seat.view_is ∙ c.requires ∙ sym c.self.view_is in
    let is_order = subst IsOrder (sym c.self.invariant.key) c.self.invariant.order in (
      ap (λ b. b.table) same,
      omega (arith, c.self.invariant.words),
      claiming c.self.inside.table.shared.key is_order _ _ _ i.stands (i.open_claims c.if-seat.false),
    )

-- the lifter's order is the board's
same_order : (c : After-vertex_at-claimed) → c.seat.inside.inner.me.0.order ≡ c.args.self.now.order
same_order c = ap (λ b. b.order) (ap (λ v. v.board) c.seat.view_is ∙ c.requires)

pub invariant_of-seat : goal.invariant_of-seat
invariant_of-seat c =
    let s = c.seat.inside in
    let e = c.fetch_add-place.ensures in (
      ap (λ m. m.1) e.2.0 ∙ c.seat.invariant.0,
      seat_claims c.args.self.now.order s.inner.me.0 c.fetch_add-place.new.seat.me.0 c.fetch_add-place.result c.vertex_at-claimed.result c.vertex_at-claimed.ensures
          (same_order (goal.at.invariant_of-seat c).After-vertex_at-claimed) (ap (λ m. m.0) e.2.0)
          s.inner.table_id c.fetch_add-place.new.seat.table_id s.opening s.splits c.is_none-seat-inside.result
          (subst (λ (b : Bool). IsSeat s.inner.table_id s.inner.me.0 s.opening s.splits b) c.if-seat.false c.seat.invariant.1) e.0 e.2.2 e.2.4 c.is_none-seat-inside.ensures,
    )

abbrev board : TableId → OrderView → BoardView
board table order = record { table = table; order = order }

pub returns-clause-board : goal.returns-clause-board
returns-clause-board c =
    let e = c.fetch_add-place.ensures in
    ap₂ board e.0 (ap (λ m. m.0.order) e.2.0) ∙ ap (λ s. s.board) c.seat.view_is

pub returns-clause-claimed : goal.returns-clause-claimed
returns-clause-claimed c =
    subst (λ (v : Lifter). IfSome c.vertex_at-claimed.result (λ r. c.fetch_add-place.new.seat.me.0 ≡ record v { claims = v.claims ++ place_of c.args.self.now.order r.0 r.1 ∷ [] })) (ap (λ s. s.lifter) c.seat.view_is)
    (claim_place c.args.self.now.order c.seat.inside.inner.me.0 c.fetch_add-place.new.seat.me.0 c.fetch_add-place.result c.vertex_at-claimed.result c.vertex_at-claimed.ensures
    (same_order (goal.at.returns-clause-claimed c).After-vertex_at-claimed) (ap (λ m. m.0) c.fetch_add-place.ensures.2.0))

pub returns-clause-vertex : goal.returns-clause-vertex
returns-clause-vertex c =
    claim_vertex c.args.self.now.order c.seat.inside.inner.me.0 c.fetch_add-place.new.seat.me.0 c.fetch_add-place.result c.vertex_at-claimed.result c.vertex_at-claimed.ensures
    (same_order (goal.at.returns-clause-vertex c).After-vertex_at-claimed) (ap (λ m. m.0) c.fetch_add-place.ensures.2.0)

pub returns-clause-later : goal.returns-clause-later
returns-clause-later c =
    subst (λ (v : Lifter). IfSome c.vertex_at-claimed.result (λ r. All (λ earlier. earlier < place_of c.args.self.now.order r.0 r.1) v.claims)) (ap (λ s. s.lifter) c.seat.view_is)
    (claim_later c.args.self.now.order c.seat.inside.inner.me.0 c.fetch_add-place.new.seat.me.0 c.fetch_add-place.result c.vertex_at-claimed.result c.vertex_at-claimed.ensures
    (same_order (goal.at.returns-clause-later c).After-vertex_at-claimed) (ap (λ m. m.0) c.fetch_add-place.ensures.2.0) c.fetch_add-place.ensures.2.1)

pub returns-clause-none : goal.returns-clause-none
returns-clause-none c =
    let w : Lifter = c.fetch_add-place.new.seat.me.0 in
    subst (λ (v : Lifter). IfNone c.vertex_at-claimed.result ((w ≡ record v { empty = w.empty }) × (0 < w.empty))) (ap (λ s. s.lifter) c.seat.view_is)
    (claim_none c.args.self.now.order c.seat.inside.inner.me.0 w c.fetch_add-place.result c.vertex_at-claimed.result c.vertex_at-claimed.ensures
    (same_order (goal.at.returns-clause-none c).After-vertex_at-claimed) (ap (λ m. m.0) c.fetch_add-place.ensures.2.0))

pub returns-clause-once : goal.returns-clause-once
returns-clause-once c = c.fetch_add-place.ensures.2.2.once

pub returns-clause-all : goal.returns-clause-all
returns-clause-all c = c.fetch_add-place.ensures.2.2.all

pub returns-clause-step : goal.returns-clause-step
returns-clause-step c = λ _. subst (λ (v : Lifter). Takes claim v c.fetch_add-place.new.seat.me.0) (ap (λ s. s.lifter) c.seat.view_is) c.fetch_add-place.ensures.2.3

pub returns-clause-still_none : goal.returns-clause-still_none
returns-clause-still_none c =
    let none = c.seat.invariant.1.open_claims c.if-seat.false in
    λ some. absurd (omega (arith, ap (λ s. s.lifter.empty) c.seat.view_is))
