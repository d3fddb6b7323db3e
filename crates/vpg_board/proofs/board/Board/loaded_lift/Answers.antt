use Rattle.std.proofs.Common.{◌≡◌, ℕ, ◌+◌, ◌<◌, ◌≤◌, length, List, ◌++◌, ◌∷◌, [], refl, sym, ap, ◌∙◌, subst, arith, get_or, All}
use Rattle.vpg_game.specs.declared.levels.Level.{Level}
use Rattle.vpg_sides.specs.declared.player.Player.{Player}
use Rattle.vpg_game.specs.Levels.{top_of}
use Rattle.vpg_hope.specs.Arena.{Vertex, vertex_at}
use Rattle.vpg_measure.specs.Lifts.{best_for}
use Rattle.vpg_measure.specs.Orders.{OrderView, IsOrder, order_arena}
use Rattle.vpg_measure.proofs.OrderLemmas.{arena_count}
use Rattle.vpg_board.specs.declared.lifter.Lifter.{Lifter}
use Rattle.vpg_board.specs.Places.{vertices, places, place_of, lift_in}
use Rattle.vpg_board.proofs.Atomic.{loads}
use Rattle.vpg_board.proofs.Halves.{place_less}
use Rattle.vpg_board.proofs.Taking.{loads_next, loads_all}
use Rattle.vpg_board.proofs.Loads.{after_load, best_within, lift_from}
use Rattle.vpg_board.proofs.board.Board.loaded_lift.Goals as goal

pub load-value-requires : goal.load-value-requires
load-value-requires c =
    let order = c.self.inside.order in
    let i = c.loop-successor.invariant in
    let same : order ≡ c.args.self.now.order = ap (λ b. b.order) c.self.view_is in
    let at : ℕ = c.loop-successor.successor-index in
    let w : ℕ = get_or c.kept-kept.result.now at 0 in
    let count : length c.arena-arena.result.now ≡ vertices order = ap length c.arena-arena.ensures ∙ arena_count order.known c.args.which order.game in
    let less : w < vertices order = subst (λ n. w < n) count (c.kept-kept.ensures.closed at 0 c.loop-successor-test.true) in
    let word : c.word_of-word.result ≡ place_of order c.args.which w + 1 = c.word_of-word.ensures ∙ ap (λ x. place_of x c.args.which w + 1) (sym same) in
    let inside = place_less order c.args.which w less in
    let key = c.self.inside.table.shared.key in
    let size : places key ≡ places order = ap (λ x. places x) c.self.invariant.key in
    let stands : 0 < c.loop-successor.seat.me.0.stands = subst (λ (v : Lifter). 0 < v.stands) (sym i.sees.same) c.requires.stands in (
      i.table ∙ c.requires.board ∙ sym (ap (λ b. b.table) c.self.view_is),
      omega (arith, c.self.invariant.words),
      loads key (subst IsOrder (sym c.self.invariant.key) c.self.invariant.order) _ _ _ _ (omega arith) (omega arith) stands,
    )

pub loop-successor-preserved : goal.loop-successor-preserved
loop-successor-preserved c =
    let order = c.self.inside.order in
    let i = c.loop-successor.invariant in
    let same : order ≡ c.args.self.now.order = ap (λ b. b.order) c.self.view_is in
    let at : ℕ = c.loop-successor.successor-index in
    let w : ℕ = get_or c.kept-kept.result.now at 0 in
    let count : length c.arena-arena.result.now ≡ vertices order = ap length c.arena-arena.ensures ∙ arena_count order.known c.args.which order.game in
    let x : Vertex = vertex_at (order_arena c.args.which order) c.args.v in
    let kept : c.kept-kept.result.now ≡ x.successors = c.kept-kept.ensures.kept ∙ ap (λ a. (vertex_at a c.args.v).successors) c.arena-arena.ensures in
    let owner : c.owner-owner.result ≡ x.owner = c.owner-owner.ensures ∙ ap (λ a. (vertex_at a c.args.v).owner) c.arena-arena.ensures in
    let closed : All (λ s. s < vertices order) x.successors = subst (λ l. All (λ s. s < vertices order) l) kept (subst (λ n. All (λ s. s < n) c.kept-kept.result.now) count c.kept-kept.ensures.closed) in
    let inside : at < length x.successors = subst (λ (l : List ℕ). at < length l) kept c.loop-successor-test.true in
    let word : c.word_of-word.result ≡ place_of order c.args.which (get_or x.successors at 0) + 1 =
    c.word_of-word.ensures ∙ ap (λ y. place_of y c.args.which w + 1) (sym same) ∙ ap (λ l. place_of order c.args.which (get_or l at 0) + 1) kept in
    let load = c.load-value.ensures in
    let after = after_load order c.self.invariant.order c.args.which c.args.v c.args.seat.now.me.0 c.loop-successor.seat.me.0 c.load-value.new.seat.me.0 c.word_of-word.result c.load-value.result at closed inside word
    (c.requires.order ∙ sym same) i.sees i.safe (ap (λ m. m.0) load.2.0) load.2.1 in
    record {
      table = load.0 ∙ i.table;
      slots = ap (λ m. m.1) load.2.0 ∙ i.slots;
      sees = after.0;
      safe = load.2.2;
      run = load.2.4;
      steps = loads_next order c.args.which x.successors at c.word_of-word.result c.args.seat.now.me.0 c.loop-successor.seat.me.0 c.load-value.new.seat.me.0 inside word i.steps load.2.3;
      best = after.1 c.loop-successor.best c.better-best.result i.best
          (subst (λ o. (limit : ℕ) (values : List ℕ) → c.loop-successor.best ≡ best_for o limit values → c.better-best.result ≡ best_for o limit (values ++ c.load-value.result ∷ [])) owner c.better-best.ensures);
    }

pub lift_to-requires-clause-best : goal.lift_to-requires-clause-best
lift_to-requires-clause-best c =
    let order = c.self.inside.order in
    let i = c.loop-successor.invariant in
    let same : order ≡ c.args.self.now.order = ap (λ b. b.order) c.self.view_is in
    subst (λ (ls : List Level). c.loop-successor.best ≤ top_of ls) (sym c.shape-shape.ensures)
    (best_within order c.self.invariant.order c.args.which c.args.v c.args.seat.now.me.0 c.loop-successor.seat.me.0 c.loop-successor.best c.loop-successor.successor-index (c.requires.order ∙ sym same) i.sees i.safe i.best)

pub returns-clause-lift : goal.returns-clause-lift
returns-clause-lift c =
    let order = c.self.inside.order in
    let i = c.loop-successor.invariant in
    let same : order ≡ c.args.self.now.order = ap (λ b. b.order) c.self.view_is in
    let lifts = lift_from order c.self.invariant.order c.args.which c.args.v c.shape-shape.result.now c.arena-arena.result.now c.kept-kept.result.now c.shape-shape.ensures c.arena-arena.ensures c.kept-kept.ensures.kept c.args.seat.now.me.0 c.loop-successor.seat.me.0
    c.loop-successor.best c.lift_to.result c.loop-successor.successor-index (c.requires.order ∙ sym same) i.sees i.safe c.loop-successor-test.false i.best c.lift_to.ensures.lift in
    subst (λ x. c.lift_to.result ≡ lift_in x c.args.which c.loop-successor.seat.me.0.seen c.args.v) same lifts

pub returns-clause-steps : goal.returns-clause-steps
returns-clause-steps c =
    let order = c.self.inside.order in
    let same : order ≡ c.args.self.now.order = ap (λ b. b.order) c.self.view_is in
    let kept : c.kept-kept.result.now ≡ (vertex_at (order_arena c.args.which order) c.args.v).successors = c.kept-kept.ensures.kept ∙ ap (λ a. (vertex_at a c.args.v).successors) c.arena-arena.ensures in
    let all : length (vertex_at (order_arena c.args.which order) c.args.v).successors ≤ c.loop-successor.successor-index = subst (λ (l : List ℕ). length l ≤ c.loop-successor.successor-index) kept (omega (arith, c.loop-successor-test.false)) in
    loads_all order c.args.self.now.order c.args.which c.args.v c.loop-successor.successor-index c.args.seat.now.me.0 c.loop-successor.seat.me.0 same all c.loop-successor.invariant.steps

pub loop-successor-init : goal.loop-successor-init
loop-successor-init c =
    let order = c.self.inside.order in
    let x : Vertex = vertex_at (order_arena c.args.which order) c.args.v in
    let owner : c.owner-owner.result ≡ x.owner = c.owner-owner.ensures ∙ ap (λ a. (vertex_at a c.args.v).owner) c.arena-arena.ensures in
    record {
      table = refl;
      slots = refl;
      sees = record { same = refl; wide = refl; more = λ k. omega arith };
      safe = c.requires.safe;
      run = c.requires.run;
      steps = refl;
      best = c.best_of_none-best.ensures ∙ ap (λ (o : Player). best_for o (top_of c.shape-shape.result.now) []) owner ∙ ap (λ (ls : List Level). best_for x.owner (top_of ls) []) c.shape-shape.ensures;
    }

pub word_of-word-requires : goal.word_of-word-requires
word_of-word-requires c =
    let order = c.self.inside.order in
    let same : order ≡ c.args.self.now.order = ap (λ b. b.order) c.self.view_is in
    let at : ℕ = c.loop-successor.successor-index in
    let w : ℕ = get_or c.kept-kept.result.now at 0 in
    let count : length c.arena-arena.result.now ≡ vertices order = ap length c.arena-arena.ensures ∙ arena_count order.known c.args.which order.game in
    let less : w < vertices order = subst (λ n. w < n) count (c.kept-kept.ensures.closed at 0 c.loop-successor-test.true) in
    subst (λ (o : OrderView). w < vertices o) same less

pub lift_to-requires-clause-vertex : goal.lift_to-requires-clause-vertex
lift_to-requires-clause-vertex c =
    let order = c.self.inside.order in
    let same : order ≡ c.args.self.now.order = ap (λ b. b.order) c.self.view_is in
    let count : length c.arena-arena.result.now ≡ vertices order = ap length c.arena-arena.ensures ∙ arena_count order.known c.args.which order.game in
    omega (arith, count, ap (λ (o : OrderView). vertices o) same, c.requires.vertex)

pub returns-clause-table : goal.returns-clause-table
returns-clause-table c = c.loop-successor.invariant.table

pub returns-clause-slots : goal.returns-clause-slots
returns-clause-slots c = c.loop-successor.invariant.slots

pub returns-clause-seen : goal.returns-clause-seen
returns-clause-seen c = c.loop-successor.invariant.sees

pub returns-clause-safe : goal.returns-clause-safe
returns-clause-safe c = c.loop-successor.invariant.safe

pub returns-clause-run : goal.returns-clause-run
returns-clause-run c = c.loop-successor.invariant.run

pub kept-kept-requires : goal.kept-kept-requires
kept-kept-requires c =
    let order = c.self.inside.order in
    let same : order ≡ c.args.self.now.order = ap (λ b. b.order) c.self.view_is in
    let count : length c.arena-arena.result.now ≡ vertices c.args.self.now.order =
    ap length c.arena-arena.ensures ∙ arena_count order.known c.args.which order.game ∙ ap (λ (o : OrderView). vertices o) same in
    subst (λ (n : ℕ). c.args.v < n) (sym count) c.requires.vertex

pub owner-owner-requires : goal.owner-owner-requires
owner-owner-requires c =
    let order = c.self.inside.order in
    let same : order ≡ c.args.self.now.order = ap (λ b. b.order) c.self.view_is in
    let count : length c.arena-arena.result.now ≡ vertices c.args.self.now.order =
    ap length c.arena-arena.ensures ∙ arena_count order.known c.args.which order.game ∙ ap (λ (o : OrderView). vertices o) same in
    subst (λ (n : ℕ). c.args.v < n) (sym count) c.requires.vertex
