use Rattle.std.proofs.Common.{◌≡◌, ℕ, ◌+◌, ◌-◌, ◌<◌, ◌≤◌, true, false, true≢false, List, sym, ap, ◌∙◌, subst, arith}
use Rattle.std.proofs.lemmas.Bool.{ltb-true}
use Rattle.std.specs.Prelude.{slice_index}
use Rattle.vpg_measure.specs.Orders.{IsOrder}
use Rattle.vpg_board.specs.declared.lifter.Lifter.{Lifter}
use Rattle.vpg_board.specs.Places.{vertices, places, place_of, table_in, lift_in, lift_at}
use Rattle.vpg_board.specs.Run.{raise}
use Rattle.vpg_board.specs.Taken.{Takes, TakesAll, raise_of, lift_steps}
use Rattle.vpg_board.specs.Seats.{SeesMore}
use Rattle.vpg_board.proofs.Atomic.{loads, raises}
use Rattle.vpg_board.proofs.Halves.{place_less, lift_place}
use Rattle.vpg_board.proofs.Loads.{sees_looked, after_look, after_raise}
use Rattle.vpg_board.proofs.Taking.{load_there, takes_next}
use Rattle.vpg_board.proofs.board.Board.raise.Goals as goal
use Rattle.vpg_board.proofs.board.Board.raise.Goals.{After-loaded_lift-lifted, After-fetch_max-found}

pub load-before-requires : goal.load-before-requires
load-before-requires c =
    let order = c.self.inside.order in
    let same : order ≡ c.args.self.now.order = ap (λ b. b.order) c.self.view_is in
    let less : c.args.v < vertices order = subst (λ x. c.args.v < vertices x) (sym same) c.requires.vertex in
    let word : c.word_of-word.result ≡ place_of order c.args.which c.args.v + 1 = c.word_of-word.ensures ∙ ap (λ x. place_of x c.args.which c.args.v + 1) (sym same) in
    let inside = place_less order c.args.which c.args.v less in
    let key = c.self.inside.table.shared.key in
    let size : places key ≡ places order = ap (λ x. places x) c.self.invariant.key in (
      c.requires.board ∙ sym (ap (λ b. b.table) c.self.view_is),
      omega (arith, c.self.invariant.words),
      loads key (subst IsOrder (sym c.self.invariant.key) c.self.invariant.order) _ _ _ _ (omega arith) (omega arith) c.requires.stands,
    )

pub loaded_lift-lifted-requires-clause-board : goal.loaded_lift-lifted-requires-clause-board
loaded_lift-lifted-requires-clause-board c = c.load-before.ensures.0 ∙ c.requires.board

pub loaded_lift-lifted-requires-clause-order : goal.loaded_lift-lifted-requires-clause-order
loaded_lift-lifted-requires-clause-order c = ap (λ m. m.0.order) c.load-before.ensures.2.0 ∙ c.requires.order

pub loaded_lift-lifted-requires-clause-stands : goal.loaded_lift-lifted-requires-clause-stands
loaded_lift-lifted-requires-clause-stands c = subst (λ (v : Lifter). 0 < v.stands) (sym (ap (λ m. m.0) c.load-before.ensures.2.0)) c.requires.stands

pub loaded_lift-lifted-requires-clause-safe : goal.loaded_lift-lifted-requires-clause-safe
loaded_lift-lifted-requires-clause-safe c = c.load-before.ensures.2.2

pub loaded_lift-lifted-requires-clause-run : goal.loaded_lift-lifted-requires-clause-run
loaded_lift-lifted-requires-clause-run c = c.load-before.ensures.2.4

pub fetch_max-found-requires : goal.fetch_max-found-requires
fetch_max-found-requires c =
    let order = c.self.inside.order in
    let same : order ≡ c.args.self.now.order = ap (λ b. b.order) c.self.view_is in
    let less : c.args.v < vertices order = subst (λ x. c.args.v < vertices x) (sym same) c.requires.vertex in
    let word : c.word_of-word.result ≡ place_of order c.args.which c.args.v + 1 = c.word_of-word.ensures ∙ ap (λ x. place_of x c.args.which c.args.v + 1) (sym same) in
    let inside = place_less order c.args.which c.args.v less in
    let key = c.self.inside.table.shared.key in
    let size : places key ≡ places order = ap (λ x. places x) c.self.invariant.key in
    let load = c.load-before.ensures in
    let lift = c.loaded_lift-lifted.ensures in
    let seen : List ℕ = c.loaded_lift-lifted.new.seat.me.0.seen in
    let looked : 0 < c.load-before.new.seat.me.0.stands = subst (λ (v : Lifter). 0 < v.stands) (sym (ap (λ m. m.0) load.2.0)) c.requires.stands in
    let stands : 0 < c.loaded_lift-lifted.new.seat.me.0.stands = subst (λ (v : Lifter). 0 < v.stands) (sym lift.seen.same) looked in
    let lifts : c.loaded_lift-lifted.result ≡ lift_in order c.args.which seen c.args.v = lift.lift ∙ ap (λ x. lift_in x c.args.which seen c.args.v) (sym same) in
    let before : c.word_of-word.result - 1 ≡ place_of order c.args.which c.args.v = omega arith in
    let by : c.loaded_lift-lifted.result ≡ lift_at key seen (c.word_of-word.result - 1) =
    lifts ∙ sym (lift_place order c.args.which seen c.args.v less) ∙ ap (λ p. lift_at order seen p) (sym before) ∙ ap (λ x. lift_at x seen (c.word_of-word.result - 1)) (sym c.self.invariant.key) in (
      lift.table ∙ load.0 ∙ c.requires.board ∙ sym (ap (λ b. b.table) c.self.view_is),
      omega (arith, c.self.invariant.words),
      raises key (subst IsOrder (sym c.self.invariant.key) c.self.invariant.order) _ _ _ _ _ (omega arith) (omega arith) stands by,
    )

-- what the seat has seen once it has loaded the word and the successors
more : (c : After-loaded_lift-lifted) → SeesMore c.args.seat.now.me.0 c.loaded_lift-lifted.new.seat.me.0
more c = sees_looked c.args.seat.now.me.0 c.load-before.new.seat.me.0 c.loaded_lift-lifted.new.seat.me.0 (c.word_of-word.result - 1) c.load-before.result
    (ap (λ m. m.0) c.load-before.ensures.2.0) c.load-before.ensures.2.1 c.loaded_lift-lifted.ensures.seen

pub returns-then-lifted-before-clause-seen : goal.returns-then-lifted-before-clause-seen
returns-then-lifted-before-clause-seen c = more (goal.at.returns-then-lifted-before-clause-seen c).After-loaded_lift-lifted

pub returns-then-lifted-before-clause-lifted : goal.returns-then-lifted-before-clause-lifted
returns-then-lifted-before-clause-lifted c =
    let order = c.self.inside.order in
    let same : order ≡ c.args.self.now.order = ap (λ b. b.order) c.self.view_is in
    let less : c.args.v < vertices order = subst (λ x. c.args.v < vertices x) (sym same) c.requires.vertex in
    let word : c.word_of-word.result ≡ place_of order c.args.which c.args.v + 1 = c.word_of-word.ensures ∙ ap (λ x. place_of x c.args.which c.args.v + 1) (sym same) in
    let load = c.load-before.ensures in
    let lift = c.loaded_lift-lifted.ensures in
    let wide = c.requires.safe.wide ∙ ap (λ x. places x) (c.requires.order ∙ sym same) in
    let seen : List ℕ = c.loaded_lift-lifted.new.seat.me.0.seen in
    let lifts : c.loaded_lift-lifted.result ≡ lift_in order c.args.which seen c.args.v = lift.lift ∙ ap (λ x. lift_in x c.args.which seen c.args.v) (sym same) in
    let after = after_look order c.self.invariant.order c.args.which c.args.v c.args.seat.now.me.0 c.load-before.new.seat.me.0 c.loaded_lift-lifted.new.seat.me.0 c.word_of-word.result c.load-before.result c.loaded_lift-lifted.result less word
    (c.requires.order ∙ sym same) wide (ap (λ m. m.0) load.2.0) load.2.1 lift.seen lift.safe lifts in
    subst (λ x. lift_in x c.args.which c.args.seat.now.me.0.seen c.args.v ≤ slice_index (table_in x c.args.which seen) c.args.v) same (after c.if-lifted-before.true)

-- it has loaded the word and the successors
loaded : (c : After-loaded_lift-lifted) → TakesAll (lift_steps c.args.self.now.order c.args.which c.args.v false) c.args.seat.now.me.0 c.loaded_lift-lifted.new.seat.me.0
loaded c = (c.load-before.new.seat.me.0, load_there c.args.self.now.order c.args.which c.args.v c.word_of-word.result c.args.seat.now.me.0 c.load-before.new.seat.me.0 c.word_of-word.ensures c.load-before.ensures.2.3, c.loaded_lift-lifted.ensures.steps)

pub returns-then-lifted-before-clause-steps : goal.returns-then-lifted-before-clause-steps
returns-then-lifted-before-clause-steps c = (false, loaded (goal.at.returns-then-lifted-before-clause-steps c).After-loaded_lift-lifted)

-- what the seat has seen once it has raised the word
raised : (c : After-fetch_max-found) → (SeesMore c.args.seat.now.me.0 c.fetch_max-found.new.seat.me.0
    × (lift_in c.args.self.now.order c.args.which c.args.seat.now.me.0.seen c.args.v ≤ slice_index (table_in c.args.self.now.order c.args.which c.fetch_max-found.new.seat.me.0.seen) c.args.v)
    × (c.fetch_max-found.result < c.loaded_lift-lifted.result →
    slice_index (table_in c.args.self.now.order c.args.which c.args.seat.now.me.0.seen) c.args.v < slice_index (table_in c.args.self.now.order c.args.which c.fetch_max-found.new.seat.me.0.seen) c.args.v))
raised c =
    let order = c.self.inside.order in
    let seen_more = sees_looked c.args.seat.now.me.0 c.load-before.new.seat.me.0 c.loaded_lift-lifted.new.seat.me.0 (c.word_of-word.result - 1) c.load-before.result
    (ap (λ m. m.0) c.load-before.ensures.2.0) c.load-before.ensures.2.1 c.loaded_lift-lifted.ensures.seen in
    let same : order ≡ c.args.self.now.order = ap (λ b. b.order) c.self.view_is in
    let less : c.args.v < vertices order = subst (λ x. c.args.v < vertices x) (sym same) c.requires.vertex in
    let word : c.word_of-word.result ≡ place_of order c.args.which c.args.v + 1 = c.word_of-word.ensures ∙ ap (λ x. place_of x c.args.which c.args.v + 1) (sym same) in
    let lift = c.loaded_lift-lifted.ensures in
    let raise = c.fetch_max-found.ensures in
    let wide = c.requires.safe.wide ∙ ap (λ x. places x) (c.requires.order ∙ sym same) in
    let seen : List ℕ = c.loaded_lift-lifted.new.seat.me.0.seen in
    let lifts : c.loaded_lift-lifted.result ≡ lift_in order c.args.which seen c.args.v = lift.lift ∙ ap (λ x. lift_in x c.args.which seen c.args.v) (sym same) in
    subst
    (λ x. SeesMore c.args.seat.now.me.0 c.fetch_max-found.new.seat.me.0
    × (lift_in x c.args.which c.args.seat.now.me.0.seen c.args.v ≤ slice_index (table_in x c.args.which c.fetch_max-found.new.seat.me.0.seen) c.args.v)
    × (c.fetch_max-found.result < c.loaded_lift-lifted.result →
    slice_index (table_in x c.args.which c.args.seat.now.me.0.seen) c.args.v < slice_index (table_in x c.args.which c.fetch_max-found.new.seat.me.0.seen) c.args.v))
    same
    (after_raise order c.self.invariant.order c.args.which c.args.v c.args.seat.now.me.0 c.loaded_lift-lifted.new.seat.me.0 c.fetch_max-found.new.seat.me.0 c.word_of-word.result c.fetch_max-found.result c.loaded_lift-lifted.result less word
    (c.requires.order ∙ sym same) wide seen_more lift.safe lifts (ap (λ m. m.0) raise.2.0) raise.2.1)

pub returns-clause-seen : goal.returns-clause-seen
returns-clause-seen c = (raised (goal.at.returns-clause-seen c).After-fetch_max-found).0

pub returns-clause-lifted : goal.returns-clause-lifted
returns-clause-lifted c = (raised (goal.at.returns-clause-lifted c).After-fetch_max-found).1

pub returns-clause-raised : goal.returns-clause-raised
returns-clause-raised c = λ rose. (raised (goal.at.returns-clause-raised c).After-fetch_max-found).2 (ltb-true _ _ rose)

pub returns-clause-steps : goal.returns-clause-steps
returns-clause-steps c =
    let place : c.word_of-word.result - 1 ≡ place_of c.args.self.now.order c.args.which c.args.v = omega (arith, c.word_of-word.ensures) in
    let step : Takes (raise_of c.args.self.now.order c.args.which c.args.v) c.loaded_lift-lifted.new.seat.me.0 c.fetch_max-found.new.seat.me.0 =
    subst (λ p. Takes (λ j. raise j p) c.loaded_lift-lifted.new.seat.me.0 c.fetch_max-found.new.seat.me.0) place c.fetch_max-found.ensures.2.3 in (
      true,
      takes_next (lift_steps c.args.self.now.order c.args.which c.args.v false) (raise_of c.args.self.now.order c.args.which c.args.v) c.args.seat.now.me.0 c.loaded_lift-lifted.new.seat.me.0 c.fetch_max-found.new.seat.me.0
          (loaded (goal.at.returns-clause-steps c).After-loaded_lift-lifted) step,
    )

pub returns-then-lifted-before-clause-safe : goal.returns-then-lifted-before-clause-safe
returns-then-lifted-before-clause-safe c = c.loaded_lift-lifted.ensures.safe

pub returns-clause-safe : goal.returns-clause-safe
returns-clause-safe c = c.fetch_max-found.ensures.2.2

pub returns-then-lifted-before-clause-raised : goal.returns-then-lifted-before-clause-raised
returns-then-lifted-before-clause-raised c = λ rose. absurd (true≢false (sym rose))
