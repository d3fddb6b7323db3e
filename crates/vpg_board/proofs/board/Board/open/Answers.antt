use Rattle.std.proofs.Common.{◌≡◌, ℕ, [], ◌∷◌, List, sym, ap, ap₂, ◌∙◌, subst, refl, length, arith, false, true, true≢false}
use Rattle.atomic_table.specs.Table.{opening}
use Rattle.vpg_board.specs.Lifters.{opener}
use Rattle.vpg_board.specs.Places.{values}
use Rattle.vpg_board.specs.Steps.{IsBoard}
use Rattle.vpg_board.specs.Taken.{IsOnBoard}
use Rattle.vpg_board.specs.Seats.{SeatView, IsSeat, IsSafe}
use Rattle.vpg_board.specs.declared.lifter.Lifter.{Lifter}
use Rattle.vpg_board.proofs.Atomic.{begins}
use Rattle.vpg_board.proofs.Known.{claims_of_opener, safe_of_opener}
use Rattle.vpg_board.proofs.Halves.{values_wide}
use Rattle.vpg_board.proofs.Taking.{opener_on_board}
use Rattle.atomic_table.specs.Seated.{TableId}
use Rattle.vpg_board.proofs.board.Board.open.Goals as goal

pub of_words-requires : goal.of_words-requires
of_words-requires c =
    let words : c.as_slice.result.now ≡ 0 ∷ values c.args.order = c.as_slice.ensures.value ∙ c.in-Ok.ensures in
    subst (λ (ws : List ℕ). IsBoard c.args.order (opening ws [] (opener c.args.order))) (sym words) (begins c.args.order)

pub invariant_of-seat : goal.invariant_of-seat
invariant_of-seat c =
    let e = c.in-Ok-of_words.ensures in
    let me = e.4 in
    let is : opener c.args.order ≡ c.in-Ok-of_words.inner.me.0 = sym (ap (λ m. m.0) me) in
    let words : c.as_slice.result.now ≡ 0 ∷ values c.args.order = c.as_slice.ensures.value ∙ c.in-Ok.ensures in
    let count = ap length words in
    let table = ap (λ z. z.words) e.2 in
    let wide = values_wide c.args.order c.game.ensures.order in
    let seat : IsSeat c.in-Ok-of_words.inner.table_id (opener c.args.order) true 0 false = record {
      words = omega (arith, e.0);
      stands = omega arith;
      safe = safe_of_opener c.args.order c.game.ensures.order;
      claims = claims_of_opener c.args.order;
      run = opener_on_board c.args.order;
      splits = refl;
      opens = refl;
      open_claims = λ _. refl;
      no_more = λ f. absurd (true≢false (sym f));
    } in
    (ap (λ m. m.1) me, subst (λ (v : Lifter). IsSeat c.in-Ok-of_words.inner.table_id v true 0 false) is seat)

pub invariant_of-result : goal.invariant_of-result
invariant_of-result c =
    let e = c.in-Ok-of_words.ensures in
    let words : c.as_slice.result.now ≡ 0 ∷ values c.args.order = c.as_slice.ensures.value ∙ c.in-Ok.ensures in
    let count = ap length words in
    let wide = values_wide c.args.order c.game.ensures.order in
    record {
      order = c.game.ensures.order;
      vertices = search;
      key = e.5;
      words = omega (arith, e.0);
      slots = e.1;
    }

pub returns-clause-safe : goal.returns-clause-safe
returns-clause-safe c =
    let e = c.in-Ok-of_words.ensures in
    subst IsSafe (sym (ap (λ m. m.0) e.4)) (safe_of_opener c.args.order c.game.ensures.order)

pub returns-clause-run : goal.returns-clause-run
returns-clause-run c = subst IsOnBoard (sym (ap (λ m. m.0) c.in-Ok-of_words.ensures.4)) (opener_on_board c.args.order)

abbrev seat : TableId → Lifter → SeatView
seat table lifter = record { board = record { table = table; order = lifter.order }; lifter = lifter }

pub returns-clause-seat : goal.returns-clause-seat
returns-clause-seat c = let e = c.in-Ok-of_words.ensures in ap₂ seat e.2 (ap (λ m. m.0) e.4)
