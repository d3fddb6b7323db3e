use Rattle.std.proofs.lemmas.Grind.{common_steps}
use Rattle.std.proofs.Common.{rules, arith}
use Rattle.std.proofs.lemmas.Result.{on_ok_weaker}
use Rattle.vpg_partial.specs.Known.{IsClosed, literal_of}
use Rattle.vpg_partial.specs.KnownTable.{literals_in}
use Rattle.vpg_partial.specs.Propagation.{ClosedWith, Grows}
use Rattle.vpg_partial.proofs.TableSteps.{grows_by, grows_more, grows_under, contradicts_at, contradicts_before, contradicts_under}
use Rattle.vpg_partial.proofs.WorklistSteps.{done_when_added, on_ok_both}
use Rattle.vpg_partial.proofs.propagation.decide.Goals as goal

pub returns-in_err-add-clause-contradiction : goal.returns-in_err-add-clause-contradiction
returns-in_err-add-clause-contradiction c =
    λ e. contradicts_at (ClosedWith c.args.clauses.now c.args.counts.now (literal_of c.args.decision)) c.args.known.now (literal_of c.args.decision) c.in_err-add.ensures.err (λ set closed within. closed.1)

pub propagate-requires-clause-done : goal.propagate-requires-clause-done
propagate-requires-clause-done c =
    done_when_added c.args.clauses.now c.args.counts.now c.args.known.now c.add.new.known c.args.waiting.now.items c.push.new.self.items (literal_of c.args.decision) c.requires.closed c.in_ok-add.ensures.ok (search rules)

pub returns-clause-grows : goal.returns-clause-grows
returns-clause-grows c =
    let closed = IsClosed c.args.clauses.now c.args.counts.now in
    let all = ClosedWith c.args.clauses.now c.args.counts.now (literal_of c.args.decision) in
    on_ok_weaker c.propagate.result
    (λ (g : Grows closed c.add.new.known c.propagate.new.known). grows_more all c.args.known.now c.add.new.known c.propagate.new.known
    (grows_by all c.args.known.now c.add.new.known (literal_of c.args.decision) c.in_ok-add.ensures.ok (λ set closed within. closed.1))
    (grows_under closed all c.add.new.known c.propagate.new.known (λ set h. h.0) g))
    c.propagate.ensures.grows

pub returns-clause-closed : goal.returns-clause-closed
returns-clause-closed c =
    let closed = IsClosed c.args.clauses.now c.args.counts.now in
    on_ok_both c.propagate.result
    (λ (h : closed (literals_in c.propagate.new.known)) (g : Grows closed c.add.new.known c.propagate.new.known). (h, g.kept (literal_of c.args.decision) c.in_ok-add.ensures.ok.has))
    c.propagate.ensures.closed c.propagate.ensures.grows

pub returns-clause-contradiction : goal.returns-clause-contradiction
returns-clause-contradiction c =
    let closed = IsClosed c.args.clauses.now c.args.counts.now in
    let all = ClosedWith c.args.clauses.now c.args.counts.now (literal_of c.args.decision) in
    λ e. contradicts_before all c.args.known.now c.add.new.known
    (grows_by all c.args.known.now c.add.new.known (literal_of c.args.decision) c.in_ok-add.ensures.ok (λ set h within. h.1))
    (contradicts_under closed all c.add.new.known (λ set h. h.0) (c.propagate.ensures.contradiction e))

pub returns-then-is_err-clause-contradiction : goal.returns-then-is_err-clause-contradiction
returns-then-is_err-clause-contradiction c = grind (arith, common_steps)

pub propagate-requires-clause-counts : goal.propagate-requires-clause-counts
propagate-requires-clause-counts c = grind (arith, common_steps)

pub propagate-requires-clause-clauses : goal.propagate-requires-clause-clauses
propagate-requires-clause-clauses c = grind (arith, common_steps)

pub returns-clause-none_waits : goal.returns-clause-none_waits
returns-clause-none_waits c = grind (arith, common_steps)

pub propagate-requires-clause-index : goal.propagate-requires-clause-index
propagate-requires-clause-index c = grind (arith, common_steps)
