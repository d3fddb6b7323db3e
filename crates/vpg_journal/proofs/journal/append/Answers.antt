use Rattle.std.proofs.Common.{◌+◌, length, inl, sym, ◌∙◌, ap, subst, arith}
use Rattle.sqlite_disk.specs.Disk.{Torn}
use Rattle.vpg_journal.specs.Frames.{records_of}
use Rattle.vpg_journal.specs.Journal.{IsAtRest}
use Rattle.vpg_journal.proofs.Steps.{stage, gate, done, tail_some}
use Rattle.vpg_journal.proofs.journal.append.Goals as goal

pub returns-in_err-write_at-clause-any_crash : goal.returns-in_err-write_at-clause-any_crash
returns-in_err-write_at-clause-any_crash g c clean x left =
    let was = c.write_at.ensures.clean clean in
    inl (stage (g.D.Disk.seen c.args.disk.now) c.args.gate c.args.tail.now (c.requires.at_rest was) _ _ (c.requires.durable was) c.write_at.ensures.crash x left)

pub returns-in_err-sync-clause-any_crash : goal.returns-in_err-sync-clause-any_crash
returns-in_err-sync-clause-any_crash g c clean x left =
    let was = c.write_at.ensures.clean (c.sync.ensures.clean clean) in
    inl (stage (g.D.Disk.seen c.args.disk.now) c.args.gate c.args.tail.now (c.requires.at_rest was) _ _ (c.requires.durable was) c.write_at.ensures.crash x (c.sync.ensures.crash x left))

pub returns-in_err-write_at-2-clause-any_crash : goal.returns-in_err-write_at-2-clause-any_crash
returns-in_err-write_at-2-clause-any_crash g c clean x left =
    let was = c.write_at.ensures.clean (c.sync.ensures.clean (c.write_at-2.ensures.clean clean)) in
    gate (g.D.Disk.seen c.args.disk.now) c.args.gate c.args.tail.now (c.requires.at_rest was) (g.D.Disk.seen c.write_at.new.self) c.write_at.ensures.others (c.in_ok-write_at.ensures.written (tail_some c.args.tail.now c.requires.batch)) c.requires.batch
    _ _ c.in_ok-sync.ensures.durable c.write_at-2.ensures.crash x left

pub returns-in_err-sync-2-clause-any_crash : goal.returns-in_err-sync-2-clause-any_crash
returns-in_err-sync-2-clause-any_crash g c clean x left =
    let was = c.write_at.ensures.clean (c.sync.ensures.clean (c.write_at-2.ensures.clean (c.sync-2.ensures.clean clean))) in
    gate (g.D.Disk.seen c.args.disk.now) c.args.gate c.args.tail.now (c.requires.at_rest was) (g.D.Disk.seen c.write_at.new.self) c.write_at.ensures.others (c.in_ok-write_at.ensures.written (tail_some c.args.tail.now c.requires.batch)) c.requires.batch
    _ _ c.in_ok-sync.ensures.durable c.write_at-2.ensures.crash x (c.sync-2.ensures.crash x left)

pub returns-clause-any_crash : goal.returns-clause-any_crash
returns-clause-any_crash g c clean x left =
    let was = c.write_at.ensures.clean (c.sync.ensures.clean (c.write_at-2.ensures.clean (c.sync-2.ensures.clean clean))) in
    gate (g.D.Disk.seen c.args.disk.now) c.args.gate c.args.tail.now (c.requires.at_rest was) (g.D.Disk.seen c.write_at.new.self) c.write_at.ensures.others (c.in_ok-write_at.ensures.written (tail_some c.args.tail.now c.requires.batch)) c.requires.batch
    _ _ c.in_ok-sync.ensures.durable c.write_at-2.ensures.crash x (c.sync-2.ensures.crash x left)

pub returns-clause-at_rest : goal.returns-clause-at_rest
returns-clause-at_rest g c clean =
    let was = c.write_at.ensures.clean (c.sync.ensures.clean (c.write_at-2.ensures.clean (c.sync-2.ensures.clean clean))) in
    let n = c.args.gate in
    let torn2 = subst (λ x. Torn n 1 x (g.D.Disk.seen c.write_at-2.new.self)) c.sync.ensures.seen c.write_at-2.ensures.others in
    let ends = done (g.D.Disk.seen c.args.disk.now) n c.args.tail.now (c.requires.at_rest was) (g.D.Disk.seen c.write_at.new.self) c.write_at.ensures.others (c.in_ok-write_at.ensures.written (tail_some c.args.tail.now c.requires.batch)) c.requires.batch
    (g.D.Disk.seen c.write_at-2.new.self) torn2 (c.in_ok-write_at-2.ensures.written (omega arith)) in
    subst (λ f. IsAtRest f (n + length c.args.tail.now)) (sym c.sync-2.ensures.seen) ends.0

pub returns-clause-added : goal.returns-clause-added
returns-clause-added g c clean =
    let was = c.write_at.ensures.clean (c.sync.ensures.clean (c.write_at-2.ensures.clean (c.sync-2.ensures.clean clean))) in
    let n = c.args.gate in
    let torn2 = subst (λ x. Torn n 1 x (g.D.Disk.seen c.write_at-2.new.self)) c.sync.ensures.seen c.write_at-2.ensures.others in
    let ends = done (g.D.Disk.seen c.args.disk.now) n c.args.tail.now (c.requires.at_rest was) (g.D.Disk.seen c.write_at.new.self) c.write_at.ensures.others (c.in_ok-write_at.ensures.written (tail_some c.args.tail.now c.requires.batch)) c.requires.batch
    (g.D.Disk.seen c.write_at-2.new.self) torn2 (c.in_ok-write_at-2.ensures.written (omega arith)) in
    ap records_of c.sync-2.ensures.seen ∙ ends.1
