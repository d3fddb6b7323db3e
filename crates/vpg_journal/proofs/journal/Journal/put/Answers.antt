use Rattle.std.proofs.Common.{◌<◌, ◌∙◌, ◌++◌, List, ℕ, length, ap, subst, arith}
use Rattle.std.proofs.lemmas.Bool.Decides.{nat_tests}
use Rattle.std.proofs.lemmas.List.{take_rest}
use Rattle.vpg_journal.specs.Frames.{records_of, texts}
use Rattle.vpg_journal.specs.Journal.{IsBeforeOrAfter}
use Rattle.vpg_journal.proofs.Steps.{tail_of, texts_some}
use Rattle.vpg_journal.proofs.journal.Journal.put.Goals as goal

pub append-requires-clause-batch : goal.append-requires-clause-batch
append-requires-clause-batch g c =
    let some : 0 < length c.args.records.now = grind (arith, nat_tests) in
    (tail_of (texts c.args.records.now) c.deref.result.now _ (texts_some c.args.records.now some) c.in-Ok.ensures.short (c.deref.ensures.value ∙ c.in-Ok.ensures.bytes) (take_rest c.deref.result.now 1)).batch

pub returns-in-Err-append-clause-any_crash : goal.returns-in-Err-append-clause-any_crash
returns-in-Err-append-clause-any_crash g c clean x left =
    let some : 0 < length c.args.records.now = grind (arith, nat_tests) in
    let tail = tail_of (texts c.args.records.now) c.deref.result.now _ (texts_some c.args.records.now some) c.in-Ok.ensures.short (c.deref.ensures.value ∙ c.in-Ok.ensures.bytes) (take_rest c.deref.result.now 1) in
    subst (λ (rs : List (List ℕ)). IsBeforeOrAfter (records_of (g.D.Disk.seen c.args.self.now.disk)) rs x) tail.same (c.append.ensures.any_crash clean x left)

pub returns-clause-acknowledged : goal.returns-clause-acknowledged
returns-clause-acknowledged g c clean =
    let some : 0 < length c.args.records.now = grind (arith, nat_tests) in
    let tail = tail_of (texts c.args.records.now) c.deref.result.now _ (texts_some c.args.records.now some) c.in-Ok.ensures.short (c.deref.ensures.value ∙ c.in-Ok.ensures.bytes) (take_rest c.deref.result.now 1) in (
      record { file = c.in_default.ensures.at_rest clean; durable = c.in_default.ensures.durable },
      c.in_default.ensures.added clean ∙ ap (λ (rs : List (List ℕ)). records_of (g.D.Disk.seen c.args.self.now.disk) ++ rs) tail.same,
    )

pub returns-clause-any_crash : goal.returns-clause-any_crash
returns-clause-any_crash g c clean x left =
    let some : 0 < length c.args.records.now = grind (arith, nat_tests) in
    let tail = tail_of (texts c.args.records.now) c.deref.result.now _ (texts_some c.args.records.now some) c.in-Ok.ensures.short (c.deref.ensures.value ∙ c.in-Ok.ensures.bytes) (take_rest c.deref.result.now 1) in
    subst (λ (rs : List (List ℕ)). IsBeforeOrAfter (records_of (g.D.Disk.seen c.args.self.now.disk)) rs x) tail.same (c.append.ensures.any_crash clean x left)
