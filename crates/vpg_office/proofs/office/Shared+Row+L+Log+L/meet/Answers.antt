use Rattle.std.proofs.Common.{List, inl, inr, refl, sym, subst, arith}
use Rattle.std.specs.Sync.Mutex.{mutex_guard_value}
use mathlib.Core.List.{IsPrefix}
use Rattle.vpg_desk.specs.History.{Event}
use Rattle.vpg_office.specs.Beginnings.{itself}
use Rattle.vpg_office.specs.Fronts.{IsHistory, family_between}
use Rattle.vpg_office.proofs.Calling.{prefix_shorter}
use Rattle.vpg_office.proofs.office.Shared+Row+L+Log+L.meet.Goals as goal

pub returns-then-len-clause-mine : goal.returns-then-len-clause-mine
returns-then-len-clause-mine g c =
    let log = mutex_guard_value c.log_with-log.result in
    let theirs = coe 0 1 (k. IsPrefix (c.copy.ensures.same k) log) c.log_with-log.ensures.own.0 in
    subst (λ (l : List Event). IsPrefix c.args.front.now l) (sym c.copy-then-len.ensures.same)
    (prefix_shorter c.args.front.now c.args.other.now log c.log_with-log.ensures.front theirs (omega (arith, c.len.ensures.length, c.len-2.ensures.length, c.if-len.true)))

pub returns-then-len-clause-theirs : goal.returns-then-len-clause-theirs
returns-then-len-clause-theirs g c = subst (λ (l : List Event). IsPrefix c.args.other.now l) (sym c.copy-then-len.ensures.same) (itself c.args.other.now)

pub returns-then-len-clause-one : goal.returns-then-len-clause-one
returns-then-len-clause-one g c = inr c.copy-then-len.ensures.same

pub returns-then-len-clause-history : goal.returns-then-len-clause-history
returns-then-len-clause-history g c = subst (IsHistory (family_between g.L.Terms.game g.L.Terms.diagram)) (sym c.copy-then-len.ensures.same) c.copy-then-len.ensures.history

pub returns-clause-mine : goal.returns-clause-mine
returns-clause-mine g c = itself c.args.front.now

pub returns-clause-theirs : goal.returns-clause-theirs
returns-clause-theirs g c =
    let log = mutex_guard_value c.log_with-log.result in
    let theirs = coe 0 1 (k. IsPrefix (c.copy.ensures.same k) log) c.log_with-log.ensures.own.0 in
    prefix_shorter c.args.other.now c.args.front.now log theirs c.log_with-log.ensures.front (omega (arith, c.len.ensures.length, c.len-2.ensures.length, c.if-len.false))

pub returns-clause-one : goal.returns-clause-one
returns-clause-one g c = inl refl

pub returns-clause-history : goal.returns-clause-history
returns-clause-history g c = c.len.ensures.history
