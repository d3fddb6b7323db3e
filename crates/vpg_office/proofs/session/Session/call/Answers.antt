use Rattle.std.proofs.Common.{◌≡◌, ◌+◌, sym}
use Rattle.std.proofs.lemmas.Result.{IfErr-weaker, IfOk-weaker}
use Rattle.std.specs.Prelude.{IfErr, IfSome, OnOk}
use mathlib.Core.List.{IsPrefix}
use Rattle.vpg_desk.specs.Book as book
use Rattle.vpg_office.specs.Faults.{Begins, RefusedFor, TellsOf, logged}
use Rattle.vpg_office.specs.Fronts.{Extends, family_between}
use Rattle.vpg_office.specs.Kept.{HasOwn}
use Rattle.vpg_office.specs.Made.{IsEntered, Leaves}
use Rattle.vpg_office.specs.Story.{IsNamed, call_of}
use Rattle.vpg_office.specs.declared.asked.Answer.TheVariants.{Refused}
use Rattle.vpg_office.proofs.Calling.{entered_begins, entered_extends, leaves_begins, leaves_names, leaves_tells, then_some}
use Rattle.vpg_office.proofs.session.Session.call.Goals as goal

pub make-answer-requires-clause-seen : goal.make-answer-requires-clause-seen
make-answer-requires-clause-seen g c = coe 0 1 (k. IsPrefix c.args.front.now ((sym c.deref_mut.ensures.value) k)) c.log_with-log.ensures.front

pub make-answer-requires-clause-asked : goal.make-answer-requires-clause-asked
make-answer-requires-clause-asked g c = c.asked-asked.ensures.call

pub make-answer-requires-clause-own : goal.make-answer-requires-clause-own
make-answer-requires-clause-own g c = coe 0 1 (k. IfSome (c.asked-asked.ensures.own k) (HasOwn ((sym c.deref_mut.ensures.value) k))) c.log_with-log.ensures.own

pub make-answer-requires-clause-takes : goal.make-answer-requires-clause-takes
make-answer-requires-clause-takes g c = c.requires.takes

pub returns : goal.returns
returns g c =
    let game = g.L.Terms.game in
    let diagram = g.L.Terms.diagram in
    let limit = g.L.Terms.limit in
    let F = family_between game diagram in
    let refusal = g.C.Refused.Refuses.refusal_of in
    let asks = g.C.Call.asks c.args.call in
    let means = g.C.Call.means c.args.call in
    let own = g.C.Call.owns c.args.call in
    let log = c.deref_mut.result.now in
    let front = c.args.front.now in
    let new = c.make-answer.new.front in
    let number = c.self.inside.number in
    let answer = c.make-answer.result in
    let is = c.make-answer.ensures in
    let seen = coe 0 1 (k. IsPrefix front ((sym c.deref_mut.ensures.value) k)) c.log_with-log.ensures.front in
    let has = coe 0 1 (k. IfSome (c.asked-asked.ensures.own k) (HasOwn ((sym c.deref_mut.ensures.value) k))) c.log_with-log.ensures.own in
    record {
      done = IfOk-weaker answer (λ given. IsEntered F log front number means (g.C.Call.replies given) new)
          (λ given. Extends F front c.args.self.now.number means (g.C.Call.replies given) new)
          (λ given entered. coe 0 1 (k. Extends F front ((c.self.view_is k).number) means (g.C.Call.replies given) new) (entered_extends seen entered)) is.done;
      gives = is.gives;
      begins = entered_begins F log front number means new answer own (λ given. g.C.Call.replies given) has is.done;
      fault = IfErr-weaker answer (λ b. Leaves game diagram limit refusal log front number asks new b.fault)
          (λ b. TellsOf F limit refusal (λ r. Extends F front c.args.self.now.number (call_of asks (Refused r)) (book.Refused r) new) c.args.self.now.number front new b.fault)
          (λ b left. coe 0 1 (k. TellsOf F limit refusal (λ r. Extends F front (c.self.view_is k).number (call_of asks (Refused r)) (book.Refused r) new) (c.self.view_is k).number front new b.fault)
          (leaves_tells game diagram limit refusal log front number asks new b.fault seen left)) is.leaves;
      named = IfErr-weaker answer (λ b. Leaves game diagram limit refusal log front number asks new b.fault)
          (λ b. RefusedFor refusal (λ r. IsNamed game diagram asks (Refused r)) b.fault)
          (λ b left. leaves_names game diagram limit refusal log front number asks new b.fault left) is.leaves;
      refused = IfErr-weaker answer (λ b. Leaves game diagram limit refusal log front number asks new b.fault) (λ b. IfSome own (λ o. Begins o.front new b.fault))
          (λ b left. then_some own (HasOwn log) (λ o. Begins o.front new b.fault)
          (λ o h. leaves_begins game diagram limit refusal log front number asks new o.front b.fault h.0 left) has) is.leaves;
      back = is.back;
      same = λ k. (c.self.view_is k).number;
      counted = coe 0 1 (k. OnOk answer (c.make-answer.new.made.parts ≡ (c.self.view_is k).calls + 1)) is.counted;
      fault_counted = coe 0 1 (k. IfErr answer (λ b. c.make-answer.new.made.parts ≡ (c.self.view_is k).calls + logged b.fault)) is.fault_counted;
    }
