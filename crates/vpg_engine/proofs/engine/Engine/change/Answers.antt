use Rattle.std.proofs.Common.{ℕ, List, ◌++◌, ◌∷◌, [], ap, ◌∙◌}
use Rattle.vpg_diagram.specs.DiagramText.{NamedDiagram}
use Rattle.vpg_office.specs.Story.{call_of}
use Rattle.vpg_office.specs.Token.{TokenView as Token}
use Rattle.vpg_office.specs.declared.asked.Answer.TheVariants as answer
use Rattle.vpg_script.proofs.Given.{if_ok}
use Rattle.vpg_engine.specs.Answers.{NoFeature, TellsChanged}
use Rattle.vpg_engine.specs.Held.{Held}
use Rattle.vpg_engine.specs.Serials.{serials}
use Rattle.vpg_engine.specs.EngineFields.{engine_in}
use Rattle.vpg_engine.proofs.Asked.{unasked_by}
use Rattle.vpg_engine.proofs.Deciding.{called_none, called_some, change_refused, changes, named_within, on_changed_view, tells_means}
use Rattle.vpg_engine.proofs.Logged.{unless_stray}
use Rattle.vpg_engine.proofs.engine.Engine.change.Goals as goal

pub call-requires : goal.call-requires
call-requires g c = record { takes = c.requires.takes c.in-Some.call }

pub returns-in-Ok-clause-answer : goal.returns-in-Ok-clause-answer
returns-in-Ok-clause-answer g c =
    let e = c.self.inside in
    let old = engine_in e.client e.undos.items e.redos.items e.harvests.items e.seen.items in
    let holds : List ℕ → Held = λ undos. record { undos = undos; redos = old.held.redos; harvests = old.held.harvests; seen = old.held.seen } in
    on_changed_view c.hold.result _ old _ _ _ _ _ _ _ c.self.view_is (called_some g.C.Call.means c.args.call c.in-Some.call c.in-Some.is)
    (λ tone told. changes g.L.Terms.limit g.C.Refused.Refuses.refusal_of (g.C.Call.means c.in-Some.call) c.args.session c.self.invariant.room_is old _ c.args.out.now.items _ (g.C.Call.replies c.in-Ok.undo) c.in-Ok.undo.serial (c.requires.changes c.in-Ok.undo) c.in-Ok.ensures.accepted
    (ap holds (c.hold.ensures.held ∙ ap (λ (tokens : List Token). serials tokens ++ c.in-Ok.undo.serial ∷ []) c.reserve.ensures.items)) told) c.hold.ensures.told

pub put_fault-requires : goal.put_fault-requires
put_fault-requires g c =
    let e = c.self.inside in
    let old = engine_in e.client e.undos.items e.redos.items e.harvests.items e.seen.items in
    let told = tells_means g.L.Terms.limit g.C.Refused.Refuses.refusal_of (g.C.Call.means c.in-Some.call) c.args.session (λ r. call_of (g.C.Call.asks c.in-Some.call) (answer.Refused r)) (c.requires.means c.in-Some.call) e.client _ c.in-Err.field-0.fault c.in-Err.ensures.fault in
    named_within g.L.Terms.limit g.C.Refused.Refuses.refusal_of (g.C.Call.means c.in-Some.call) c.args.session old c.args.self.now _ c.in-Err.field-0.fault c.names.result.now c.self.view_is
    (c.names.ensures ∙ ap (λ (d : NamedDiagram). d.names) c.call.ensures.diagram) (c.requires.named c.in-Some.call c.in-Some.is) told

pub returns-in-Err-clause-answer : goal.returns-in-Err-clause-answer
returns-in-Err-clause-answer g c =
    let e = c.self.inside in
    let old = engine_in e.client e.undos.items e.redos.items e.harvests.items e.seen.items in
    let told = tells_means g.L.Terms.limit g.C.Refused.Refuses.refusal_of (g.C.Call.means c.in-Some.call) c.args.session (λ r. call_of (g.C.Call.asks c.in-Some.call) (answer.Refused r)) (c.requires.means c.in-Some.call) e.client _ c.in-Err.field-0.fault c.in-Err.ensures.fault in
    let holds : List ℕ → Held = λ undos. record { undos = undos; redos = old.held.redos; harvests = old.held.harvests; seen = old.held.seen } in
    let stays_held = unless_stray c.in-Err.field-0.fault _ _ c.in-Err.ensures.back
    (λ same. ap holds (ap serials (c.hold_strayed.ensures _ same ∙ c.reserve.ensures.items))) in
    on_changed_view c.put_fault.result _ old _ _ _ _ _ _ _ c.self.view_is (called_some g.C.Call.means c.args.call c.in-Some.call c.in-Some.is)
    (λ tone written. change_refused g.L.Terms.limit g.C.Refused.Refuses.refusal_of (g.C.Call.means c.in-Some.call) c.args.session c.self.invariant.room_is old _ c.args.out.now.items _ c.in-Err.field-0.fault c.names.result.now told
    stays_held c.names.ensures written) c.put_fault.ensures.told

pub returns-in_default-clause-answer : goal.returns-in_default-clause-answer
returns-in_default-clause-answer g c =
    let now = c.args.self.now in
    if_ok c.refused.result _ _
    (λ tone told. unasked_by now c.args.session _ (TellsChanged now.held) NoFeature c.args.out.now.items _ (called_none g.C.Call.means c.args.call c.in_default.not-Some) told) c.refused.ensures.told
