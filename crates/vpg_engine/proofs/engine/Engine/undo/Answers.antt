use Rattle.std.proofs.Common.{◌≡◌, ℕ, List, ◌++◌, ◌∷◌, [], Option, Some, None, ap, ap₂, ◌∙◌, subst}
use Rattle.std.specs.List.{insert}
use Rattle.vpg_office.specs.Token.{TokenView as Token}
use Rattle.vpg_desk.specs.Book.{Undo}
use Rattle.vpg_faults.specs.Refusals.{undo_refusal}
use Rattle.vpg_script.proofs.Given.{if_ok}
use Rattle.vpg_script.specs.Script as script
use Rattle.vpg_engine.specs.Held.{Held, undo_meant}
use Rattle.vpg_engine.specs.Serials.{serials}
use Rattle.vpg_engine.specs.Answers.{NoToken, call_or}
use Rattle.vpg_engine.specs.Engine.{EngineState, IsPlaceOf}
use Rattle.vpg_engine.specs.EngineFields.{engine_in}
use Rattle.vpg_engine.proofs.Asked.{on_view, unanswered, unasked}
use Rattle.vpg_engine.proofs.Exchanging.{undone}
use Rattle.vpg_engine.proofs.Logged.{unless_stray}
use Rattle.vpg_engine.proofs.Strays.{on_seen}
use Rattle.vpg_engine.proofs.engine.Engine.undo.Goals as goal

pub take-token-requires : goal.take-token-requires
take-token-requires g c =
    let tokens = c.self.inside.undos.items in
    (undo_meant (serials tokens) c.args.serial, subst (λ (ts : List Token). IsPlaceOf (undo_meant (serials ts) c.args.serial) (serials ts) (Some c.in-Some.place)) c.deref.ensures.value c.in-Some.ensures)

pub returns-in-Ok-clause-answer : goal.returns-in-Ok-clause-answer
returns-in-Ok-clause-answer g c =
    let e = c.self.inside in
    let old = engine_in e.client e.undos.items e.redos.items e.harvests.items e.seen.items in
    let at = subst (λ (ts : List Token). IsPlaceOf (undo_meant (serials ts) c.args.serial) (serials ts) (Some c.in-Some.place)) c.deref.ensures.value c.in-Some.ensures in
    let taken = c.take-token.ensures.taken (undo_meant (serials e.undos.items) c.args.serial) at in
    let holds : List ℕ → List ℕ → Held = λ ns rs. record { undos = ns; redos = rs; harvests = old.held.harvests; seen = old.held.seen } in
    on_view c.hold.result _ old _ _ _ _ _ c.self.view_is
    (λ tone told. undone g.L.Terms.limit c.self.invariant.room_is old _ c.args.session c.take-token.result.serial c.args.out.now.items _ c.args.serial c.in-Ok.redo.serial taken.0 c.in-Ok.ensures.accepted
    (ap₂ holds taken.1 (c.hold.ensures.held ∙ ap (λ (ts : List Token). serials ts ++ c.in-Ok.redo.serial ∷ []) c.reserve.ensures.items)) told) c.hold.ensures.told

pub returns-in-Err-clause-answer : goal.returns-in-Err-clause-answer
returns-in-Err-clause-answer g c =
    let e = c.self.inside in
    let old = engine_in e.client e.undos.items e.redos.items e.harvests.items e.seen.items in
    let at = subst (λ (ts : List Token). IsPlaceOf (undo_meant (serials ts) c.args.serial) (serials ts) (Some c.in-Some.place)) c.deref.ensures.value c.in-Some.ensures in
    let taken = c.take-token.ensures.taken (undo_meant (serials e.undos.items) c.args.serial) at in
    let holds : List ℕ → List ℕ → Held = λ ns rs. record { undos = ns; redos = rs; harvests = old.held.harvests; seen = old.held.seen } in
    let fault = c.in-Err.field-0.fault in
    let stays_held = unless_stray fault _ _ c.in-Err.ensures.back
    (λ back.
    let put = c.put_back_unswung.ensures _ back in
    let again = put.1.1.0 ∙ ap (λ (t : Token). insert c.take-token.new.tokens.items c.in-Some.place t) put.1.0 ∙ c.take-token.ensures.again in
    ap₂ holds (ap serials again) (ap serials (put.1.1.1 ∙ c.reserve.ensures.items))) in
    on_view c.put_fault.result _ old _ _ _ _ _ c.self.view_is
    (λ tone told. unanswered g.L.Terms.limit c.self.invariant.room_is c.args.session [] undo_refusal old _ (script.Undo c.args.serial) (Undo c.take-token.result.serial) fault c.names.result.now c.args.out.now.items _
    (ap (λ (x : Option ℕ). call_or NoToken Undo x) taken.0) c.in-Err.ensures.fault stays_held c.names.ensures told) c.put_fault.ensures.told

pub returns-in_default-clause-answer : goal.returns-in_default-clause-answer
returns-in_default-clause-answer g c =
    let none = subst (λ (ts : List Token). IsPlaceOf (undo_meant (serials ts) c.args.serial) (serials ts) None) c.deref.ensures.value c.in_default.ensures in
    let seen = subst (λ (s : EngineState). undo_meant s.held.undos c.args.serial ≡ None) c.self.view_is none in
    if_ok c.refused.result _ _
    (λ tone told. unasked c.args.self.now c.args.session (script.Undo c.args.serial) NoToken c.args.out.now.items _ (ap (λ (x : Option ℕ). call_or NoToken Undo x) seen) told) c.refused.ensures.told

pub returns-in-Err-clause-strayed : goal.returns-in-Err-clause-strayed
returns-in-Err-clause-strayed g c = λ is.
    let e = c.self.inside in
    on_seen (engine_in e.client e.undos.items e.redos.items e.harvests.items e.seen.items) _ c.args.session _ c.self.view_is (c.in-Err.ensures.astray (c.put_fault.ensures.strayed is))
