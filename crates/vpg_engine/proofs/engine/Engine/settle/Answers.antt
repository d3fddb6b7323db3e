use Rattle.std.proofs.Common.{◌∙◌, ◌+◌, ℕ, List, length, true, refl, sym, ap, subst}
use Rattle.vpg_diagram.specs.DiagramText.{NamedDiagram}
use Rattle.vpg_desk.specs.Book.{Order, Ordered, Commit, Added, Settled, IsSettled}
use Rattle.vpg_desk.specs.Commit.{handed_in}
use Rattle.vpg_faults.specs.Refusals.{commit_refusal, never_refused}
use Rattle.vpg_script.specs.Answer.{done}
use Rattle.vpg_script.specs.Script as script
use Rattle.vpg_engine.specs.Answers.{AsksSettled, TellsSettled, settled_text}
use Rattle.vpg_engine.specs.Engine.{IsFaultWithin, scene_at}
use Rattle.vpg_engine.specs.EngineFields.{engine_in}
use Rattle.vpg_engine.proofs.Asked.{on_view_by, unswept, unmade, makes, ends}
use Rattle.vpg_engine.proofs.Committing.{own_of_order}
use Rattle.vpg_engine.proofs.Logged.{unless_stray_any}
use Rattle.vpg_engine.proofs.Settling.{settle_answers, rounds_given}
use Rattle.vpg_engine.proofs.Strays.{after_call, on_seen}
use Rattle.vpg_engine.proofs.engine.Engine.settle.Goals as goal

pub commit_own-requires : goal.commit_own-requires
commit_own-requires g c =
    let page = c.swept-harvest.ensures.swept.page in
    record { ours = (page.game ∙ c.in-Ok.ensures.ours.0 ∙ sym c.order.ensures.game, page.diagram ∙ c.in-Ok.ensures.ours.1 ∙ sym c.order.ensures.diagram) }

pub put_fault-requires-in-Err-commit_own : goal.put_fault-requires-in-Err-commit_own
put_fault-requires-in-Err-commit_own g c =
    let page = c.swept-harvest.ensures.swept.page in
    let desk = c.order.new.self.desk in
    let own = own_of_order desk.game desk.diagram c.in-Ok.order c.swept-harvest.result.harvest (c.in-Ok.ensures.ours.0 ∙ sym c.order.ensures.game) (c.in-Ok.ensures.ours.1 ∙ sym c.order.ensures.diagram) c.in-Ok.ensures.order page.game page.diagram page.decisions in
    subst (λ (names : List (List ℕ)). IsFaultWithin (length names) commit_refusal c.in-Err-commit_own.field-0.fault) (sym (c.names-in-Err-commit_own.ensures ∙ ap (λ (d : NamedDiagram). d.names) c.commit_own.ensures.diagram)) (c.in-Err-commit_own.ensures.named own)

pub returns-in-Err-clause-answer : goal.returns-in-Err-clause-answer
returns-in-Err-clause-answer g c =
    let e = c.self.inside in
    let old = engine_in e.client e.undos.items e.redos.items e.harvests.items e.seen.items in
    on_view_by c.put_fault.result _ old _ _ _ _ _ _ c.self.view_is
    (λ tone told. unswept g.L.Terms.limit c.self.invariant.room_is c.args.session old _ c.args.lifters (script.Settle c.args.sweeps) c.in-Err.fault c.names.result.now c.args.out.now.items _ refl (λ setting held. tt) c.in-Err.ensures.fault refl told) c.put_fault.ensures.told

pub returns-in-Err-commit_own : goal.returns-in-Err-commit_own
returns-in-Err-commit_own g c =
    let e = c.self.inside in
    let old = engine_in e.client e.undos.items e.redos.items e.harvests.items e.seen.items in
    let order = c.in-Ok.order in
    let logged = c.in-Ok.ensures.accepted in
    let harvest = c.swept-harvest.result.harvest in
    let fault = c.in-Err-commit_own.field-0.fault in
    record {
      answer = on_view_by c.put_fault-in-Err-commit_own.result _ old _ _ _ _ _ _ c.self.view_is
          (λ tone told. settle_answers g.L.Terms.limit c.self.invariant.room_is c.args.session old _ c.order.new.self c.args.lifters c.swept-harvest.result.sweeps order harvest c.args.out.now.items _ logged c.in-Ok.ensures.ours c.in-Ok.ensures.order
          c.args.sweeps c.unwrap_or.result (c.unwrap_or.ensures ∙ rounds_given c.args.sweeps) c.swept-harvest.ensures.swept c.swept-harvest.ensures.few c.swept-harvest.ensures.made c.swept-harvest.ensures.none
          (unmade g.L.Terms.limit c.self.invariant.room_is c.args.session (scene_at old) old.held (old.client.calls + 1) c.order.new.self _ (AsksSettled (scene_at old) old.held (old.client.calls + 1 + 1) c.args.session) (Commit (handed_in true harvest)) c.args.out.now.items _ (sym logged.counted)
          commit_refusal fault c.names-in-Err-commit_own.result.now (sym (ap (λ (d : NamedDiagram). d.names) c.order.ensures.diagram)) c.in-Err-commit_own.ensures.fault (unless_stray_any fault _ refl) c.names-in-Err-commit_own.ensures told)) c.put_fault-in-Err-commit_own.ensures.told;
      strayed = λ is. on_seen old _ c.args.session _ c.self.view_is
          (after_call g.L.Terms.limit e.client c.args.session Order (Ordered order.decisions order.hopeful order.dual) c.order.new.self _ logged (c.in-Err-commit_own.ensures.astray (c.put_fault-in-Err-commit_own.ensures.strayed is)));
    }

pub returns-in-Err-call : goal.returns-in-Err-call
returns-in-Err-call g c =
    let e = c.self.inside in
    let old = engine_in e.client e.undos.items e.redos.items e.harvests.items e.seen.items in
    let order = c.in-Ok.order in
    let logged = c.in-Ok.ensures.accepted in
    let harvest = c.swept-harvest.result.harvest in
    let added = c.in-Ok-commit_own.added in
    let committed = c.in-Ok-commit_own.ensures.accepted in
    let fault = c.in-Err-call.field-0.fault in
    record {
      answer = on_view_by c.put_fault-in-Err-call.result _ old _ _ _ _ _ _ c.self.view_is
          (λ tone told. settle_answers g.L.Terms.limit c.self.invariant.room_is c.args.session old _ c.order.new.self c.args.lifters c.swept-harvest.result.sweeps order harvest c.args.out.now.items _ logged c.in-Ok.ensures.ours c.in-Ok.ensures.order
          c.args.sweeps c.unwrap_or.result (c.unwrap_or.ensures ∙ rounds_given c.args.sweeps) c.swept-harvest.ensures.swept c.swept-harvest.ensures.few c.swept-harvest.ensures.made c.swept-harvest.ensures.none
          (makes g.L.Terms.limit c.self.invariant.room_is c.args.session (scene_at old) old.held (old.client.calls + 1) c.order.new.self _ (AsksSettled (scene_at old) old.held (old.client.calls + 1 + 1) c.args.session) (Commit (handed_in true harvest)) c.args.out.now.items _ (sym logged.counted)
          c.commit_own.new.self (Added added) committed
          (unmade g.L.Terms.limit c.self.invariant.room_is c.args.session (scene_at old) old.held (old.client.calls + 1 + 1) c.commit_own.new.self _ (TellsSettled old.held added) Settled c.args.out.now.items _ (sym (committed.counted ∙ ap (λ (n : ℕ). n + 1) logged.counted))
          never_refused fault c.names-in-Err-call.result.now (sym (ap (λ (d : NamedDiagram). d.names) (c.commit_own.ensures.diagram ∙ c.order.ensures.diagram))) c.in-Err-call.ensures.fault (unless_stray_any fault _ refl) c.names-in-Err-call.ensures told))) c.put_fault-in-Err-call.ensures.told;
      strayed = λ is. on_seen old _ c.args.session _ c.self.view_is
          (after_call g.L.Terms.limit e.client c.args.session Order (Ordered order.decisions order.hopeful order.dual) c.order.new.self _ logged
          (after_call g.L.Terms.limit c.order.new.self c.args.session (Commit (handed_in true harvest)) (Added added) c.commit_own.new.self _ committed (c.in-Err-call.ensures.astray (c.put_fault-in-Err-call.ensures.strayed is))));
    }

pub returns-clause-answer : goal.returns-clause-answer
returns-clause-answer g c =
    let e = c.self.inside in
    let old = engine_in e.client e.undos.items e.redos.items e.harvests.items e.seen.items in
    let order = c.in-Ok.order in
    let logged = c.in-Ok.ensures.accepted in
    let harvest = c.swept-harvest.result.harvest in
    let added = c.in-Ok-commit_own.added in
    let committed = c.in-Ok-commit_own.ensures.accepted in
    let is_settled = c.in-Ok-call.settled in
    on_view_by c.settled.result _ old _ _ _ _ _ _ c.self.view_is
    (λ tone told. settle_answers g.L.Terms.limit c.self.invariant.room_is c.args.session old _ c.order.new.self c.args.lifters c.swept-harvest.result.sweeps order harvest c.args.out.now.items _ logged c.in-Ok.ensures.ours c.in-Ok.ensures.order
    c.args.sweeps c.unwrap_or.result (c.unwrap_or.ensures ∙ rounds_given c.args.sweeps) c.swept-harvest.ensures.swept c.swept-harvest.ensures.few c.swept-harvest.ensures.made c.swept-harvest.ensures.none
    (makes g.L.Terms.limit c.self.invariant.room_is c.args.session (scene_at old) old.held (old.client.calls + 1) c.order.new.self _ (AsksSettled (scene_at old) old.held (old.client.calls + 1 + 1) c.args.session) (Commit (handed_in true harvest)) c.args.out.now.items _ (sym logged.counted)
    c.commit_own.new.self (Added added) committed
    (makes g.L.Terms.limit c.self.invariant.room_is c.args.session (scene_at old) old.held (old.client.calls + 1 + 1) c.commit_own.new.self _ (TellsSettled old.held added) Settled c.args.out.now.items _ (sym (committed.counted ∙ ap (λ (n : ℕ). n + 1) logged.counted))
    c.call.new.self (IsSettled is_settled) c.in-Ok-call.ensures.accepted (ends c.call.new.self _ (done (settled_text is_settled added)) old.held c.args.out.now.items _ refl refl told)))) c.settled.ensures.told
