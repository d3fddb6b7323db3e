use Rattle.std.proofs.Common.{codes, ◌≡◌, ◌∙◌, ◌+◌, ℕ, ◌<◌, List, [], length, true, Option, Some, None, refl, sym, ap, subst}
use Rattle.vpg_diagram.specs.DiagramText.{NamedDiagram}
use Rattle.vpg_game.specs.Game.{NamedGame, vertex_ids}
use Rattle.vpg_desk.specs.Book.{Order, Ordered, Commit, Added}
use Rattle.vpg_desk.specs.Commit.{handed_in}
use Rattle.vpg_faults.specs.Refusals.{commit_refusal, never_refused}
use Rattle.vpg_script.proofs.Given.{if_ok}
use Rattle.vpg_script.specs.Answer.{done}
use Rattle.vpg_script.specs.Script as script
use Rattle.vpg_script.specs.View.{vertex_shown}
use Rattle.vpg_texts.specs.Sights.{vertex_of}
use Rattle.vpg_engine.specs.Answers.{NoVertex, TellsAdded, call_or, numbered}
use Rattle.vpg_engine.specs.Engine.{EngineState, IsFaultWithin, scene_at}
use Rattle.vpg_engine.specs.EngineFields.{engine_in}
use Rattle.vpg_engine.proofs.Asked.{on_view, unanswered, unasked, unmade, makes, ends}
use Rattle.vpg_engine.proofs.Committing.{own_of_order}
use Rattle.vpg_engine.proofs.LiftedOnce.{lift_answers}
use Rattle.vpg_engine.proofs.Logged.{unless_stray_any}
use Rattle.vpg_engine.proofs.Strays.{after_call, on_seen}
use Rattle.vpg_engine.proofs.engine.Engine.lift.Goals as goal

-- the place of a vertex in the desk's game
abbrev place_in : script.Vertex → NamedGame → Option ℕ
place_in named game = vertex_of (vertex_ids game.vertices) named

pub returns-in_default-clause-answer : goal.returns-in_default-clause-answer
returns-in_default-clause-answer g c =
    let named = vertex_shown c.args.vertex in
    let none = subst (λ (g : NamedGame). place_in named g ≡ None) (c.deref.ensures ∙ c.self.invariant.game ∙ ap (λ (s : EngineState). s.client.desk.game) c.self.view_is) (sym c.in_default.ensures.vertex) in
    if_ok c.refused.result _ _
    (λ tone told. unasked c.args.self.now c.args.session (script.Lift c.args.table named) NoVertex c.args.out.now.items _ (ap (λ (x : Option ℕ). call_or NoVertex (λ v. Order) x) none) told) c.refused.ensures.told

pub one-harvest-requires : goal.one-harvest-requires
one-harvest-requires g c =
    subst (λ (g : NamedGame). c.in-Some.v < length g.vertices) (c.deref.ensures ∙ c.self.invariant.game ∙ sym c.in-Ok.ensures.ours.0) c.in-Some.ensures.within

pub commit_own-requires : goal.commit_own-requires
commit_own-requires g c =
    let same = c.one-harvest.ensures.order in
    record { ours = (same.game ∙ c.in-Ok.ensures.ours.0 ∙ sym c.order.ensures.game, same.diagram ∙ c.in-Ok.ensures.ours.1 ∙ sym c.order.ensures.diagram) }

pub put_fault-requires-in-Err-commit_own : goal.put_fault-requires-in-Err-commit_own
put_fault-requires-in-Err-commit_own g c =
    let same = c.one-harvest.ensures.order in
    let desk = c.order.new.self.desk in
    let own = own_of_order desk.game desk.diagram c.in-Ok.order c.one-harvest.result (c.in-Ok.ensures.ours.0 ∙ sym c.order.ensures.game) (c.in-Ok.ensures.ours.1 ∙ sym c.order.ensures.diagram) c.in-Ok.ensures.order same.game same.diagram same.decisions in
    subst (λ (names : List (List ℕ)). IsFaultWithin (length names) commit_refusal c.in-Err-commit_own.field-0.fault) (sym (c.names-in-Err-commit_own.ensures ∙ ap (λ (d : NamedDiagram). d.names) c.commit_own.ensures.diagram)) (c.in-Err-commit_own.ensures.named own)

pub returns-in-Err-clause-answer : goal.returns-in-Err-clause-answer
returns-in-Err-clause-answer g c =
    let e = c.self.inside in
    let old = engine_in e.client e.undos.items e.redos.items e.harvests.items e.seen.items in
    let named = vertex_shown c.args.vertex in
    let here = subst (λ (g : NamedGame). place_in named g ≡ Some c.in-Some.v) (c.deref.ensures ∙ c.self.invariant.game) (sym c.in-Some.ensures.vertex) in
    on_view c.put_fault.result _ old _ _ _ _ _ c.self.view_is
    (λ tone told. unanswered g.L.Terms.limit c.self.invariant.room_is c.args.session [] never_refused old _ (script.Lift c.args.table named) Order c.in-Err.fault c.names.result.now c.args.out.now.items _ (ap (λ (x : Option ℕ). call_or NoVertex (λ v. Order) x) here)
    c.in-Err.ensures.fault (unless_stray_any c.in-Err.fault _ refl) c.names.ensures told) c.put_fault.ensures.told

pub returns-in-Err-commit_own : goal.returns-in-Err-commit_own
returns-in-Err-commit_own g c =
    let e = c.self.inside in
    let old = engine_in e.client e.undos.items e.redos.items e.harvests.items e.seen.items in
    let order = c.in-Ok.order in
    let logged = c.in-Ok.ensures.accepted in
    let named = vertex_shown c.args.vertex in
    let fault = c.in-Err-commit_own.field-0.fault in
    let here = subst (λ (g : NamedGame). place_in named g ≡ Some c.in-Some.v) (c.deref.ensures ∙ c.self.invariant.game) (sym c.in-Some.ensures.vertex) in
    let less = subst (λ (g : NamedGame). c.in-Some.v < length g.vertices) (c.deref.ensures ∙ c.self.invariant.game ∙ sym c.in-Ok.ensures.ours.0) c.in-Some.ensures.within in
    record {
      answer = on_view c.put_fault-in-Err-commit_own.result _ old _ _ _ _ _ c.self.view_is
          (λ tone told. lift_answers order c.one-harvest.result c.in-Ok.ensures.order c.one-harvest.ensures.order c.args.table c.in-Some.v less c.one-harvest.ensures.raised c.one-harvest.ensures.other
          g.L.Terms.limit c.self.invariant.room_is c.args.session old _ c.order.new.self named c.args.out.now.items _ here logged c.in-Ok.ensures.ours
          (unmade g.L.Terms.limit c.self.invariant.room_is c.args.session (scene_at old) old.held (old.client.calls + 1) c.order.new.self _ (TellsAdded old.held) (Commit (handed_in true c.one-harvest.result)) c.args.out.now.items _ (sym logged.counted)
          commit_refusal fault c.names-in-Err-commit_own.result.now (sym (ap (λ (d : NamedDiagram). d.names) c.order.ensures.diagram)) c.in-Err-commit_own.ensures.fault (unless_stray_any fault _ refl) c.names-in-Err-commit_own.ensures told)) c.put_fault-in-Err-commit_own.ensures.told;
      strayed = λ is. on_seen old _ c.args.session _ c.self.view_is
          (after_call g.L.Terms.limit e.client c.args.session Order (Ordered order.decisions order.hopeful order.dual) c.order.new.self _ logged (c.in-Err-commit_own.ensures.astray (c.put_fault-in-Err-commit_own.ensures.strayed is)));
    }

pub returns-clause-answer : goal.returns-clause-answer
returns-clause-answer g c =
    let e = c.self.inside in
    let old = engine_in e.client e.undos.items e.redos.items e.harvests.items e.seen.items in
    let logged = c.in-Ok.ensures.accepted in
    let added = c.in-Ok-commit_own.added in
    let named = vertex_shown c.args.vertex in
    let here = subst (λ (g : NamedGame). place_in named g ≡ Some c.in-Some.v) (c.deref.ensures ∙ c.self.invariant.game) (sym c.in-Some.ensures.vertex) in
    let less = subst (λ (g : NamedGame). c.in-Some.v < length g.vertices) (c.deref.ensures ∙ c.self.invariant.game ∙ sym c.in-Ok.ensures.ours.0) c.in-Some.ensures.within in
    on_view c.numbered.result _ old _ _ _ _ _ c.self.view_is
    (λ tone told. lift_answers c.in-Ok.order c.one-harvest.result c.in-Ok.ensures.order c.one-harvest.ensures.order c.args.table c.in-Some.v less c.one-harvest.ensures.raised c.one-harvest.ensures.other
    g.L.Terms.limit c.self.invariant.room_is c.args.session old _ c.order.new.self named c.args.out.now.items _ here logged c.in-Ok.ensures.ours
    (makes g.L.Terms.limit c.self.invariant.room_is c.args.session (scene_at old) old.held (old.client.calls + 1) c.order.new.self _ (TellsAdded old.held) (Commit (handed_in true c.one-harvest.result)) c.args.out.now.items _ (sym logged.counted)
    c.commit_own.new.self (Added added) c.in-Ok-commit_own.ensures.accepted (ends c.commit_own.new.self _ (done (numbered (codes "added") added)) old.held c.args.out.now.items _ refl refl told))) c.numbered.ensures.told
