use Rattle.std.proofs.Common.{refl, sym, ◌∙◌}
use Rattle.std.specs.Arc.{arc_value}
use Rattle.vpg_office.specs.Made.{IsPage}
use Rattle.vpg_trail.specs.Page.{Hopeful, Dual}
use Rattle.vpg_faults.specs.Refusals.{never_refused}
use Rattle.vpg_desk.specs.Book.{Page}
use Rattle.vpg_script.specs.Script as script
use Rattle.vpg_engine.specs.EngineFields.{engine_in}
use Rattle.vpg_engine.proofs.Asked.{on_view, on_view_told, unanswered}
use Rattle.vpg_engine.proofs.Logged.{unless_stray_any}
use Rattle.vpg_engine.proofs.Paged.{page_games, table_length, changed_answers}
use Rattle.vpg_engine.proofs.engine.Engine.changed.Goals as goal

pub verdicts_over-requires : goal.verdicts_over-requires
verdicts_over-requires g c =
    let desk = c.self.inside.client.desk in
    let both = c.in-Ok.both.0 in
    let page : IsPage c.deref-2.result.now desk.diagram desk.book both.entries both.decisions both.hopeful both.dual c.deref.result.now =
    coe 0 1 (k. IsPage ((sym (c.deref-2.ensures ∙ c.self.invariant.game)) k) desk.diagram desk.book both.entries both.decisions both.hopeful both.dual ((sym c.deref.ensures) k)) c.in-Ok.ensures.shown in
    record {
      levels = (page_games page).levels;
      hopeful = table_length page Hopeful both.hopeful page.hopeful_is;
      dual = table_length page Dual both.dual page.dual_is;
    }

pub returns-clause-answer : goal.returns-clause-answer
returns-clause-answer g c =
    let e = c.self.inside in
    let old = engine_in e.client e.undos.items e.redos.items e.harvests.items e.seen.items in
    let both = c.in-Ok.both in
    on_view_told old _ _ _ _ _ c.self.view_is
    (changed_answers c.args.labels.now.names g.L.Terms.limit c.self.invariant.room_is old _ c.args.session c.deref-2.result.now c.deref-3.result.now c.args.out.now.items _ (c.deref-2.ensures ∙ c.self.invariant.game) (c.deref-3.ensures ∙ c.self.invariant.game)
    e.client.desk.book both.0.entries both.0.decisions both.0.hopeful both.0.dual (arc_value both.1) c.in-Ok.ensures.shown c.in-Ok.ensures.accepted _ c.in_ok-verdicts.ensures refl _ _ c.deref-4.ensures.value c.deref-5.ensures.value c.in_ok-put_changed.ensures.changed)

pub returns-in-Err-clause-answer : goal.returns-in-Err-clause-answer
returns-in-Err-clause-answer g c =
    let e = c.self.inside in
    let old = engine_in e.client e.undos.items e.redos.items e.harvests.items e.seen.items in
    on_view c.put_fault.result _ old _ _ _ _ _ c.self.view_is
    (λ tone told. unanswered g.L.Terms.limit c.self.invariant.room_is c.args.session c.args.labels.now.names never_refused old _ script.Changed Page c.in-Err.fault c.names.result.now c.args.out.now.items _ refl c.in-Err.ensures.fault (unless_stray_any c.in-Err.fault _ refl) c.names.ensures told) c.put_fault.ensures.told
