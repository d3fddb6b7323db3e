use Rattle.std.proofs.Common.{◌∙◌, ℕ, ◌-◌, true, List, length, Option, refl, sym, ap, subst}
use Rattle.std.specs.Arc.{arc_value}
use Rattle.vpg_diagram.specs.DiagramText.{NamedDiagram}
use Rattle.vpg_measure.specs.Orders.{HarvestView}
use Rattle.vpg_desk.specs.Book.{Harvest}
use Rattle.vpg_desk.specs.Commit.{handed_in}
use Rattle.vpg_faults.specs.Refusals.{commit_refusal}
use Rattle.vpg_script.specs.Script as script
use Rattle.vpg_engine.specs.Held.{Held}
use Rattle.vpg_engine.specs.Engine.{EngineState, AnswersTo, IsFaultWithin}
use Rattle.vpg_engine.specs.EngineFields.{engine_in, harvests_of, AreOwnHarvests, IsOwnHarvest}
use Rattle.vpg_engine.proofs.Asked.{on_view}
use Rattle.vpg_engine.proofs.Committing.{commit_unknown, committed, commit_refused, own_kept, own_gone, own_returned, returned_again}
use Rattle.vpg_engine.proofs.KeptHarvests.{gone_seen}
use Rattle.vpg_engine.proofs.Logged.{unless_stray}
use Rattle.vpg_engine.proofs.Strays.{on_seen}
use Rattle.vpg_engine.proofs.engine.Engine.commit.Goals as goal

pub returns-in_default-clause-answer : goal.returns-in_default-clause-answer
returns-in_default-clause-answer g c =
    let e = c.self.inside in
    let old = engine_in e.client e.undos.items e.redos.items e.harvests.items e.seen.items in
    let with : List (Option HarvestView) → EngineState = λ hs. engine_in e.client e.undos.items e.redos.items hs e.seen.items in
    on_view c.refused.result _ old _ _ _ _ _ c.self.view_is
    (λ tone told. subst (λ (hs : List (Option HarvestView)). AnswersTo old (record { label = c.args.session; command = script.Commit c.args.number }) tone c.args.out.now.items c.refused.new.out.items (with hs))
    (sym c.in_default.ensures.none) (commit_unknown old c.args.session c.args.number e.harvests.items refl c.args.out.now.items _ c.in_default.ensures.kept told)) c.refused.ensures.told

pub commit_own-requires : goal.commit_own-requires
commit_own-requires g c =
    let e = c.self.inside in
    let own = own_kept (arc_value e.game) (arc_value e.diagram) e.harvests.items c.args.number c.in-Some.harvest c.self.invariant.harvests c.in-Some.ensures.kept in
    record { ours = (own.game ∙ c.self.invariant.game, own.diagram ∙ c.self.invariant.diagram) }

pub invariant_of-self-in-Ok : goal.invariant_of-self-in-Ok
invariant_of-self-in-Ok g c =
    let e = c.self.inside in
    let is = c.self.invariant in
    record {
      room_is = is.room_is;
      game = is.game ∙ sym c.commit_own.ensures.game;
      diagram = is.diagram ∙ sym c.commit_own.ensures.diagram;
      features = is.features;
      harvests = subst (λ (hs : List (Option HarvestView)). AreOwnHarvests (arc_value e.game) (arc_value e.diagram) hs) (sym c.in-Some.ensures.gone) (own_gone (arc_value e.game) (arc_value e.diagram) e.harvests.items _ is.harvests);
    }

pub invariant_of-self-in-Err : goal.invariant_of-self-in-Err
invariant_of-self-in-Err g c =
    let e = c.self.inside in
    let is = c.self.invariant in
    record {
      room_is = is.room_is;
      game = is.game ∙ sym c.commit_own.ensures.game;
      diagram = is.diagram ∙ sym c.commit_own.ensures.diagram;
      features = is.features;
      harvests = own_returned (arc_value e.game) (arc_value e.diagram) e.harvests.items c.args.number c.in-Some.harvest c.in-Err.field-0.fault c.in-Err.field-0.value c.take_harvest.new.harvests.items c.return_harvest.new.harvests.items
          is.harvests c.in-Some.ensures.kept c.in-Some.ensures.gone c.in-Err.ensures.back c.return_harvest.ensures.strayed c.return_harvest.ensures.back;
    }

pub put_fault-requires : goal.put_fault-requires
put_fault-requires g c =
    let e = c.self.inside in
    let is = c.self.invariant in
    let own = coe 0 1 (k. IsOwnHarvest (is.game k) (is.diagram k) c.in-Some.harvest) (own_kept (arc_value e.game) (arc_value e.diagram) e.harvests.items c.args.number c.in-Some.harvest is.harvests c.in-Some.ensures.kept) in
    subst (λ (names : List (List ℕ)). IsFaultWithin (length names) commit_refusal c.in-Err.field-0.fault) (sym (c.names.ensures ∙ ap (λ (d : NamedDiagram). d.names) c.commit_own.ensures.diagram)) (c.in-Err.ensures.named own)

pub returns-in-Ok-clause-answer : goal.returns-in-Ok-clause-answer
returns-in-Ok-clause-answer g c =
    let e = c.self.inside in
    let old = engine_in e.client e.undos.items e.redos.items e.harvests.items e.seen.items in
    let hs = e.harvests.items in
    let holds : List (Option Harvest) → Held = λ kept. record { undos = old.held.undos; redos = old.held.redos; harvests = kept; seen = old.held.seen } in
    on_view c.numbered.result _ old _ _ _ _ _ c.self.view_is
    (λ tone told. committed old c.args.session c.args.number hs refl c.args.out.now.items _ g.L.Terms.limit c.self.invariant.room_is _ c.in-Some.harvest c.in-Some.ensures.kept c.in-Ok.added c.in-Ok.ensures.accepted
    (ap holds (ap harvests_of c.in-Some.ensures.gone ∙ gone_seen (handed_in true) hs (c.args.number - 1))) told) c.numbered.ensures.told

pub returns-in-Err-clause-answer : goal.returns-in-Err-clause-answer
returns-in-Err-clause-answer g c =
    let e = c.self.inside in
    let old = engine_in e.client e.undos.items e.redos.items e.harvests.items e.seen.items in
    let hs = e.harvests.items in
    let harvest = c.in-Some.harvest in
    let holds : List (Option HarvestView) → Held = λ kept. record { undos = old.held.undos; redos = old.held.redos; harvests = harvests_of kept; seen = old.held.seen } in
    let again = returned_again hs c.args.number harvest c.in-Err.field-0.fault c.in-Err.field-0.value c.take_harvest.new.harvests.items c.return_harvest.new.harvests.items
    c.in-Some.ensures.kept c.in-Some.ensures.gone c.in-Err.ensures.back c.return_harvest.ensures.back in
    on_view c.put_fault.result _ old _ _ _ _ _ c.self.view_is
    (λ tone told. commit_refused old c.args.session c.args.number hs refl c.args.out.now.items _ g.L.Terms.limit c.self.invariant.room_is _ harvest c.in-Some.ensures.kept c.in-Err.field-0.fault c.names.result.now c.in-Err.ensures.fault
    (unless_stray c.in-Err.field-0.fault _ _ again (λ same. ap holds same)) c.names.ensures told) c.put_fault.ensures.told

pub returns-in-Err-clause-strayed : goal.returns-in-Err-clause-strayed
returns-in-Err-clause-strayed g c = λ is.
    let e = c.self.inside in
    on_seen (engine_in e.client e.undos.items e.redos.items e.harvests.items e.seen.items) _ c.args.session _ c.self.view_is (c.in-Err.ensures.astray (c.put_fault.ensures.strayed is))
