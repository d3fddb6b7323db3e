use Rattle.std.proofs.Common.{◌≡◌, ◌∙◌, ◌+◌, List, ◌++◌, ◌∷◌, [], length, true, Option, Some, refl, sym, ap, subst, arith}
use Rattle.std.proofs.lemmas.List.{length-map}
use Rattle.std.specs.Arc.{arc_value}
use Rattle.std.specs.Prelude.{option_map}
use Rattle.vpg_measure.specs.Orders.{HarvestView}
use Rattle.vpg_desk.specs.Book.{Harvest}
use Rattle.vpg_desk.specs.Commit.{handed_in}
use Rattle.vpg_script.specs.Script as script
use Rattle.vpg_engine.specs.Held.{Held}
use Rattle.vpg_engine.specs.EngineFields.{engine_in, harvests_of, AreOwnHarvests}
use Rattle.vpg_engine.proofs.Asked.{on_view_by, unswept}
use Rattle.vpg_engine.proofs.Committing.{own_more, own_of_order, seen_more}
use Rattle.vpg_engine.proofs.Settling.{harvest_answers}
use Rattle.vpg_engine.proofs.engine.Engine.harvest.Goals as goal

pub invariant_of-self-2 : goal.invariant_of-self-2
invariant_of-self-2 g c =
    let e = c.self.inside in
    let is = c.self.invariant in
    let harvest = c.swept-harvest.result.harvest in
    let page = c.swept-harvest.ensures.swept.page in
    let own = own_of_order (arc_value e.game) (arc_value e.diagram) c.in-Ok.order harvest (c.in-Ok.ensures.ours.0 ∙ sym is.game) (c.in-Ok.ensures.ours.1 ∙ sym is.diagram) c.in-Ok.ensures.order page.game page.diagram page.decisions in
    let kept = c.push_reserved.ensures.items ∙ ap (λ (hs : List (Option HarvestView)). hs ++ Some harvest ∷ []) c.reserve.ensures.items in
    record {
      room_is = is.room_is;
      game = is.game ∙ sym c.order.ensures.game;
      diagram = is.diagram ∙ sym c.order.ensures.diagram;
      features = is.features;
      harvests = subst (λ (hs : List (Option HarvestView)). AreOwnHarvests (arc_value e.game) (arc_value e.diagram) hs) (sym kept) (own_more (arc_value e.game) (arc_value e.diagram) e.harvests.items harvest is.harvests own);
    }

pub returns-in-Err-clause-answer : goal.returns-in-Err-clause-answer
returns-in-Err-clause-answer g c =
    let e = c.self.inside in
    let old = engine_in e.client e.undos.items e.redos.items e.harvests.items e.seen.items in
    let holds : List (Option Harvest) → Held = λ hs. record { undos = old.held.undos; redos = old.held.redos; harvests = hs; seen = old.held.seen } in
    on_view_by c.put_fault.result _ old _ _ _ _ _ _ c.self.view_is
    (λ tone told. unswept g.L.Terms.limit c.self.invariant.room_is c.args.session old _ c.args.lifters script.Harvest c.in-Err.fault c.names.result.now c.args.out.now.items _ refl (λ setting held. tt) c.in-Err.ensures.fault (ap holds (ap harvests_of c.reserve.ensures.items)) told) c.put_fault.ensures.told

pub returns-clause-answer : goal.returns-clause-answer
returns-clause-answer g c =
    let e = c.self.inside in
    let old = engine_in e.client e.undos.items e.redos.items e.harvests.items e.seen.items in
    let harvest = c.swept-harvest.result.harvest in
    let kept = c.push_reserved.ensures.items ∙ ap (λ (hs : List (Option HarvestView)). hs ++ Some harvest ∷ []) c.reserve.ensures.items in
    let holds : List (Option Harvest) → Held = λ hs. record { undos = old.held.undos; redos = old.held.redos; harvests = hs; seen = old.held.seen } in
    let counted : c.len.result ≡ length old.held.harvests + 1 =
    omega (arith, c.len.ensures, c.push_reserved.ensures.len, c.reserve.ensures.len, e.harvests.ok.0, length-map e.harvests.items (λ (h : Option HarvestView). option_map (handed_in true) h)) in
    on_view_by c.numbered.result _ old _ _ _ _ _ _ c.self.view_is
    (λ tone told. harvest_answers g.L.Terms.limit c.self.invariant.room_is c.args.session old _ c.order.new.self c.args.lifters c.swept-harvest.result.sweeps c.in-Ok.order harvest c.args.out.now.items _
    c.in-Ok.ensures.accepted c.in-Ok.ensures.ours c.in-Ok.ensures.order c.len.result c.swept-harvest.ensures.swept c.swept-harvest.ensures.few c.swept-harvest.ensures.made c.swept-harvest.ensures.none refl
    (ap holds (ap harvests_of kept ∙ seen_more e.harvests.items harvest)) counted told) c.numbered.ensures.told
