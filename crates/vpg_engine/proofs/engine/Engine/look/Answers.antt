use Rattle.std.proofs.Common.{◌≡◌, true, false, length, refl, sym, ◌∙◌, ap}
use Rattle.std.specs.Arc.{arc_value}
use Rattle.vpg_diagram.specs.FeatureDiagram.{feature_count}
use Rattle.vpg_office.specs.Made.{IsPage}
use Rattle.vpg_script.proofs.Given.{if_ok}
use Rattle.vpg_trail.specs.Page.{Hopeful, Dual}
use Rattle.vpg_faults.specs.Refusals.{never_refused}
use Rattle.vpg_script.specs.Script as script
use Rattle.vpg_script.specs.Script.{Request}
use Rattle.vpg_script.specs.View.{look_shown}
use Rattle.vpg_answers.specs.Topics.{IsWithin, TopicHasSystem, topic_shown}
use Rattle.vpg_answers.specs.declared.topic.Topic as code
use Rattle.vpg_engine.specs.Engine.{EngineState}
use Rattle.vpg_engine.specs.EngineFields.{engine_in}
use Rattle.vpg_engine.proofs.Looks.{found_missing, found_so, found_topic, look_refused, missing_answers, on_told_view, order_answers, page_answers, system_order, told_on_view, within_order, within_page}
use Rattle.vpg_engine.proofs.Paged.{choices_named, entries_are_within, page_games, table_length, table_within}
use Rattle.vpg_engine.proofs.engine.Engine.look.Goals as goal

-- ---- something is missing

pub returns-in-Err-clause-answer : goal.returns-in-Err-clause-answer
returns-in-Err-clause-answer g c =
    let now = c.args.self.now in
    let context = c.args.context.now in
    let is = found_missing c.in_ok-topic.field-0 c.in-Err.missing _ c.in-Err.is c.in_ok-topic.ensures.topic in
    let game = c.deref.ensures ∙ c.self.invariant.game ∙ ap (λ (s : EngineState). s.client.desk.game) c.self.view_is in
    let diagram = c.deref-2.ensures ∙ c.self.invariant.diagram ∙ ap (λ (s : EngineState). s.client.desk.diagram) c.self.view_is in
    if_ok c.put_missing.result _ _
    (λ tone told. missing_answers context.labels.names context.behaviour now c.args.session c.deref.result.now c.deref-2.result.now game diagram (look_shown c.args.what.now) c.in-Err.missing c.args.out.now.items _ is told) c.put_missing.ensures.told

-- ---- an order

pub answer-requires : goal.answer-requires
answer-requires g c =
    let order = c.in-Ok-order.order in
    let topic = topic_shown c.in-Ok.topic in
    let is_order = c.in-Ok-order.ensures.order in
    let game = c.deref.ensures ∙ c.self.invariant.game ∙ sym c.in-Ok-order.ensures.ours.0 in
    let diagram = c.deref-2.ensures ∙ c.self.invariant.diagram ∙ sym c.in-Ok-order.ensures.ours.1 in
    record {
      order = sym c.takes_order.ensures ∙ c.if-takes_order.true;
      within = within_order c.deref.result.now c.deref-2.result.now order topic is_order game diagram
          (found_so c.in_ok-topic.field-0 c.in-Ok.topic (λ (topic : code.Topic). IsWithin (length c.deref.result.now.vertices) (length c.deref-2.result.now.names) (topic_shown topic)) c.in-Ok.is c.in_ok-topic.ensures.within);
      system = system_order c.args.context.now.behaviour c.deref-2.result.now order topic is_order diagram
          (found_so c.in_ok-topic.field-0 c.in-Ok.topic (λ (topic : code.Topic). TopicHasSystem (length c.deref-2.result.now.names) c.args.context.now.behaviour (topic_shown topic)) c.in-Ok.is c.in_ok-topic.ensures.system);
    }

pub returns-in-Err-order-clause-answer : goal.returns-in-Err-order-clause-answer
returns-in-Err-order-clause-answer g c =
    let e = c.self.inside in
    let old = engine_in e.client e.undos.items e.redos.items e.harvests.items e.seen.items in
    let context = c.args.context.now in
    let asks : Request = record { label = c.args.session; command = script.Looks (look_shown c.args.what.now) } in
    let is = found_topic c.in_ok-topic.field-0 c.in-Ok.topic _ c.in-Ok.is c.in_ok-topic.ensures.topic in
    on_told_view context.labels.names context.behaviour c.put_fault.result _ old _ _ asks _ _ c.self.view_is
    (λ tone told. look_refused context.labels.names context.behaviour old c.args.session c.deref.result.now c.deref-2.result.now (c.deref.ensures ∙ c.self.invariant.game) (c.deref-2.ensures ∙ c.self.invariant.diagram) (look_shown c.args.what.now)
    g.L.Terms.limit c.self.invariant.room_is _ (topic_shown c.in-Ok.topic) c.args.out.now.items _ is never_refused true c.in-Err-order.fault c.names.result.now (sym c.takes_order.ensures ∙ c.if-takes_order.true) c.in-Err-order.ensures.fault refl c.names.ensures told) c.put_fault.ensures.told

pub returns-then-takes_order-clause-answer : goal.returns-then-takes_order-clause-answer
returns-then-takes_order-clause-answer g c =
    let e = c.self.inside in
    let old = engine_in e.client e.undos.items e.redos.items e.harvests.items e.seen.items in
    let context = c.args.context.now in
    let asks : Request = record { label = c.args.session; command = script.Looks (look_shown c.args.what.now) } in
    let is = found_topic c.in_ok-topic.field-0 c.in-Ok.topic _ c.in-Ok.is c.in_ok-topic.ensures.topic in
    told_on_view context.labels.names context.behaviour old _ _ asks _ _ c.self.view_is
    (order_answers context.labels.names context.behaviour old c.args.session c.deref.result.now c.deref-2.result.now (c.deref.ensures ∙ c.self.invariant.game) (c.deref-2.ensures ∙ c.self.invariant.diagram) (look_shown c.args.what.now)
    g.L.Terms.limit c.self.invariant.room_is _ (topic_shown c.in-Ok.topic) c.args.out.now.items _ is c.in-Ok-order.order (sym c.takes_order.ensures ∙ c.if-takes_order.true) c.in-Ok-order.ensures.accepted c.in-Ok-order.ensures.ours refl c.in_ok-tone.ensures)

-- ---- the page

pub look-requires : goal.look-requires
look-requires g c =
    let e = c.self.inside in
    let both = c.in-Ok-page_with_games.both in
    let page : IsPage (arc_value e.game) (arc_value e.diagram) e.client.desk.book both.0.entries both.0.decisions both.0.hopeful both.0.dual (arc_value both.1) =
    coe 0 1 (k. IsPage ((sym c.self.invariant.game) k) ((sym c.self.invariant.diagram) k) e.client.desk.book both.0.entries both.0.decisions both.0.hopeful both.0.dual (arc_value both.1)) c.in-Ok-page_with_games.ensures.shown in
    let each : length (arc_value e.diagram).names ≡ feature_count (arc_value e.diagram).lines = page.are_games.is_diagram.each_named in
    record {
      page = sym c.takes_order.ensures ∙ c.if-takes_order.false;
      within = within_page c.deref.result.now (arc_value e.game) c.deref-2.result.now (arc_value e.diagram) (topic_shown c.in-Ok.topic) c.deref.ensures c.deref-2.ensures each
          (found_so c.in_ok-topic.field-0 c.in-Ok.topic (λ (topic : code.Topic). IsWithin (length c.deref.result.now.vertices) (length c.deref-2.result.now.names) (topic_shown topic)) c.in-Ok.is c.in_ok-topic.ensures.within);
      features = c.self.invariant.features;
      games = page_games page;
      named = choices_named page;
      entries = entries_are_within page;
      hopeful = table_length page Hopeful both.0.hopeful page.hopeful_is;
      dual = table_length page Dual both.0.dual page.dual_is;
      hopeful_within = table_within page Hopeful both.0.hopeful page.hopeful_is;
      dual_within = table_within page Dual both.0.dual page.dual_is;
    }

pub returns-in-Err-page_with_games-clause-answer : goal.returns-in-Err-page_with_games-clause-answer
returns-in-Err-page_with_games-clause-answer g c =
    let e = c.self.inside in
    let old = engine_in e.client e.undos.items e.redos.items e.harvests.items e.seen.items in
    let context = c.args.context.now in
    let asks : Request = record { label = c.args.session; command = script.Looks (look_shown c.args.what.now) } in
    let is = found_topic c.in_ok-topic.field-0 c.in-Ok.topic _ c.in-Ok.is c.in_ok-topic.ensures.topic in
    on_told_view context.labels.names context.behaviour c.put_fault-in-Err-page_with_games.result _ old _ _ asks _ _ c.self.view_is
    (λ tone told. look_refused context.labels.names context.behaviour old c.args.session c.deref.result.now c.deref-2.result.now (c.deref.ensures ∙ c.self.invariant.game) (c.deref-2.ensures ∙ c.self.invariant.diagram) (look_shown c.args.what.now)
    g.L.Terms.limit c.self.invariant.room_is _ (topic_shown c.in-Ok.topic) c.args.out.now.items _ is never_refused false c.in-Err-page_with_games.fault c.names-in-Err-page_with_games.result.now (sym c.takes_order.ensures ∙ c.if-takes_order.false) c.in-Err-page_with_games.ensures.fault refl
    c.names-in-Err-page_with_games.ensures told) c.put_fault-in-Err-page_with_games.ensures.told

pub returns-clause-answer : goal.returns-clause-answer
returns-clause-answer g c =
    let e = c.self.inside in
    let old = engine_in e.client e.undos.items e.redos.items e.harvests.items e.seen.items in
    let context = c.args.context.now in
    let asks : Request = record { label = c.args.session; command = script.Looks (look_shown c.args.what.now) } in
    let both = c.in-Ok-page_with_games.both in
    let shown = c.in-Ok-page_with_games.ensures in
    let is = found_topic c.in_ok-topic.field-0 c.in-Ok.topic _ c.in-Ok.is c.in_ok-topic.ensures.topic in
    told_on_view context.labels.names context.behaviour old _ _ asks _ _ c.self.view_is
    (page_answers context.labels.names context.behaviour old c.args.session c.deref.result.now c.deref-2.result.now (c.deref.ensures ∙ c.self.invariant.game) (c.deref-2.ensures ∙ c.self.invariant.diagram) (look_shown c.args.what.now)
    g.L.Terms.limit c.self.invariant.room_is _ (topic_shown c.in-Ok.topic) c.args.out.now.items _ is (arc_value e.game) (arc_value e.diagram) c.self.invariant.game c.self.invariant.diagram e.client.desk.book both.0.entries both.0.decisions both.0.hopeful both.0.dual (arc_value both.1)
    shown.shown (sym c.takes_order.ensures ∙ c.if-takes_order.false) shown.accepted refl (c.in_ok-tone-2.ensures context.behaviour))
