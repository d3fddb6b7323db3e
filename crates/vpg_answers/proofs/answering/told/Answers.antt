use Rattle.std.proofs.Common.{sym, ap}
use Rattle.vpg_texts.specs.Scene.{scene_of}
use Rattle.vpg_looks.specs.Meanings.{ordered_sight}
use Rattle.vpg_answers.specs.Topics.{OfPage, OfVertex, OfFeature, OfChoice, topic_shown}
use Rattle.vpg_answers.proofs.Told.{told_as}
use Rattle.vpg_answers.proofs.answering.told.Goals as goal

pub returns-in-OfPage : goal.returns-in-OfPage
returns-in-OfPage c =
    let order = c.args.order.now in
    told_as (scene_of c.args.labels.now.names order.game order.diagram) (ordered_sight order.decisions order.hopeful order.dual)
    c.game-order.ensures.order.diagram.diagram c.game-order.ensures.order.named c.args.behaviour.now c.args.limits c.of_page.result (OfPage c.in-OfPage.look) (topic_shown c.args.topic.now) (ap topic_shown (sym c.in-OfPage.is))
    c.args.out.now.items c.of_page.new.out.items c.of_page.ensures

pub returns-in-OfVertex : goal.returns-in-OfVertex
returns-in-OfVertex c =
    let order = c.args.order.now in
    told_as (scene_of c.args.labels.now.names order.game order.diagram) (ordered_sight order.decisions order.hopeful order.dual)
    c.game-order.ensures.order.diagram.diagram c.game-order.ensures.order.named c.args.behaviour.now c.args.limits c.of_vertex.result (OfVertex c.in-OfVertex.look c.in-OfVertex.vertex) (topic_shown c.args.topic.now) (ap topic_shown (sym c.in-OfVertex.is))
    c.args.out.now.items c.of_vertex.new.out.items c.of_vertex.ensures

pub returns-in-OfFeature : goal.returns-in-OfFeature
returns-in-OfFeature c =
    let order = c.args.order.now in
    told_as (scene_of c.args.labels.now.names order.game order.diagram) (ordered_sight order.decisions order.hopeful order.dual)
    c.game-order.ensures.order.diagram.diagram c.game-order.ensures.order.named c.args.behaviour.now c.args.limits c.of_feature.result (OfFeature c.in-OfFeature.look c.in-OfFeature.feature) (topic_shown c.args.topic.now) (ap topic_shown (sym c.in-OfFeature.is))
    c.args.out.now.items c.of_feature.new.out.items (c.of_feature.ensures c.args.limits)

pub returns-in-OfChoice : goal.returns-in-OfChoice
returns-in-OfChoice c =
    let order = c.args.order.now in
    told_as (scene_of c.args.labels.now.names order.game order.diagram) (ordered_sight order.decisions order.hopeful order.dual)
    c.game-order.ensures.order.diagram.diagram c.game-order.ensures.order.named c.args.behaviour.now c.args.limits c.choice.result (OfChoice c.in-OfChoice.feature c.in-OfChoice.value) (topic_shown c.args.topic.now) (ap topic_shown (sym c.in-OfChoice.is))
    c.args.out.now.items c.choice.new.out.items c.choice.ensures

pub of_page-requires : goal.of_page-requires
of_page-requires c = rw c.in-OfPage.is at c.requires.order

pub of_vertex-requires-clause-vertex : goal.of_vertex-requires-clause-vertex
of_vertex-requires-clause-vertex c = rw c.in-OfVertex.is at c.requires.within

pub of_vertex-requires-clause-system : goal.of_vertex-requires-clause-system
of_vertex-requires-clause-system c = rw c.in-OfVertex.is at c.requires.system

pub of_feature-requires-clause-order : goal.of_feature-requires-clause-order
of_feature-requires-clause-order c = rw c.in-OfFeature.is at c.requires.order

pub of_feature-requires-clause-feature : goal.of_feature-requires-clause-feature
of_feature-requires-clause-feature c = rw c.in-OfFeature.is at c.requires.within

pub choice-requires : goal.choice-requires
choice-requires c = rw c.in-OfChoice.is at c.requires.within
