use Rattle.std.proofs.Common.{sym, ap}
use Rattle.std.specs.Arc.{arc_value}
use Rattle.vpg_texts.specs.Scene.{Scene, scene_of}
use Rattle.vpg_looks.specs.Meanings.{sight_of}
use Rattle.vpg_answers.specs.Told.{TellsOfFeature}
use Rattle.vpg_answers.specs.Topics.{OfPage, OfVertices, OfClaims, OfFeature, topic_shown}
use Rattle.vpg_answers.proofs.Told.{gives_here, lines_here, told_as}
use Rattle.vpg_answers.proofs.looking.look.Goals as goal

pub returns-in-OfPage : goal.returns-in-OfPage
returns-in-OfPage c = λ behaviour.
    let page = c.args.page.now in
    let game = arc_value c.args.game.now in
    let diagram = arc_value c.args.diagram.now in
    told_as (scene_of c.args.labels.now.names game diagram) (sight_of page) c.requires.games.is_diagram.diagram c.requires.named behaviour c.args.limits c.of_page.result (OfPage c.in-OfPage.look) (topic_shown c.args.topic.now) (ap topic_shown (sym c.in-OfPage.is))
    c.args.out.now.items _ c.of_page.ensures

pub returns-in-OfVertices : goal.returns-in-OfVertices
returns-in-OfVertices c = λ behaviour.
    let page = c.args.page.now in
    let game = arc_value c.args.game.now in
    let diagram = arc_value c.args.diagram.now in
    told_as (scene_of c.args.labels.now.names game diagram) (sight_of page) c.requires.games.is_diagram.diagram c.requires.named behaviour c.args.limits c.done.result (OfVertices c.in-OfVertices.vertices.items) (topic_shown c.args.topic.now) (ap topic_shown (sym c.in-OfVertices.is))
    c.args.out.now.items _
    (lines_here c.args.labels.now.names game _ diagram page.decisions page.hopeful page.dual (arc_value c.args.games.now) _ (c.deref-in-OfVertices.ensures) c.deref.ensures c.requires.games c.vertices_over.result c.done.result c.done.ensures c.args.out.now.items c.vertices_over.new.out.items _ c.in-OfVertices.vertices.items c.deref-in-OfVertices-2.ensures.value
    c.vertices_over.ensures.lines)

pub returns-in-OfClaims : goal.returns-in-OfClaims
returns-in-OfClaims c = λ behaviour.
    let page = c.args.page.now in
    let game = arc_value c.args.game.now in
    let diagram = arc_value c.args.diagram.now in
    told_as (scene_of c.args.labels.now.names game diagram) (sight_of page) c.requires.games.is_diagram.diagram c.requires.named behaviour c.args.limits c.claimed.result (OfClaims c.in-OfClaims.vertex c.in-OfClaims.claimed.items) (topic_shown c.args.topic.now) (ap topic_shown (sym c.in-OfClaims.is))
    c.args.out.now.items _
    (rw c.deref-in-OfClaims.ensures.value at (c.claimed.ensures c.args.labels.now.names))

pub returns-in-OfFeature : goal.returns-in-OfFeature
returns-in-OfFeature c = λ behaviour.
    let page = c.args.page.now in
    let game = arc_value c.args.game.now in
    let diagram = arc_value c.args.diagram.now in
    told_as (scene_of c.args.labels.now.names game diagram) (sight_of page) c.requires.games.is_diagram.diagram c.requires.named behaviour c.args.limits c.of_feature.result (OfFeature c.in-OfFeature.look c.in-OfFeature.feature) (topic_shown c.args.topic.now) (ap topic_shown (sym c.in-OfFeature.is))
    c.args.out.now.items _
    (gives_here c.args.labels.now.names game _ diagram _ c.deref-in-OfFeature-2.ensures c.deref-in-OfFeature-3.ensures c.args.out.now.items c.of_feature.new.out.items (λ (scene : Scene). TellsOfFeature scene c.args.limits c.in-OfFeature.look c.in-OfFeature.feature (sight_of page)) c.of_feature.result (c.of_feature.ensures c.args.labels.now.names c.args.limits))

pub of_page-requires-clause-page : goal.of_page-requires-clause-page
of_page-requires-clause-page c = rw c.in-OfPage.is at c.requires.page

pub vertices_over-requires-clause-vertices : goal.vertices_over-requires-clause-vertices
vertices_over-requires-clause-vertices c =
    rw (c.deref-in-OfVertices.ensures, c.deref-in-OfVertices-2.ensures.value) (rw c.in-OfVertices.is at c.requires.within)

pub claimed-requires-clause-vertex : goal.claimed-requires-clause-vertex
claimed-requires-clause-vertex c = rw c.in-OfClaims.is at c.requires.within

pub of_feature-requires-clause-page : goal.of_feature-requires-clause-page
of_feature-requires-clause-page c = rw c.in-OfFeature.is at c.requires.page

pub of_feature-requires-clause-feature : goal.of_feature-requires-clause-feature
of_feature-requires-clause-feature c = rw c.deref-in-OfFeature-3.ensures (rw c.in-OfFeature.is at c.requires.within)
