use Rattle.std.proofs.Common.{[], List, ℕ, ◌≡◌, refl}
use Rattle.std.specs.Arc.{arc_value}
use Rattle.vpg_script.specs.Answer.{Answer}
use Rattle.vpg_texts.specs.Picture.{IsDrawn}
use Rattle.vpg_texts.specs.Scene.{Scene, IsShown, TellsKnown, scene_of}
use Rattle.vpg_texts.specs.Sights.{IsFullAnswer, IsPlanAnswer, IsSettledAnswer}
use Rattle.vpg_texts.specs.Text.{trail_text}
use Rattle.vpg_texts.proofs.Shown.{on_ok}
use Rattle.vpg_looks.proofs.Told.{told_done}
use Rattle.vpg_answers.proofs.Told.{done_here, gives_here, products_here}
use Rattle.vpg_answers.proofs.looking.of_page.Goals as goal

pub returns-in-Show : goal.returns-in-Show
returns-in-Show c =
    let page = c.args.page.now in
    let labels = c.args.labels.now.names in
    let game = arc_value c.args.game.now in
    let diagram = arc_value c.args.diagram.now in
    rw c.in-Show.is
    (done_here labels game _ diagram _ c.deref-in-Show.ensures c.deref-in-Show-2.ensures c.args.out.now.items c.show.new.out.items (λ (scene : Scene) (text : List ℕ). IsShown scene page.decisions page.hopeful page.dual text) c.show.result c.done.result c.done.ensures
    c.show.ensures.shown)

pub returns-in-Trail : goal.returns-in-Trail
returns-in-Trail c =
    let page = c.args.page.now in
    let labels = c.args.labels.now.names in
    let game = arc_value c.args.game.now in
    let diagram = arc_value c.args.diagram.now in
    rw c.in-Trail.is
    (done_here labels game _ diagram _ c.deref-in-Trail.ensures c.deref-in-Trail-2.ensures c.args.out.now.items c.trail.new.out.items (λ (scene : Scene) (text : List ℕ). text ≡ trail_text scene.names scene.identifiers scene.labels page.entries) c.trail.result c.done-in-Trail.result c.done-in-Trail.ensures
    (on_ok c.trail.result _ _ (λ items. (_, (refl, items))) c.trail.ensures.trail))

pub returns-in-Products : goal.returns-in-Products
returns-in-Products c =
    let page = c.args.page.now in
    let labels = c.args.labels.now.names in
    let game = arc_value c.args.game.now in
    let diagram = arc_value c.args.diagram.now in
    rw c.in-Products.is
    (told_done (TellsKnown (scene_of labels game diagram) page.decisions) c.products.result c.done-in-Products.result c.done-in-Products.ensures c.args.out.now.items c.products.new.out.items
    (products_here labels game diagram _ page.decisions (arc_value c.args.games.now) _ c.deref-in-Products-2.ensures c.deref-in-Products.ensures c.requires.games c.products.result c.args.out.now.items c.products.new.out.items c.products.ensures.products))

pub returns-in-Plan : goal.returns-in-Plan
returns-in-Plan c =
    let page = c.args.page.now in
    let labels = c.args.labels.now.names in
    let game = arc_value c.args.game.now in
    let diagram = arc_value c.args.diagram.now in
    rw c.in-Plan.is
    (gives_here labels game _ diagram _ c.deref-in-Plan-2.ensures c.deref-in-Plan-3.ensures c.args.out.now.items c.plan_answer.new.out.items (λ (scene : Scene) (answer : Answer). IsPlanAnswer scene page.decisions page.hopeful page.dual answer) c.plan_answer.result c.plan_answer.ensures.planned)

pub returns-in-Count : goal.returns-in-Count
returns-in-Count c = rw c.in-Count.is (c.counted.ensures c.args.labels.now.names)

pub returns-in-Draw : goal.returns-in-Draw
returns-in-Draw c =
    let page = c.args.page.now in
    let labels = c.args.labels.now.names in
    let game = arc_value c.args.game.now in
    let diagram = arc_value c.args.diagram.now in
    rw c.in-Draw.is
    (done_here labels game _ diagram _ c.deref-in-Draw-2.ensures c.deref-in-Draw-3.ensures c.args.out.now.items c.draw_over.new.out.items (λ (scene : Scene) (text : List ℕ). IsDrawn scene page.decisions page.hopeful page.dual text) c.draw_over.result c.done-in-Draw.result c.done-in-Draw.ensures
    c.draw_over.ensures.drawn)

pub returns-in-Full : goal.returns-in-Full
returns-in-Full c =
    let page = c.args.page.now in
    let labels = c.args.labels.now.names in
    let game = arc_value c.args.game.now in
    let diagram = arc_value c.args.diagram.now in
    rw c.in-Full.is
    (gives_here [] game _ diagram _ c.deref-in-Full-2.ensures c.deref-in-Full-3.ensures c.args.out.now.items c.full_over.new.out.items (λ (scene : Scene) (answer : Answer). IsFullAnswer scene page.decisions page.hopeful page.dual answer) c.full_over.result c.full_over.ensures.full)

pub returns-in-Settled : goal.returns-in-Settled
returns-in-Settled c =
    let page = c.args.page.now in
    let labels = c.args.labels.now.names in
    let game = arc_value c.args.game.now in
    let diagram = arc_value c.args.diagram.now in
    rw c.in-Settled.is
    (gives_here [] game _ diagram _ c.deref-in-Settled-2.ensures c.deref-in-Settled-3.ensures c.args.out.now.items c.settled_over.new.out.items (λ (scene : Scene) (answer : Answer). IsSettledAnswer scene page.decisions page.hopeful page.dual answer) c.settled_over.result c.settled_over.ensures.settled)
