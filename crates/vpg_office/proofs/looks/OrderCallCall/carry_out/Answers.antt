use Rattle.std.proofs.Common.{length, None, refl, sym, ◌∙◌}
use Rattle.vpg_game.specs.Game.{graph_of}
use Rattle.vpg_trail.specs.Page.{Hopeful, Dual, table_of}
use Rattle.vpg_desk.specs.Book as book
use Rattle.vpg_office.proofs.looks.OrderCallCall.carry_out.Goals as goal

pub returns-in-Ok-clause-made : goal.returns-in-Ok-clause-made
returns-in-Ok-clause-made g c = record { step = record { step = ((None, (refl, refl)), refl); game = refl; diagram = refl }; hands = tt; named = tt }

pub returns-in-Ok-clause-replies : goal.returns-in-Ok-clause-replies
returns-in-Ok-clause-replies g c = λ front.
    let of = c.requires.of in
    let is = c.in-Ok.ensures in
    let page = c.args.desk.now.book.present in
    let hopeful = is.hopeful ∙ (λ k. table_of Hopeful page (length (graph_of (of.0 k)))) in
    let dual = is.dual ∙ (λ k. table_of Dual page (length (graph_of (of.0 k)))) in
    λ k. book.Ordered ((sym is.decisions) k) ((sym hopeful) k) ((sym dual) k)

pub returns-in-Ok-clause-gives : goal.returns-in-Ok-clause-gives
returns-in-Ok-clause-gives g c = λ front last.
    let of = c.requires.of in
    let is = c.in-Ok.ensures in
    ((is.game ∙ of.0, is.diagram ∙ of.1), c.game.ensures.order)
