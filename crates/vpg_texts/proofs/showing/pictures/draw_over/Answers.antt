use Rattle.std.proofs.Common.{refl, List, ◌<◌, sym, ◌∙◌, subst, ℕ, length, ap}
use Rattle.std.specs.Prelude.{All}
use Rattle.vpg_partial.specs.declared.decision.Decision.{Decision}
use Rattle.vpg_texts.proofs.Pictured.{draws, verdict_each}
use Rattle.vpg_texts.proofs.Shown.{named_below}
use Rattle.vpg_guards.specs.declared.tri.Tri.{Tri}
use Rattle.vpg_texts.proofs.showing.pictures.draw_over.Goals as goal

pub draw_game-requires-clause-decisions : goal.draw_game-requires-clause-decisions
draw_game-requires-clause-decisions c =
    subst (λ (ds : List Decision). All (λ d. d.feature < c.args.game.now.features) ds) (sym c.as_slice.ensures)
    (named_below c.args.diagram.now.lines c.args.game.now.features c.args.page.now.decisions c.requires.named c.requires.features)

pub draw_game-requires-clause-verdicts : goal.draw_game-requires-clause-verdicts
draw_game-requires-clause-verdicts c =
    verdict_each c.args.game.now c.args.page.now.hopeful c.args.page.now.dual c.deref.result.now (c.deref.ensures.value ∙ c.in_ok-verdicts.ensures)

pub returns-clause-drawn : goal.returns-clause-drawn
returns-clause-drawn c =
    let page = c.args.page.now in
    draws c.args.labels.now.names c.args.game.now c.args.diagram.now page.decisions c.args.games.now c.requires.games c.requires.features page.hopeful page.dual
    c.draw_game.result c.args.out.now.items c.draw_game.new.out.items c.names.result.now c.known.result.now c.as_slice.result.now c.args.labels.now.names c.deref.result.now
    c.names.ensures.names c.known.ensures c.as_slice.ensures refl (c.deref.ensures.value ∙ c.in_ok-verdicts.ensures) c.draw_game.ensures.drawn

pub draw_game-requires-clause-features : goal.draw_game-requires-clause-features
draw_game-requires-clause-features c = ap (λ (names : List (List ℕ)). length names) c.names.ensures.names ∙ c.names.ensures.diagram.each_named ∙ sym c.requires.features

pub draw_game-requires-clause-known : goal.draw_game-requires-clause-known
draw_game-requires-clause-known c = ap (λ (known : List Tri). length known) c.known.ensures ∙ c.requires.games.known.length_is ∙ sym c.requires.features
