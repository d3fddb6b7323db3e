use Rattle.std.proofs.Common.{ap, ◌∙◌, List, ℕ, length}
use Rattle.vpg_texts.proofs.Shown.{named_below, shows}
use Rattle.vpg_texts.proofs.showing.page.shown.Goals as goal

pub page-requires-clause-decisions : goal.page-requires-clause-decisions
page-requires-clause-decisions c =
    named_below c.args.diagram.now.lines (length c.names.result.now) c.args.decisions.now c.requires.named (ap (λ (names : List (List ℕ)). length names) c.names.ensures.names ∙ c.names.ensures.diagram.each_named)

pub returns : goal.returns
returns c =
    shows c.args.game.now c.args.diagram.now c.args.decisions.now c.args.games.now c.requires.games c.is_full-full.result c.is_settled-settled.result c.args.hopeful.now c.args.dual.now
    c.new-text.result.items c.page.new.out.items c.names.result.now c.args.labels.now.names c.names.ensures.names c.new-text.ensures.items
    (rw c.known.ensures at c.is_full-full.ensures.known) c.is_settled-settled.ensures c.in_ok-page.ensures
