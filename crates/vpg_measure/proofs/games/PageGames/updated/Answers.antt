use Rattle.std.proofs.Common.{sym, subst, arith, map, ◌∙◌}
use Rattle.std.proofs.lemmas.Grind.{common_steps}
use Rattle.vpg_sides.specs.declared.which.Which.TheVariants.{Hopeful, Dual}
use Rattle.vpg_measure.specs.Games.{GamesView, AreGamesOf}
use Rattle.vpg_measure.specs.GamesFields.{games_of}
use Rattle.vpg_partial.specs.Known.{literal_of}
use Rattle.vpg_measure.proofs.SideGames.{page_games}
use Rattle.vpg_measure.proofs.games.PageGames.updated.Goals as goal

pub both_updated-requires-clause-held : goal.both_updated-requires-clause-held
both_updated-requires-clause-held c =
    let are : AreGamesOf c.args.game.now c.args.diagram.now (games_of c.self.inside) = subst (λ (g : GamesView). AreGamesOf c.args.game.now c.args.diagram.now g) (sym c.self.view_is) c.requires.held in
    are.1.arena Hopeful

pub both_updated-requires-clause-dual_held : goal.both_updated-requires-clause-dual_held
both_updated-requires-clause-dual_held c =
    let are : AreGamesOf c.args.game.now c.args.diagram.now (games_of c.self.inside) = subst (λ (g : GamesView). AreGamesOf c.args.game.now c.args.diagram.now g) (sym c.self.view_is) c.requires.held in
    are.1.arena Dual

pub returns-clause-games : goal.returns-clause-games
returns-clause-games c =
    let are : AreGamesOf c.args.game.now c.args.diagram.now (games_of c.self.inside) = subst (λ (g : GamesView). AreGamesOf c.args.game.now c.args.diagram.now g) (sym c.self.view_is) c.requires.held in
    page_games c.args.game.now c.args.diagram.now (map literal_of c.args.decisions.now) c.in_ok-known.known
    (record { shape = c.in_ok-copy.field-0; arena = c.in_ok-kept.kept }) (record { shape = c.in_ok-copy-2.field-0; arena = c.in_ok-kept.kept_of_dual })
    are.1.is_game are.1.not_at_limit are.1.is_diagram c.in_ok-known.ensures.known
    (record { shape = c.in_ok-copy.ensures ∙ are.1.levels Hopeful; arena = c.in_ok-kept.ensures.hopeful })
    (record { shape = c.in_ok-copy-2.ensures ∙ are.1.levels Dual; arena = c.in_ok-kept.ensures.dual })

pub returns-clause-at_limit : goal.returns-clause-at_limit
returns-clause-at_limit c = grind (arith, common_steps)

pub returns-clause-conflict : goal.returns-clause-conflict
returns-clause-conflict c = grind (arith, common_steps)

pub both_updated-requires-clause-before : goal.both_updated-requires-clause-before
both_updated-requires-clause-before c = grind (arith, common_steps)

pub returns-in_err-known-clause-conflict : goal.returns-in_err-known-clause-conflict
returns-in_err-known-clause-conflict c = grind (arith, common_steps)

pub returns-in_err-copy-2-clause-at_limit : goal.returns-in_err-copy-2-clause-at_limit
returns-in_err-copy-2-clause-at_limit c = grind (arith, common_steps)

pub returns-in_err-copy-2-clause-conflict : goal.returns-in_err-copy-2-clause-conflict
returns-in_err-copy-2-clause-conflict c = grind (arith, common_steps)

pub returns-in_err-copy-clause-at_limit : goal.returns-in_err-copy-clause-at_limit
returns-in_err-copy-clause-at_limit c = grind (arith, common_steps)

pub returns-in_err-copy-clause-conflict : goal.returns-in_err-copy-clause-conflict
returns-in_err-copy-clause-conflict c = grind (arith, common_steps)

pub both_updated-requires-clause-known : goal.both_updated-requires-clause-known
both_updated-requires-clause-known c = grind (arith, common_steps)
