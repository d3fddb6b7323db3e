use Rattle.std.proofs.Common.{map, ap, true≢false, arith}
use Rattle.std.specs.Prelude.{is_ok}
use Rattle.std.proofs.lemmas.Grind.{common_steps}
use Rattle.vpg_partial.specs.Known.{literal_of}
use Rattle.vpg_measure.proofs.SideGames.{page_games}
use Rattle.vpg_measure.proofs.games.PageGames.under.Goals as goal

pub returns-clause-games : goal.returns-clause-games
returns-clause-games c =
    page_games c.args.game.now c.args.diagram.now (map literal_of c.args.decisions.now) c.in_ok-known.known c.in_ok-hopeful.hopeful c.in_ok-dual.dual
    c.vertices.ensures.game (λ at. true≢false (ap is_ok (c.in_ok-known.ensures.at_limit.1 at))) c.features.ensures.diagram c.in_ok-known.ensures.known c.in_ok-hopeful.ensures c.in_ok-dual.ensures

pub returns-clause-at_limit : goal.returns-clause-at_limit
returns-clause-at_limit c = grind (arith, common_steps)

pub returns-clause-conflict : goal.returns-clause-conflict
returns-clause-conflict c = grind (arith, common_steps)

pub returns-in_err-known-clause-conflict : goal.returns-in_err-known-clause-conflict
returns-in_err-known-clause-conflict c = grind (arith, common_steps)

pub of-requires-2 : goal.of-requires-2
of-requires-2 c = grind (arith, common_steps)
