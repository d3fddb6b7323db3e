use Rattle.vpg_zielonka.proofs.Blocks.{players_push}
use Rattle.vpg_zielonka.proofs.each.push_players.Goals as goal

pub loop-place-preserved : goal.loop-place-preserved
loop-place-preserved c = players_push c.args.found.now.items c.loop-place.found.items _ c.args.word
    c.loop-place.place c.winner_by.result c.in_ok-push.ensures.items c.winner_by.ensures c.loop-place.invariant
