use Rattle.vpg_winners.proofs.trying.outlook_of.Goals as goal

pub look_once-requires-clause-games : goal.look_once-requires-clause-games
look_once-requires-clause-games c = rw c.in-Some.is at c.in_ok-games.ensures.games
