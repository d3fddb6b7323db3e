use Rattle.vpg_game.proofs.Named as named
use Rattle.vpg_game.proofs.laws.edges_hold_as_named.Goals as goal

pub returns : goal.returns
returns c = named.edges_hold_as_named
