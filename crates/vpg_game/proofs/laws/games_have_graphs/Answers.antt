use Rattle.vpg_game.proofs.Graphs as graphs
use Rattle.vpg_game.proofs.laws.games_have_graphs.Goals as goal

pub returns : goal.returns
returns c = graphs.games_have_graphs
