use Rattle.vpg_game.proofs.Graphs as graphs
use Rattle.vpg_game.proofs.laws.graphs_agree.Goals as goal

pub returns : goal.returns
returns c = graphs.graphs_agree
