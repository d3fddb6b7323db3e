use Rattle.vpg_tree.proofs.ReadBack as back
use Rattle.vpg_tree.proofs.laws.written_rules_read_back.Goals as goal

pub returns : goal.returns
returns c names d are below joins few = back.written_back names are d below joins few
