use Rattle.vpg_uvl.proofs.Chains.{chain_is}
use Rattle.vpg_uvl.proofs.laws.chains_group_to_the_left.Goals as goal

pub returns : goal.returns
returns c = chain_is
