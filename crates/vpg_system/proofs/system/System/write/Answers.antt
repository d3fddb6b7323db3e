use Rattle.vpg_system.proofs.Written.{system_again}
use Rattle.vpg_system.proofs.system.System.write.Goals as goal

pub returns-clause-reads_back : goal.returns-clause-reads_back
returns-clause-reads_back c =
    system_again c.args.features.now c.args.self.now c.len-count.ensures.names c.requires c.transitions.ensures.system
