use Rattle.std.proofs.Common.{refl}
use Rattle.vpg_engine.proofs.Logged.{unless_stray_any}
use Rattle.vpg_engine.proofs.held.return_harvest.Goals as goal

pub returns-then-not-matches-clause-back : goal.returns-then-not-matches-clause-back
returns-then-not-matches-clause-back c = unless_stray_any c.args.fault.now _ refl
