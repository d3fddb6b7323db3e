use Rattle.vpg_formula.proofs.NamingCode.{one_deeper}
use Rattle.vpg_formula.proofs.mentions.pass.Goals as goal

pub returns-clause-depth : goal.returns-clause-depth
returns-clause-depth c = one_deeper c.args.spot.now.region c.behind-spot.result c.args.word.now c.behind-spot.ensures.region
