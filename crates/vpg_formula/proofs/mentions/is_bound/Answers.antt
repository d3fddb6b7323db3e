use Rattle.vpg_formula.proofs.NamingCode.{bound_reversed}
use Rattle.vpg_formula.proofs.mentions.is_bound.Goals as goal

pub loop-part-init : goal.loop-part-init
loop-part-init c = bound_reversed c.args.around.now c.args.name.now
