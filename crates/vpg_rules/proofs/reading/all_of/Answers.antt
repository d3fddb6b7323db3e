use Rattle.std.proofs.Common.{◌∙◌, arith}
use Rattle.vpg_rules.specs.Constraint.{all}
use Rattle.vpg_rules.proofs.Views.{constraint_of-all, not_alone}
use Rattle.vpg_rules.proofs.reading.all_of.Goals as goal

pub returns-then-len-ne1 : goal.returns-then-len-ne1
returns-then-len-ne1 c = constraint_of-all c.args.parts ∙ not_alone all c.args.parts.items (λ one. c.if-len-ne1.true (omega (arith, c.len.ensures, c.args.parts.ok.0, one)))
