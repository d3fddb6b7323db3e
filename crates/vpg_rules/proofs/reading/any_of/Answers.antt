use Rattle.std.proofs.Common.{◌∙◌, arith}
use Rattle.vpg_rules.specs.Constraint.{any}
use Rattle.vpg_rules.proofs.Views.{constraint_of-any, not_alone}
use Rattle.vpg_rules.proofs.reading.any_of.Goals as goal

pub returns-then-len-ne1 : goal.returns-then-len-ne1
returns-then-len-ne1 c = constraint_of-any c.args.parts ∙ not_alone any c.args.parts.items (λ one. c.if-len-ne1.true (omega (arith, c.len.ensures, c.args.parts.ok.0, one)))
