use Rattle.std.proofs.Common.{sym, ap, ◌∙◌, arith}
use Rattle.vpg_guards.specs.Formula.{all}
use Rattle.vpg_guards.proofs.Views.{formula_of-parts_all}
use Rattle.vpg_blake.proofs.Steps.{several_all}
use Rattle.vpg_blake.proofs.making.all_of.Goals as goal

pub returns-then-len-gt1 : goal.returns-then-len-gt1
returns-then-len-gt1 c = formula_of-parts_all c.new.result ∙ ap all c.new.ensures ∙ sym (several_all c.args.parts.items (omega arith))
