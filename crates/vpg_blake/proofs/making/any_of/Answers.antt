use Rattle.std.proofs.Common.{sym, ap, ◌∙◌, arith}
use Rattle.vpg_guards.specs.Formula.{any}
use Rattle.vpg_guards.proofs.Views.{formula_of-parts_any}
use Rattle.vpg_blake.proofs.Steps.{several_any}
use Rattle.vpg_blake.proofs.making.any_of.Goals as goal

pub returns-then-len-gt1 : goal.returns-then-len-gt1
returns-then-len-gt1 c = formula_of-parts_any c.new.result ∙ ap any c.new.ensures ∙ sym (several_any c.args.parts.items (omega arith))
