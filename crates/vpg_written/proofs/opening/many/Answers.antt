use Rattle.std.proofs.Common.{refl}
use Rattle.vpg_requirement.specs.NormalForms.{variable}
use Rattle.vpg_written.specs.Trees.{along}
use Rattle.vpg_written.proofs.opening.many.Goals as goal

pub returns : goal.returns
returns c = λ g t f h. (along g.names c.args.is_every t (variable 0), (t, h, refl), refl)
