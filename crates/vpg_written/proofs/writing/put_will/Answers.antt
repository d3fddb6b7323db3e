use Rattle.std.proofs.Common.{[], ◌∷◌, refl}
use Rattle.vpg_requirement.specs.NormalForms.{fixpoint}
use Rattle.vpg_parts.specs.Sets.{actions_at}
use Rattle.vpg_written.specs.Shapes.{kind_for, coming}
use Rattle.vpg_written.proofs.writing.put_will.Goals as goal

pub returns : goal.returns
returns c = λ g fs rest. let body = coming c.args.sign (actions_at g.actions c.args.set) in
    (fixpoint (kind_for c.args.sign) 0 body, fs, body ∷ [], refl, c.fixpoint.ensures g body, c.in_ok-put_coming.ensures g fs rest)
