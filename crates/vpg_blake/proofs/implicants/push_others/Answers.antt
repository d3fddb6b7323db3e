use Rattle.std.proofs.Common.{List, ◌++◌, sym, ap, ◌∙◌}
use Rattle.std.specs.Global.{Vec}
use Rattle.vpg_blake.specs.Blake.{cubes_in, unshared, with_literal}
use Rattle.vpg_blake.specs.declared.literal.Literal.{Literal}
use Rattle.vpg_blake.proofs.Steps.{others_step}
use Rattle.vpg_blake.proofs.implicants.push_others.Goals as goal

pub loop-cube-preserved : goal.loop-cube-preserved
loop-cube-preserved c =
    let l = c.loop-cube in
    others_step c.args.literal (cubes_in c.args.shared.now) (cubes_in l.out.items) _ c.in-Some.cube.items (cubes_in c.next.new.self.rest.items) c.in_ok-push_other.ensures
    ∙ ap (λ (vs : List (Vec Literal)). cubes_in l.out.items ++ with_literal c.args.literal (unshared (cubes_in vs) (cubes_in c.args.shared.now))) (sym c.in-Some.ensures.steps.0)
    ∙ l.invariant
