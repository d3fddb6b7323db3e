use Rattle.std.proofs.Common.{List, ap, ◌∙◌, arith}
use Rattle.vpg_guards.specs.Grammar.{joined}
use Rattle.vpg_guards.specs.View.{formulas_of}
use Rattle.vpg_guards.specs.declared.guard.Guard.{Guard}
use Rattle.vpg_blake.specs.Blake.{cube_formula, cube_parts, cubes_in, or_of}
use Rattle.vpg_blake.proofs.Steps.{cube_step, cubes_done}
use Rattle.vpg_blake.proofs.making.disjunction.Goals as goal

pub loop-cube-init : goal.loop-cube-init
loop-cube-init c = ap (λ (gs : List Guard). joined (formulas_of gs) (cube_parts (cubes_in c.args.cubes.now))) c.in_ok-parts.ensures.items

pub loop-cube-preserved : goal.loop-cube-preserved
loop-cube-preserved c =
    let l = c.loop-cube in
    cube_step l.parts.items _ c.in_ok-cube_guard.field-0 c.args.cubes.now l.cube-index c.cube-item.result (omega arith) c.cube-item.is
    c.in_ok-push.ensures.items (c.in_ok-cube_guard.ensures ∙ ap cube_formula c.deref.ensures.value)
    ∙ l.invariant

pub returns : goal.returns
returns c =
    let l = c.loop-cube in
    c.any_of.ensures ∙ ap or_of (cubes_done l.parts.items c.args.cubes.now l.cube-index (cube_parts (cubes_in c.args.cubes.now)) (omega arith) l.invariant)
