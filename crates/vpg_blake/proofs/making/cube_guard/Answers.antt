use Rattle.std.proofs.Common.{List, ap, ◌∙◌, arith}
use Rattle.vpg_guards.specs.Grammar.{joined}
use Rattle.vpg_guards.specs.View.{formulas_of}
use Rattle.vpg_guards.specs.declared.guard.Guard.{Guard}
use Rattle.vpg_blake.specs.Blake.{literal_parts, and_of}
use Rattle.vpg_blake.proofs.Steps.{literal_step, literals_done}
use Rattle.vpg_blake.proofs.making.cube_guard.Goals as goal

pub loop-literal-init : goal.loop-literal-init
loop-literal-init c = ap (λ (gs : List Guard). joined (formulas_of gs) (literal_parts c.args.cube.now)) c.in_ok-parts.ensures.items

pub loop-literal-preserved : goal.loop-literal-preserved
loop-literal-preserved c =
    let l = c.loop-literal in
    literal_step l.parts.items _ c.in_ok-literal_guard.field-0 c.args.cube.now l.literal-index _ (omega arith)
    c.in_ok-push.ensures.items c.in_ok-literal_guard.ensures
    ∙ l.invariant

pub returns : goal.returns
returns c =
    let l = c.loop-literal in
    c.all_of.ensures ∙ ap and_of (literals_done l.parts.items c.args.cube.now l.literal-index (literal_parts c.args.cube.now) (omega arith) l.invariant)
