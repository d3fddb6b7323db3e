use Rattle.std.proofs.lemmas.Grind.{common_steps}
use Rattle.std.proofs.Common.{rules, ◌≡◌, Bool, true, false, not, nat_eq, [], refl, sym, ◌∙◌, arith}
use Rattle.std.specs.Cmp.Lexicographic.{pointwise, same_text}
use Rattle.vpg_diagram.proofs.Lists.{take_same_more}
use Rattle.vpg_diagram.proofs.diagram.same_names.Goals as goal

not_other : (b r : Bool) → r ≡ not b → r ≡ false → true ≡ b
not_other true r e f = refl
not_other false r e f = absurd (cc)

pub loop-f-preserved : goal.loop-f-preserved
loop-f-preserved c =
    let same = same_text c.name.result.now c.name-in-loop-f.result.now (not_other (pointwise nat_eq c.name.result.now c.name-in-loop-f.result.now) c.ne.result c.ne.ensures c.if-ne.false) in
    (c.loop-f.invariant.0, take_same_more [] c.args.names.now c.args.others.now c.loop-f.f c.loop-f.invariant.0 (search rules) c.loop-f.invariant.1 (sym c.name.ensures.value ∙ same ∙ c.name-in-loop-f.ensures.value))

pub returns : goal.returns
returns c = grind (arith, common_steps)
