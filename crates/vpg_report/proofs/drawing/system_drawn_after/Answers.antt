use Rattle.std.proofs.Common.{ℕ, List, None, inl, map, subst}
use Rattle.std.proofs.lemmas.Result.{err_from_is_err_and}
use Rattle.std.specs.Arc.{arc_value}
use Rattle.vpg_trail.specs.Page.{literal_of}
use Rattle.vpg_family.specs.Systems.{IsSystemOn}
use Rattle.vpg_report.proofs.Draws.{system_drawn}
use Rattle.vpg_report.proofs.drawing.system_drawn_after.Goals as goal

pub returns-in-Ok-clause-drawn : goal.returns-in-Ok-clause-drawn
returns-in-Ok-clause-drawn g c =
    let order = c.in_ok-ending.order in
    system_drawn (arc_value c.args.family.now.diagram) (arc_value c.args.family.now.game) c.args.context.now c.args.script.now c.in_ok-ending.ending order c.in_ok-ending.ensures.left c.args.texts.now.system.items c.in-Ok.picture.items
    (subst (λ (text : List ℕ). IsSystemOn order.diagram (map literal_of order.decisions) text None c.in-Ok.picture.items) c.deref.ensures.value c.in-Ok.ensures.drawn)

pub returns-in_err-ending-clause-refused : goal.returns-in_err-ending-clause-refused
returns-in_err-ending-clause-refused g c =
    let p = err_from_is_err_and c.from_residual.result c.from_residual.ensures.1 in
    rw (p.1, p.2) (inl c.in_err-ending.ensures.refused)
