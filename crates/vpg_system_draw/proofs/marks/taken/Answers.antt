use Rattle.std.proofs.Common.{Bool, [], ◌∷◌, ◌++◌, refl, ap, ◌∙◌}
use Rattle.vpg_system_draw.specs.Traced.{taken_below}
use Rattle.vpg_system_draw.proofs.Marked.{listed_by}
use Rattle.vpg_system_draw.proofs.marks.taken.Goals as goal

pub loop-n-preserved : goal.loop-n-preserved
loop-n-preserved c =
    listed_by (taken_below c.args.system.now.transitions c.args.steps.now) _ c.loop-n.n c.loop-n.marks.items c.push.new.self.items refl c.loop-n.invariant
    (c.in_ok-push.ensures.items ∙ ap (λ (b : Bool). c.loop-n.marks.items ++ b ∷ []) c.is_taken.ensures)
