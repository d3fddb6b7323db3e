use Rattle.std.proofs.Common.{Bool, ◌++◌, refl, ap, ◌∙◌}
use Rattle.vpg_system_draw.specs.Traced.{ends_below, ends_if, transition_in}
use Rattle.vpg_system_draw.proofs.Marked.{listed_by}
use Rattle.vpg_system_draw.proofs.marks.passed.Goals as goal

pub loop-n-preserved : goal.loop-n-preserved
loop-n-preserved c =
    listed_by (ends_below c.args.system.now.transitions c.args.marks.now) _ c.loop-n.n c.loop-n.ends.items c.add_ends.new.ends.items refl c.loop-n.invariant
    (c.in_ok-add_ends.ensures ∙ ap (λ (b : Bool). c.loop-n.ends.items ++ ends_if (transition_in c.args.system.now.transitions c.loop-n.n) b) c.is_marked.ensures)
