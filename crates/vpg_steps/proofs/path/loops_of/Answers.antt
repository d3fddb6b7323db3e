use Rattle.std.proofs.Common.{◌++◌, refl, ap, ◌∙◌}
use Rattle.vpg_trace.specs.declared.walking.Visit.{Visit}
use Rattle.vpg_system_draw.proofs.Marked.{listed_by}
use Rattle.vpg_steps.specs.Steps.{one_loop, loops_of}
use Rattle.vpg_steps.proofs.path.loops_of.Goals as goal

pub loop-n-preserved : goal.loop-n-preserved
loop-n-preserved c =
    listed_by (loops_of c.args.pairs.now.keys c.args.visits.now) _ c.loop-n.n c.loop-n.loops.items c.add_loop.new.loops.items refl c.loop-n.invariant
    (c.in_ok-add_loop.ensures ∙ ap (λ (v : Visit). c.loop-n.loops.items ++ one_loop c.args.pairs.now.keys c.args.visits.now v.end) c.visit_at.ensures)
