use Rattle.std.proofs.Common.{Option, ◌++◌, refl, ap, ◌∙◌}
use Rattle.vpg_trace.specs.Texts.{step_from}
use Rattle.vpg_trace.specs.declared.taking.Taken.{Taken}
use Rattle.vpg_trace.specs.declared.walking.Visit.{Visit}
use Rattle.vpg_system_draw.proofs.Marked.{listed_by}
use Rattle.vpg_steps.specs.Steps.{one_step, steps_of}
use Rattle.vpg_steps.proofs.path.steps_of.Goals as goal

pub loop-n-preserved : goal.loop-n-preserved
loop-n-preserved c =
    listed_by (steps_of c.args.known.now c.args.source.now.states.items c.args.source.now.sets.items c.args.source.now.parts.items c.args.pairs.now.keys c.args.visits.now) _ c.loop-n.n c.loop-n.steps.items
    c.add_step.new.steps.items refl c.loop-n.invariant
    (c.in_ok-add_step.ensures
    ∙ ap (λ (t : Option Taken). c.loop-n.steps.items ++ one_step t)
    (c.step_to.ensures
    ∙ ap (λ (v : Visit). step_from c.args.known.now c.args.source.now.states.items c.args.source.now.sets.items c.args.source.now.parts.items c.args.pairs.now.keys c.args.visits.now v.before v.vertex)
    c.visit_at-visit.ensures))
