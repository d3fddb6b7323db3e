use Rattle.std.proofs.Common.{ℕ, ◌++◌, refl, ap, ◌∙◌}
use Rattle.vpg_model.specs.Pairs.{pair_at}
use Rattle.vpg_trace.specs.declared.walking.Visit.{Visit}
use Rattle.vpg_system_draw.proofs.Marked.{listed_by}
use Rattle.vpg_steps.specs.Steps.{one_stand, stands_of}
use Rattle.vpg_steps.proofs.path.stands_of.Goals as goal

pub loop-n-preserved : goal.loop-n-preserved
loop-n-preserved c =
    listed_by (stands_of c.args.source.now.parts.items c.args.pairs.now.keys c.args.visits.now) _ c.loop-n.n c.loop-n.stands.items c.add_stand.new.stands.items refl c.loop-n.invariant
    (c.in_ok-add_stand.ensures
    ∙ (ap (λ (p : ℕ × ℕ). c.loop-n.stands.items ++ one_stand c.args.source.now.parts.items p c.visit_at-visit.result.end) c.pair_at.ensures
    ∙ ap (λ (v : Visit). c.loop-n.stands.items ++ one_stand c.args.source.now.parts.items (pair_at c.args.pairs.now.keys v.vertex) v.end) c.visit_at-visit.ensures))
