use Rattle.std.proofs.Common.{refl}
use Rattle.vpg_trace.specs.Texts.{family_of, visits_text}
use Rattle.vpg_trace.proofs.Grown.{grown_by}
use Rattle.vpg_trace.proofs.writing.put_visits.Goals as goal

pub loop-i-preserved : goal.loop-i-preserved
loop-i-preserved c =
    grown_by (visits_text (family_of c.args.names.now c.args.actions.now c.args.known.now c.args.source.now.states.items c.args.source.now.sets.items c.args.source.now.parts.items c.args.pairs.now.keys) c.args.visits.now)
    _ c.loop-i.i c.args.out.now.items c.loop-i.out.items c.put_visit.new.out.items refl c.loop-i.invariant (rw c.visit_at-visit.ensures at c.in_ok-put_visit.ensures)
