use Rattle.std.proofs.Common.{All, [], sym, ap, subst}
use Rattle.vpg_trail.specs.Shown.{entry_of, VertexBelow, Track}
use Rattle.vpg_trail.specs.WellFormed.{LiftsStandAfter}
use Rattle.vpg_trail.proofs.Tracking.{All-unmap, all_viewed}
use Rattle.vpg_trail.proofs.trail.Trail.entries.Goals as goal

pub returns-clause-vertices : goal.returns-clause-vertices
returns-clause-vertices c =
    subst (All (λ e. VertexBelow c.args.self.now.vertices (entry_of e))) (sym c.as_slice.ensures.value)
    (all_viewed c.self.inside.vertices c.args.self.now.vertices c.self.inside.entries.items (ap (λ (t : Track). t.vertices) c.self.view_is) (All-unmap c.self.inside.vertices c.self.inside.entries.items c.self.invariant.below))

pub returns-clause-lifts : goal.returns-clause-lifts
returns-clause-lifts c = subst (λ (t : Track). LiftsStandAfter [] t.entries) c.self.view_is c.self.invariant.lifts
