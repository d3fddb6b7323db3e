use Rattle.std.proofs.Common.{◌≡◌, ◌++◌, ◌∷◌, [], sym, ap, subst, refl, rules}
use Rattle.vpg_trail.specs.Shown.{entry_of, VertexBelow, Track}
use Rattle.vpg_trail.specs.WellFormed.{LiftStands}
use Rattle.vpg_trail.proofs.Tracking.{tracked_one, tracked_length, below_viewed}
use Rattle.vpg_trail.proofs.trail.Trail.append.Goals as goal

pub take_in-requires-clause-hopeful : goal.take_in-requires-clause-hopeful
take_in-requires-clause-hopeful c = below_viewed c.self.inside.vertices _ _ (entry_of c.args.entry) c.requires.vertices (ap (λ (t : Track). t.vertices) c.self.view_is) (tracked_length _ _ _ _ c.self.invariant).0

pub take_in-requires-clause-dual : goal.take_in-requires-clause-dual
take_in-requires-clause-dual c = below_viewed c.self.inside.vertices _ _ (entry_of c.args.entry) c.requires.vertices (ap (λ (t : Track). t.vertices) c.self.view_is) (tracked_length _ _ _ _ c.self.invariant).1

pub invariant_of-self-2 : goal.invariant_of-self-2
invariant_of-self-2 c =
    let below : VertexBelow c.self.inside.vertices (entry_of c.args.entry) = below_viewed _ _ _ (entry_of c.args.entry) c.requires.vertices (ap (λ (t : Track). t.vertices) c.self.view_is) refl in
    let pushed : c.push.new.self.items ≡ c.self.inside.entries.items ++ c.args.entry ∷ [] = search rules in
    tracked_one c.self.inside.vertices c.self.inside.entries.items c.push.new.self.items c.args.entry c.self.inside.hopeful c.self.inside.dual c.take_in.new.hopeful c.take_in.new.dual c.self.invariant below (subst (λ (t : Track). LiftStands t.entries (entry_of c.args.entry)) (sym c.self.view_is) c.requires.lifts) pushed c.take_in.ensures.hopeful c.take_in.ensures.dual
