use Rattle.std.proofs.Common.{◌≡◌, ◌∙◌, ◌++◌, ◌≤◌, [], length, take, drop, map, arith, sym, ap, subst}
use Rattle.std.proofs.lemmas.List.{length-map}
use Rattle.vpg_trail.specs.Shown.{entry_of, Track}
use Rattle.vpg_trail.specs.WellFormed.{LiftsStandAfter}
use Rattle.vpg_trail.proofs.Tracking.{tracked_length, tracked_spliced, removed_stand, later_is, all_viewed, spliced_is, removed_is, removed_below}
use Rattle.vpg_trail.proofs.trail.Trail.splice.Goals as goal
use Rattle.vpg_trail.proofs.trail.Trail.splice.Goals.{After-deref}

cut : (c : After-deref) → c.deref.result.now ≡ drop c.args.place c.self.inside.entries.items
cut c = c.deref.ensures.value ∙ c.in-Ok.ensures.suffix

pub take_all_back-requires-clause-below : goal.take_all_back-requires-clause-below
take_all_back-requires-clause-below c = removed_below c.self.inside.vertices c.args.place c.self.inside.entries.items c.deref.result.now c.self.invariant.below (cut (goal.at.take_all_back-requires-clause-below c).After-deref)

pub take_all_back-requires-clause-hopeful_len : goal.take_all_back-requires-clause-hopeful_len
take_all_back-requires-clause-hopeful_len c = (tracked_length _ _ _ _ c.self.invariant).0

pub take_all_back-requires-clause-dual_len : goal.take_all_back-requires-clause-dual_len
take_all_back-requires-clause-dual_len c = (tracked_length _ _ _ _ c.self.invariant).1

pub invariant_of-self : goal.invariant_of-self
invariant_of-self c =
    let entries = c.self.inside.entries.items in
    let after = c.exchange.new.entries.items in
    let within : c.args.place ≤ length entries = omega (arith, c.requires.place, length-map entries entry_of, ap (λ (t : Track). length t.entries) c.self.view_is) in
    tracked_spliced c.self.inside.vertices c.args.place entries after c.args.suffix.items c.deref.result.now _ c.self.inside.hopeful c.self.inside.dual c.self.invariant c.in-Ok.ensures.entries (cut (goal.at.invariant_of-self c).After-deref)
    (all_viewed _ _ c.args.suffix.items (ap (λ (t : Track). t.vertices) (sym c.self.view_is)) c.requires.vertices)
    (subst (λ (t : Track). LiftsStandAfter (take c.args.place t.entries) (map entry_of c.args.suffix.items)) (sym c.self.view_is) c.requires.lifts)
    (later_is c.args.place entries after c.args.suffix.items c.deref-in-Ok.result.now within c.in-Ok.ensures.entries c.deref-in-Ok.ensures.value)
    c.take_all_back.new.hopeful c.take_all_back.new.dual c.take_all.new.hopeful c.take_all.new.dual
    c.take_all_back.ensures.hopeful c.take_all_back.ensures.dual c.take_all.ensures.hopeful c.take_all.ensures.dual

pub returns-in-Ok-clause-spliced : goal.returns-in-Ok-clause-spliced
returns-in-Ok-clause-spliced c = λ i. record {
  vertices = (c.self.view_is i).vertices;
  entries = (spliced_is c.args.place c.self.inside.entries.items c.exchange.new.entries.items c.args.suffix.items c.in-Ok.ensures.entries
      ∙ ap (λ (t : Track). take c.args.place t.entries ++ map entry_of c.args.suffix.items) c.self.view_is) i;
}

pub returns-in-Ok-clause-removed : goal.returns-in-Ok-clause-removed
returns-in-Ok-clause-removed c = removed_is c.args.place c.self.inside.entries.items c.exchange.new.suffix.items c.in-Ok.ensures.suffix ∙ ap (λ (t : Track). drop c.args.place t.entries) c.self.view_is

pub returns-in-Ok-clause-removed_vertices : goal.returns-in-Ok-clause-removed_vertices
returns-in-Ok-clause-removed_vertices c =
    all_viewed c.self.inside.vertices c.args.self.now.vertices c.exchange.new.suffix.items (ap (λ (t : Track). t.vertices) c.self.view_is)
    (removed_below c.self.inside.vertices c.args.place c.self.inside.entries.items c.exchange.new.suffix.items c.self.invariant.below c.in-Ok.ensures.suffix)

pub returns-in-Ok-clause-removed_lifts : goal.returns-in-Ok-clause-removed_lifts
returns-in-Ok-clause-removed_lifts c =
    subst (λ (t : Track). LiftsStandAfter (take c.args.place t.entries) (map entry_of c.exchange.new.suffix.items)) c.self.view_is
    (removed_stand c.self.inside.vertices c.args.place c.self.inside.entries.items c.exchange.new.entries.items c.args.suffix.items c.exchange.new.suffix.items [] c.self.inside.hopeful c.self.inside.dual c.self.invariant c.in-Ok.ensures.entries c.in-Ok.ensures.suffix)
