use Rattle.std.proofs.Common.{◌≡◌, ◌++◌, ◌∙◌, List, map, sym, ap, subst, rules}
use Rattle.vpg_trail.specs.Page.{Hopeful, Dual, table_of}
use Rattle.vpg_trail.specs.declared.entry.Entry.{Entry}
use Rattle.vpg_trail.specs.Shown.{entry_of, Track}
use Rattle.vpg_trail.specs.WellFormed.{LiftsStandAfter}
use Rattle.vpg_trail.proofs.Tracking.{tracked_more, tracked_length, all_viewed}
use Rattle.vpg_trail.proofs.trail.Trail.extend.Goals as goal

pub take_all-requires-clause-hopeful_len : goal.take_all-requires-clause-hopeful_len
take_all-requires-clause-hopeful_len c = (tracked_length _ _ _ _ c.self.invariant).0

pub take_all-requires-clause-dual_len : goal.take_all-requires-clause-dual_len
take_all-requires-clause-dual_len c = (tracked_length _ _ _ _ c.self.invariant).1

pub invariant_of-self-2 : goal.invariant_of-self-2
invariant_of-self-2 c =
    let appended : c.append.new.self.items ≡ c.self.inside.entries.items ++ c.args.more.items = search rules in
    tracked_more c.self.inside.vertices c.self.inside.entries.items c.append.new.self.items c.args.more.items c.self.inside.hopeful c.self.inside.dual c.take_all.new.hopeful c.take_all.new.dual c.self.invariant
    (all_viewed _ _ c.args.more.items (ap (λ (t : Track). t.vertices) (sym c.self.view_is)) c.requires.vertices) (subst (λ (t : Track). LiftsStandAfter t.entries (map entry_of c.args.more.items)) (sym c.self.view_is) c.requires.lifts) appended
    (λ page e. c.take_all.ensures.hopeful page e ∙ ap (λ (l : List Entry). table_of Hopeful (page ++ map entry_of l) c.self.inside.vertices) c.deref.ensures.value)
    (λ page e. c.take_all.ensures.dual page e ∙ ap (λ (l : List Entry). table_of Dual (page ++ map entry_of l) c.self.inside.vertices) c.deref.ensures.value)
