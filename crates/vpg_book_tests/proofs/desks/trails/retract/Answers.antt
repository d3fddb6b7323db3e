use Rattle.std.proofs.Common.{[], List, map, take, sym, subst}
use Rattle.std.proofs.lemmas.List.{take-map}
use Rattle.vpg_trail.specs.Page.{Entry as Step}
use Rattle.vpg_trail.specs.Shown.{entry_of}
use Rattle.vpg_trail.specs.WellFormed.{LiftsStandAfter}
use Rattle.vpg_book_tests.proofs.desks.trails.retract.Goals as goal

pub splice-requires-clause-lifts : goal.splice-requires-clause-lifts
splice-requires-clause-lifts c =
    let kept = map entry_of c.in_ok-kept.kept.items in
    subst (λ (page : List Step). LiftsStandAfter (take c.in-Some.place page) kept) c.entries-2.ensures.entries
    (subst (λ (before : List Step). LiftsStandAfter before kept) (sym (take-map entry_of c.in-Some.place c.entries-2.result.now))
    (c.in_ok-kept.ensures.lifts (subst (LiftsStandAfter []) (sym c.entries-2.ensures.entries) c.entries-2.ensures.lifts)))
