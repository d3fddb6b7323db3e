use Rattle.std.proofs.Common.{◌≡◌, ◌+◌, ◌∙◌, [], ◌∷◌, ◌++◌, sym, ap, map, take, drop}
use Rattle.vpg_trail.specs.Page.{Decided, has_decided, before_decision, after_decision}
use Rattle.vpg_trail.specs.declared.entry.Entry.{Entry}
use Rattle.vpg_trail.specs.Shown.{entry_of}
use Rattle.vpg_trail.proofs.Places.{split_read, read_more, found_decided, found_before, found_after, undecided_more, undecided_here}
use Rattle.vpg_trail.proofs.page.place_of.Goals as goal
use Rattle.vpg_trail.proofs.page.place_of.Goals.{Then-decision-feature, in-Decide+else-decision-feature, in_default}

split : (c : Then-decision-feature) → map entry_of c.args.entries.now ≡ map entry_of (take c.loop-place.place c.args.entries.now) ++ Decided c.in-Decide.decision ∷ map entry_of (drop (c.loop-place.place + 1) c.args.entries.now)
split c =
    split_read c.args.entries.now c.loop-place.place c.index-entries-place.result c.loop-place-test.true c.index-entries-place.is
    ∙ ap (λ (e : Entry). map entry_of (take c.loop-place.place c.args.entries.now) ++ entry_of e ∷ map entry_of (drop (c.loop-place.place + 1) c.args.entries.now)) c.in-Decide.is

pub returns-then-decision-feature-clause-decided : goal.returns-then-decision-feature-clause-decided
returns-then-decision-feature-clause-decided c =
    sym (ap (has_decided c.args.feature) (split c) ∙ found_decided c.args.feature (map entry_of (take c.loop-place.place c.args.entries.now)) c.in-Decide.decision _ c.if-decision-feature.true)

pub returns-then-decision-feature-clause-before : goal.returns-then-decision-feature-clause-before
returns-then-decision-feature-clause-before c =
    sym (ap (before_decision c.args.feature) (split c) ∙ found_before c.args.feature (map entry_of (take c.loop-place.place c.args.entries.now)) c.in-Decide.decision _ c.loop-place.invariant c.if-decision-feature.true)

pub returns-then-decision-feature-clause-after : goal.returns-then-decision-feature-clause-after
returns-then-decision-feature-clause-after c =
    sym (ap (after_decision c.args.feature) (split c) ∙ found_after c.args.feature (map entry_of (take c.loop-place.place c.args.entries.now)) c.in-Decide.decision _ c.loop-place.invariant c.if-decision-feature.true)

pub loop-place-preserved : goal.loop-place-preserved
loop-place-preserved c =
    ap (has_decided c.args.feature) (read_more c.args.entries.now c.loop-place.place c.index-entries-place.result c.loop-place-test.true c.index-entries-place.is)
    ∙ undecided_more c.args.feature (map entry_of (take c.loop-place.place c.args.entries.now)) (entry_of c.index-entries-place.result) c.loop-place.invariant
    (elim c.match-entries-place.branch [
      | in-Decide+else-decision-feature w ↦ ap (λ (e : Entry). has_decided c.args.feature (entry_of e ∷ [])) w.in-Decide.is ∙ undecided_here c.args.feature w.in-Decide.decision w.if-decision-feature.false
      | in_default w ↦ ap (λ (e : Entry). has_decided c.args.feature (entry_of e ∷ [])) w.in_default.is
    ])
