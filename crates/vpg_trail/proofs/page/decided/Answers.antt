use Rattle.std.proofs.Common.{◌+◌, ◌∙◌, [], ◌∷◌, ◌++◌, sym, ap, map, take, drop}
use Rattle.vpg_trail.specs.Page.{decision_on}
use Rattle.vpg_trail.specs.declared.entry.Entry.{Entry}
use Rattle.vpg_trail.specs.Shown.{entry_of}
use Rattle.vpg_trail.proofs.Places.{split_read, read_more, decided_found, none_more, none_here}
use Rattle.vpg_trail.proofs.page.decided.Goals as goal
use Rattle.vpg_trail.proofs.page.decided.Goals.{in-Decide+else-decision-feature, in_default}

pub returns-then-decision-feature : goal.returns-then-decision-feature
returns-then-decision-feature c =
    let before = map entry_of (take c.loop-entry.entry-index c.args.entries.now) in
    let after = map entry_of (drop (c.loop-entry.entry-index + 1) c.args.entries.now) in
    decided_found c.args.feature before c.in-Decide.decision after c.loop-entry.invariant c.if-decision-feature.true
    ∙ sym (ap (decision_on c.args.feature) (split_read c.args.entries.now c.loop-entry.entry-index c.entry-item.result c.loop-entry-test.true c.entry-item.is ∙ ap (λ (e : Entry). before ++ entry_of e ∷ after) c.in-Decide.is))

pub loop-entry-preserved : goal.loop-entry-preserved
loop-entry-preserved c =
    ap (decision_on c.args.feature) (read_more c.args.entries.now c.loop-entry.entry-index c.entry-item.result c.loop-entry-test.true c.entry-item.is)
    ∙ none_more c.args.feature (map entry_of (take c.loop-entry.entry-index c.args.entries.now)) (entry_of c.entry-item.result) c.loop-entry.invariant
    (elim c.match-entry.branch [
      | in-Decide+else-decision-feature w ↦ ap (λ (e : Entry). decision_on c.args.feature (entry_of e ∷ [])) w.in-Decide.is ∙ none_here c.args.feature w.in-Decide.decision w.if-decision-feature.false
      | in_default w ↦ ap (λ (e : Entry). decision_on c.args.feature (entry_of e ∷ [])) w.in_default.is
    ])
