use Rattle.std.proofs.Common.{◌+◌, ◌∙◌, [], ◌∷◌, ◌++◌, sym, ap, map, take, drop}
use Rattle.vpg_trail.specs.Page.{literal_of, choices_of, stands}
use Rattle.vpg_trail.specs.declared.entry.Entry.{Entry}
use Rattle.vpg_trail.specs.Shown.{entry_of}
use Rattle.vpg_trail.proofs.Places.{split_read, read_more}
use Rattle.vpg_desk.proofs.Missing.{among_found, among_more, other_feature, other_value}
use Rattle.vpg_desk.proofs.commit.is_among.Goals as goal
use Rattle.vpg_desk.proofs.commit.is_among.Goals.{in-Decide+else-decision-made, else-decision-made-via-then-decision-made+else-decision-made-2, else-decision-made-via-else-decision-made, in_default}

pub returns-then-decision-made-2 : goal.returns-then-decision-made-2
returns-then-decision-made-2 c =
    let before = map entry_of (take c.loop-entry.entry-index c.args.entries.now) in
    let after = map entry_of (drop (c.loop-entry.entry-index + 1) c.args.entries.now) in
    sym (ap (λ l. stands (choices_of l) (literal_of c.args.decision)) (split_read c.args.entries.now c.loop-entry.entry-index c.entry-item.result c.loop-entry-test.true c.entry-item.is ∙ ap (λ (e : Entry). before ++ entry_of e ∷ after) c.in-Decide.is)
    ∙ among_found (literal_of c.args.decision) before c.in-Decide.made after c.if-decision-made.true c.if-decision-made-2.true)

pub loop-entry-preserved : goal.loop-entry-preserved
loop-entry-preserved c =
    ap (λ l. stands (choices_of l) (literal_of c.args.decision)) (read_more c.args.entries.now c.loop-entry.entry-index c.entry-item.result c.loop-entry-test.true c.entry-item.is)
    ∙ among_more (literal_of c.args.decision) (map entry_of (take c.loop-entry.entry-index c.args.entries.now)) (entry_of c.entry-item.result) c.loop-entry.invariant
    (elim c.match-entry.branch [
      | in-Decide+else-decision-made w ↦ ap (λ (e : Entry). stands (choices_of (entry_of e ∷ [])) (literal_of c.args.decision)) w.in-Decide.is
          ∙ elim w.else-decision-made.branch [
            | else-decision-made-via-then-decision-made+else-decision-made-2 w' ↦ other_value (literal_of c.args.decision) w.in-Decide.made w'.if-decision-made-2.false
            | else-decision-made-via-else-decision-made w' ↦ other_feature (literal_of c.args.decision) w.in-Decide.made w'.if-decision-made.false
          ]
      | in_default w ↦ ap (λ (e : Entry). stands (choices_of (entry_of e ∷ [])) (literal_of c.args.decision)) w.in_default.is
    ])
