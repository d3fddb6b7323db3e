use Rattle.std.proofs.Common.{List, ℕ, refl, ap, ◌∙◌}
use Rattle.std.specs.List.{remove}
use Rattle.vpg_winners.proofs.Marking.{flags_removed, marks_removed, numbers_same, paired_same}
use Rattle.vpg_winners.proofs.pairing.pair.Goals as goal

pub returns-in-Some-clause-marks : goal.returns-in-Some-clause-marks
returns-in-Some-clause-marks c = rw (c.remove.ensures.items, c.remove-mate.ensures.items)
    (ap (λ (ms : List ℕ). remove ms c.in-Some.place) c.requires.marks ∙ marks_removed c.args.left.now.items c.in-Some.place)

pub returns-in-Some-clause-paired : goal.returns-in-Some-clause-paired
returns-in-Some-clause-paired c = paired_same c.args.feature c.args.left.now.items c.remove-mate.new.self.items
    c.args.part.now (record {
      winner = c.args.part.now.winner;
      literals = c.args.part.now.literals;
      number = c.in_ok-part.field-0;
    }) c.in-Some.place (rw c.deref.ensures.value at c.in-Some.ensures.some) c.remove-mate.ensures.items refl

pub returns-in-Some-clause-numbers : goal.returns-in-Some-clause-numbers
returns-in-Some-clause-numbers c = λ measure adds many one. numbers_same measure c.args.feature adds
    c.args.left.now.items c.remove-mate.new.self.items c.args.part.now (record {
      winner = c.args.part.now.winner;
      literals = c.args.part.now.literals;
      number = c.in_ok-part.field-0;
    }) c.remove-mate.result c.in-Some.place (rw c.deref.ensures.value at c.in-Some.ensures.some)
    c.remove-mate.ensures.value c.remove-mate.ensures.items c.in_ok-part.ensures refl many one

pub returns-in-Some-clause-flags : goal.returns-in-Some-clause-flags
returns-in-Some-clause-flags c = flags_removed c.args.flags.now c.args.marks.now.items c.remove.new.self.items
    c.in-Some.place c.remove.ensures.items c.requires.flags
