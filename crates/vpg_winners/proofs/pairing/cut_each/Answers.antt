use Rattle.std.proofs.Common.{◌∙◌, List, length, get_or, refl, ap, arith}
use Rattle.vpg_diagram.specs.declared.clause.Literal.{Literal}
use Rattle.vpg_winners.specs.declared.parts.Part.{Part}
use Rattle.vpg_winners.specs.Joined.{cut_by}
use Rattle.vpg_winners.proofs.Marking.{cut_each_next, numbers_rest, numbers_set, numbers_left, numbers_last, number_here}
use Rattle.vpg_winners.proofs.pairing.cut_each.Goals as goal

pub loop-part-preserved : goal.loop-part-preserved
loop-part-preserved c = record {
  same = cut_each_next c.args.literal c.loop-part.part-items c.loop-part.part-index c.part-item.result _
      (omega (arith, c.loop-part-test.true)) c.part-item.is (cc (c.in_ok-insert.ensures.items, c.part-item.is))
      ∙ c.loop-part.invariant.same;
  numbers = λ measure all.
      let n = c.loop-part.invariant.numbers measure all in
      let m = numbers_rest (λ part. measure (cut_by c.args.literal part)) c.loop-part.part-items c.loop-part.part-index
      c.part-item.result (omega (arith, c.loop-part-test.true)) c.part-item.is n.1 in (
        numbers_set measure c.loop-part.part-items c.loop-part.part-index (record {
          winner = (get_or c.loop-part.part-items c.loop-part.part-index c.part-item.result).winner;
          literals = c.insert.new.self;
          number = (get_or c.loop-part.part-items c.loop-part.part-index c.part-item.result).number;
        })
            (omega (arith, c.loop-part-test.true)) n.0
            (number_here measure c.args.literal c.loop-part.part-items c.loop-part.part-index c.part-item.result (record {
              winner = (get_or c.loop-part.part-items c.loop-part.part-index c.part-item.result).winner;
              literals = c.insert.new.self;
              number = (get_or c.loop-part.part-items c.loop-part.part-index c.part-item.result).number;
            })
            c.part-item.is refl (ap (λ (ls : List Literal). record {
              winner = (get_or c.loop-part.part-items c.loop-part.part-index c.part-item.result).winner;
              literals = ls;
            }) c.in_ok-insert.ensures.items) m.0),
        numbers_left (λ part. measure (cut_by c.args.literal part)) c.loop-part.part-items c.loop-part.part-index (record {
          winner = (get_or c.loop-part.part-items c.loop-part.part-index c.part-item.result).winner;
          literals = c.insert.new.self;
          number = (get_or c.loop-part.part-items c.loop-part.part-index c.part-item.result).number;
        }) m.1,
      );
}

pub returns-clause-numbers : goal.returns-clause-numbers
returns-clause-numbers c = λ measure all. numbers_last measure c.loop-part.part-items c.args.parts.now.items
    c.loop-part.part-index c.args.parts.now.len
    (omega (arith, c.loop-part-test.false, c.loop-part.auto.part-items))
    (c.loop-part.auto.part-items ∙ ap (λ (ps : List Part). length ps) c.deref_mut-part-items.ensures.value)
    (omega (arith, c.args.parts.now.ok.0))
    (c.loop-part.invariant.numbers measure all).0
