use Rattle.std.proofs.Common.{List, true, false, map, take, ◌+◌, get_or, slice_set, length, ap, ◌∙◌, arith}
use Rattle.vpg_winners.specs.declared.parts.Part.{Part}
use Rattle.vpg_why.specs.Suffices.{choice}
use Rattle.vpg_winners.specs.Joined.{cut_by}
use Rattle.vpg_winners.specs.Winners.{views}
use Rattle.vpg_winners.proofs.SameParts.{apart_none}
use Rattle.vpg_winners.proofs.Marking.{take_set, made_first, joined_first, behind_first, made_next, apart_more, joined_next, behind_next, made_last, numbers_first, numbers_rest, numbers_set, numbers_left, numbers_last}
use Rattle.vpg_winners.proofs.pairing.pair_all.Goals as goal

pub loop-part-init : goal.loop-part-init
loop-part-init c = record {
  made = λ new. made_first c.args.feature c.args.left.now.items _ c.args.without.now.items new
      c.deref_mut-part-items.ensures.value;
  marks = rw c.deref.ensures.value at c.in_ok-marks.ensures;
  flags = rw c.deref-2.ensures.value at c.in_ok-flags.ensures;
  apart = apart_none c.args.feature _;
  joined = joined_first _ c.args.without.now.items c.deref_mut-part-items.ensures.value c.requires.joined;
  behind = behind_first c.args.feature _ c.args.without.now.items c.deref_mut-part-items.ensures.value c.requires.behind;
  numbers = λ measure adds many added. (
    many,
    tt,
    numbers_first (λ p. measure (cut_by (choice c.args.feature false) p)) _ c.args.without.now.items c.deref_mut-part-items.ensures.value added,
  );
}

pub loop-part-preserved : goal.loop-part-preserved
loop-part-preserved c = record {
  made = λ new rest. c.loop-part.invariant.made new (made_next c.args.feature c.loop-part.part-items
      c.loop-part.part-index (get_or c.loop-part.part-items c.loop-part.part-index c.part-item.result) (omega (arith, c.loop-part-test.true)) (ap (λ (p : Part). get_or c.loop-part.part-items c.loop-part.part-index p) c.part-item.is)
      c.loop-part.left.items c.pair.new.left.items (take c.loop-part.part-index c.loop-part.part-items)
      (take (c.loop-part.part-index + 1) (slice_set c.loop-part.part-items c.loop-part.part-index c.pair.new.part))
      c.pair.new.part (take_set c.loop-part.part-items c.loop-part.part-index c.pair.new.part
      (omega (arith, c.loop-part-test.true))) c.in_ok-pair.ensures.paired c.loop-part.invariant.apart
      c.loop-part.invariant.joined c.loop-part.invariant.behind new rest);
  marks = c.in_ok-pair.ensures.marks;
  flags = rw c.deref-in-loop-part.ensures.value at c.in_ok-pair.ensures.flags;
  apart = apart_more c.args.feature c.loop-part.part-items
      c.loop-part.part-index (get_or c.loop-part.part-items c.loop-part.part-index c.part-item.result) (omega (arith, c.loop-part-test.true)) (ap (λ (p : Part). get_or c.loop-part.part-items c.loop-part.part-index p) c.part-item.is)
      c.loop-part.left.items c.pair.new.left.items (take c.loop-part.part-index c.loop-part.part-items)
      (take (c.loop-part.part-index + 1) (slice_set c.loop-part.part-items c.loop-part.part-index c.pair.new.part))
      c.pair.new.part (take_set c.loop-part.part-items c.loop-part.part-index c.pair.new.part
      (omega (arith, c.loop-part-test.true))) c.in_ok-pair.ensures.paired c.loop-part.invariant.apart
      c.loop-part.invariant.joined c.loop-part.invariant.behind;
  joined = joined_next c.args.feature c.loop-part.part-items c.loop-part.part-index (get_or c.loop-part.part-items c.loop-part.part-index c.part-item.result)
      (omega (arith, c.loop-part-test.true)) (ap (λ (p : Part). get_or c.loop-part.part-items c.loop-part.part-index p) c.part-item.is) c.pair.new.part c.loop-part.invariant.joined;
  behind = behind_next c.args.feature c.loop-part.part-items c.loop-part.part-index (get_or c.loop-part.part-items c.loop-part.part-index c.part-item.result)
      (omega (arith, c.loop-part-test.true)) (ap (λ (p : Part). get_or c.loop-part.part-items c.loop-part.part-index p) c.part-item.is) c.pair.new.part c.loop-part.invariant.behind;
  numbers = λ measure adds many added.
      let n = c.loop-part.invariant.numbers measure adds many added in
      let rest = numbers_rest (λ p. measure (cut_by (choice c.args.feature false) p)) c.loop-part.part-items c.loop-part.part-index (get_or c.loop-part.part-items c.loop-part.part-index c.part-item.result)
      (omega (arith, c.loop-part-test.true)) (ap (λ (p : Part). get_or c.loop-part.part-items c.loop-part.part-index p) c.part-item.is) n.2 in
      let m = c.in_ok-pair.ensures.numbers measure adds n.0 rest.0 in (
        m.0,
        numbers_set measure c.loop-part.part-items c.loop-part.part-index c.pair.new.part
            (omega (arith, c.loop-part-test.true)) n.1 m.1,
        numbers_left (λ p. measure (cut_by (choice c.args.feature false) p)) c.loop-part.part-items c.loop-part.part-index c.pair.new.part rest.1,
      );
}

pub returns-clause-put : goal.returns-clause-put
returns-clause-put c = made_last c.args.feature c.loop-part.left.items c.loop-part.part-items c.args.without.now.items
    c.loop-part.part-index c.args.without.now.len (map (cut_by (choice c.args.feature true)) (views c.args.left.now.items))
    (map (cut_by (choice c.args.feature false)) (views c.args.without.now.items)) (omega (arith, c.loop-part-test.false, c.loop-part.auto.part-items))
    (c.loop-part.auto.part-items ∙ ap (λ (ps : List Part). length ps) c.deref_mut-part-items.ensures.value)
    (omega (arith, c.args.without.now.ok.0))
    c.loop-part.invariant.made

pub returns-clause-numbers : goal.returns-clause-numbers
returns-clause-numbers c = λ measure adds many added.
    let n = c.loop-part.invariant.numbers measure adds many added in (
      n.0,
      numbers_last measure c.loop-part.part-items c.args.without.now.items c.loop-part.part-index
          c.args.without.now.len (omega (arith, c.loop-part-test.false, c.loop-part.auto.part-items))
          (c.loop-part.auto.part-items ∙ ap (λ (ps : List Part). length ps) c.deref_mut-part-items.ensures.value)
          (omega (arith, c.args.without.now.ok.0)) n.1,
    )

pub pair-requires-clause-flags : goal.pair-requires-clause-flags
pair-requires-clause-flags c = rw c.deref-in-loop-part.ensures.value c.loop-part.invariant.flags
