use Rattle.std.proofs.Common.{◌≡◌, ◌+◌, ◌≤◌, Some, None, drop, sym, ◌∙◌, ap, arith, length, ℕ}
use Rattle.std.specs.Prelude.{slice_index_or}
use Rattle.vpg_formula.specs.Words.{open_behind}
use Rattle.vpg_formula.specs.ActionCode.{end_at}
use Rattle.vpg_formula.proofs.Lengths.{action_goes, action_stops, action_end, behind_byte, end_within}
use Rattle.vpg_formula.proofs.words.action_len.Goals as goal

pub loop-at-preserved : goal.loop-at-preserved
loop-at-preserved c =
    let text = c.args.text.now in
    let at = c.loop-at.at in
    let goes : open_behind c.loop-at.depth (slice_index_or text at 0) (drop (at + 1) text) ≡ Some c.in-Some.more =
    ap (open_behind c.loop-at.depth (slice_index_or text at 0)) (sym (behind_byte text at)) ∙ sym c.open_behind.ensures.open ∙ c.in-Some.is in
    let within : at ≤ at + 1 = omega arith in
    let begun : c.loop-at.end ≤ at + 1 = omega (arith, c.loop-at.invariant.begun) in
    record {
      deep = c.in-Some.ensures.small;
      begun = rw c.end_at-end.ensures (end_within c.loop-at.depth at c.loop-at.end (at + 1) within begun);
      reads = rw c.end_at-end.ensures (c.loop-at.invariant.reads ∙ action_goes c.loop-at.depth c.in-Some.more c.loop-at.end text at 0 c.loop-at-test.true goes);
    }

pub returns-in-None-clause-len : goal.returns-in-None-clause-len
returns-in-None-clause-len c =
    let text = c.args.text.now in
    let at = c.loop-at.at in
    let stops : open_behind c.loop-at.depth (slice_index_or text at 0) (drop (at + 1) text) ≡ None =
    ap (open_behind c.loop-at.depth (slice_index_or text at 0)) (sym (behind_byte text at)) ∙ sym c.open_behind.ensures.open ∙ c.in-None.is in
    ap (λ (n : ℕ). Some n) c.end_at-end.ensures ∙ sym (c.loop-at.invariant.reads ∙ action_stops c.loop-at.depth c.loop-at.end text at 0 c.loop-at-test.true stops)

pub returns-clause-len : goal.returns-clause-len
returns-clause-len c =
    let text = c.args.text.now in
    let at = c.loop-at.at in
    let whole : at ≡ length text = omega (arith, c.loop-at.auto.at-end, c.loop-at-test.false) in
    ap (λ (n : ℕ). Some n) (c.end_at.ensures ∙ ap (λ (n : ℕ). end_at c.loop-at.depth n c.loop-at.end) (sym whole))
    ∙ sym (c.loop-at.invariant.reads ∙ action_end c.loop-at.depth c.loop-at.end text at c.loop-at-test.false)
