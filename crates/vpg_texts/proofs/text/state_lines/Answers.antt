use Rattle.std.proofs.Common.{◌++◌, ◌∷◌, [], codes}
use Rattle.vpg_texts.specs.Text.{answer_line, answer_word}
use Rattle.vpg_texts.proofs.Counted.{three_parts}
use Rattle.vpg_texts.proofs.Pieces.{behind}
use Rattle.vpg_texts.proofs.text.state_lines.Goals as goal

pub returns : goal.returns
returns c =
    let old = c.args.out.now.items in
    let settled = answer_line c.args.settled in
    let full = answer_word c.args.full in
    let two = c.extend_from_slice-2.new.self.items in
    let four = c.extend_from_slice-3.new.self.items in
    behind old four c.push.new.self.items (codes "settled" ++ settled ++ codes "full" ++ full ++ c.args.mark.now) (10 ∷ [])
    (behind old c.answer_word.new.out.items four (codes "settled" ++ settled ++ codes "full" ++ full) c.args.mark.now
    (behind old two c.answer_word.new.out.items (codes "settled" ++ settled ++ codes "full") full
    (three_parts old c.extend_from_slice.new.self.items c.answer.new.out.items two (codes "settled") settled (codes "full")
    c.in_ok-extend_from_slice.ensures.items c.in_ok-answer.ensures c.in_ok-extend_from_slice-2.ensures.items) c.in_ok-answer_word.ensures)
    c.in_ok-extend_from_slice-3.ensures.items) c.in_ok-push.ensures.items
