use Rattle.std.proofs.Common.{◌≡◌, ◌<◌, length, sym, ap, ◌∙◌, arith}
use Rattle.std.proofs.lemmas.Grind.{common_steps}
use Rattle.vpg_formula.proofs.Lengths.{words_none, first_is}
use Rattle.vpg_formula.proofs.words.first_word.Goals as goal

pub returns-then-is_empty-clause-none : goal.returns-then-is_empty-clause-none
returns-then-is_empty-clause-none c =
    let gap = c.after_gap-text.ensures.rest in
    let empty : length c.after_gap-text.result.now ≡ 0 = grind (arith, common_steps) in
    words_none c.args.text.now (sym (ap length gap) ∙ empty)

pub returns-clause-some : goal.returns-clause-some
returns-clause-some c =
    let some : 0 < length c.after_gap-text.result.now = omega (arith, c.word_len.ensures.some, c.word_len.ensures.within) in
    first_is c.args.text.now c.after_gap-text.result.now c.split_at.result.0.now c.split_at.result.1.now c.word_len.result c.after_gap-text.ensures.rest some c.word_len.ensures.len c.split_at.ensures.front c.split_at.ensures.back
