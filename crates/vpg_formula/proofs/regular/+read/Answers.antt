use Rattle.std.proofs.Common.{◌≡◌, ℕ, List, ◌-◌, ◌<◌, length, Some, None, sym, ap, ◌∙◌, arith}
use Rattle.std.proofs.lemmas.Result.{err_from_is_err_and}
use Rattle.std.specs.Prelude.{codes}
use Rattle.vpg_formula.specs.Regular.{is_action}
use Rattle.vpg_formula.specs.Marks.{regular_marks, star_mark}
use Rattle.vpg_formula.specs.Levels.{item_of, sign_of, join_of, level_of, mark_of, is_of_actions}
use Rattle.vpg_formula.specs.Reading.{after_word, operand_at, choice_with, any_of_with, repetition_with, inverted_with, enclosed_with}
use Rattle.vpg_formula.specs.ReadCode.{texts}
use Rattle.vpg_formula.proofs.Coming.{fails_too, series_fails, comes_first, comes_fails, comes_unjoined, comes_unlike, comes_more, comes_last}
use Rattle.vpg_formula.proofs.Starring.{starred_fails, star_first, star_more, star_last}
use Rattle.vpg_formula.proofs.RegularCode.{operand_inverted, operand_enclosed, operand_word, deep_inverted, deep_enclosed, inverted_fails, enclosed_fails, inverted_refused, inverted_read, enclosed_read, enclosed_open, level_joins, level_refuses, level_refuses_next, texts_length}
use Rattle.vpg_formula.proofs.regular.+read.Goals as goal

pub operand-returns-then-depth-eq0-clause-gives : goal.operand-returns-then-depth-eq0-clause-gives
operand-returns-then-depth-eq0-clause-gives t c = deep_inverted c.args.depth (texts c.args.words.now) (texts c.in-Some.rest.now) c.if-depth-eq0.true (sym c.in-Some.ensures.rest)

pub operand-returns-in_err-is_action-clause-gives : goal.operand-returns-in_err-is_action-clause-gives
operand-returns-in_err-is_action-clause-gives t c =
    let p = err_from_is_err_and c.from_residual.result c.from_residual.ensures.1 in
    let read = operand_at (c.args.depth - 1) in
    let ws = texts c.in-Some.rest.now in
    let is = operand_inverted c.args.depth (texts c.args.words.now) ws (omega arith) (sym c.in-Some.ensures.rest) in
    rw (p.1, p.2, is) (fails_too c.in_err-is_action.field-0.0 (read ws) (inverted_with read ws) (inverted_fails read ws) c.in_err-is_action.ensures.gives)

pub operand-returns-then-not-is_action-clause-gives : goal.operand-returns-then-not-is_action-clause-gives
operand-returns-then-not-is_action-clause-gives t c =
    let ws = texts c.in-Some.rest.now in
    let is = operand_inverted c.args.depth (texts c.args.words.now) ws (omega arith) (sym c.in-Some.ensures.rest) in
    is ∙ inverted_refused (operand_at (c.args.depth - 1)) _ _ ws _ c.in_ok-is_action.is_action c.if-not-is_action.true c.in_ok-is_action.ensures.gives

pub operand-returns-in-Some-clause-gives : goal.operand-returns-in-Some-clause-gives
operand-returns-in-Some-clause-gives t c =
    let ws = texts c.in-Some.rest.now in
    let is = operand_inverted c.args.depth (texts c.args.words.now) ws (omega arith) (sym c.in-Some.ensures.rest) in
    rw c.in-Ok.ensures.items (inverted_read (operand_at (c.args.depth - 1)) _ _ ws _ c.in_ok-is_action.is_action _ c.if-not-is_action.false is c.in_ok-is_action.ensures.gives)

pub operand-returns-then-depth-eq0-2-clause-gives : goal.operand-returns-then-depth-eq0-2-clause-gives
operand-returns-then-depth-eq0-2-clause-gives t c =
    deep_enclosed c.args.depth (texts c.args.words.now) (texts c.in-Some-after_word.rest.now) c.if-depth-eq0-2.true (sym c.in_default.ensures.rest) (sym c.in-Some-after_word.ensures.rest)

pub operand-returns-in_err-is_action-2-clause-gives : goal.operand-returns-in_err-is_action-2-clause-gives
operand-returns-in_err-is_action-2-clause-gives t c =
    let p = err_from_is_err_and c.from_residual-in_err-is_action-2.result c.from_residual-in_err-is_action-2.ensures.1 in
    let read = choice_with (operand_at (c.args.depth - 1)) in
    let ws = texts c.in-Some-after_word.rest.now in
    let is = operand_enclosed c.args.depth (texts c.args.words.now) ws (omega arith) (sym c.in_default.ensures.rest) (sym c.in-Some-after_word.ensures.rest) in
    rw (p.1, p.2, is) (fails_too c.in_err-is_action-2.field-0.0 (read ws) (enclosed_with read (codes ")") ws) (enclosed_fails read (codes ")") ws) c.in_err-is_action-2.ensures.gives)

pub operand-returns-in-Some-after_word-2-clause-gives : goal.operand-returns-in-Some-after_word-2-clause-gives
operand-returns-in-Some-after_word-2-clause-gives t c =
    let read = choice_with (operand_at (c.args.depth - 1)) in
    let ws = texts c.in-Some-after_word.rest.now in
    let is = operand_enclosed c.args.depth (texts c.args.words.now) ws (omega arith) (sym c.in_default.ensures.rest) (sym c.in-Some-after_word.ensures.rest) in
    enclosed_read regular_marks is_action read (codes ")") _ _ ws (texts c.in_ok-is_action-2.left.now) _ _ _ is c.in_ok-is_action-2.ensures.gives (sym c.in-Some-after_word-2.ensures.rest)

pub operand-returns-in-None-clause-gives : goal.operand-returns-in-None-clause-gives
operand-returns-in-None-clause-gives t c =
    let read = choice_with (operand_at (c.args.depth - 1)) in
    let ws = texts c.in-Some-after_word.rest.now in
    let is = operand_enclosed c.args.depth (texts c.args.words.now) ws (omega arith) (sym c.in_default.ensures.rest) (sym c.in-Some-after_word.ensures.rest) in
    is ∙ enclosed_open regular_marks is_action read (codes ")") _ _ ws (texts c.in_ok-is_action-2.left.now) _ c.in_ok-is_action-2.ensures.gives (sym c.in-None.ensures.rest)

pub operand-returns-clause-gives : goal.operand-returns-clause-gives
operand-returns-clause-gives t c = rw (operand_word c.args.depth (texts c.args.words.now) (sym c.in_default.ensures.rest) (sym c.in_default-after_word.ensures.rest)) c.word.ensures.gives

pub series-returns-in_err-is_action-clause-gives : goal.series-returns-in_err-is_action-clause-gives
series-returns-in_err-is_action-clause-gives t c =
    let p = err_from_is_err_and c.from_residual.result c.from_residual.ensures.1 in
    let read = item_of c.args.level (operand_at c.args.depth) in
    let ws = texts c.args.words.now in
    rw (p.1, p.2) (fails_too c.in_err-is_action.field-0.0 (read ws) (level_of c.args.level (operand_at c.args.depth) ws) (series_fails regular_marks is_action read (sign_of c.args.level) (join_of c.args.level) ws) c.in_err-is_action.ensures.gives)

pub series-loop-behind-init : goal.series-loop-behind-init
series-loop-behind-init t c = record {
  within = c.in_ok-is_action.ensures.shorter;
  comes = comes_first regular_marks is_action (item_of c.args.level (operand_at c.args.depth)) (sign_of c.args.level) (join_of c.args.level) _ _ _ _ _ c.in_ok-is_action.ensures.gives;
}

pub series-returns-then-refuses-clause-gives : goal.series-returns-then-refuses-clause-gives
series-returns-then-refuses-clause-gives t c =
    let level = c.args.level in
    let rest = texts c.loop-behind.rest.now in
    let comes = c.loop-behind.invariant.comes in
    let behind : after_word (sign_of level) rest ≡ Some (texts c.in-Some.behind.now) = ap (λ (s : List ℕ). after_word s rest) (sym c.sign.ensures) ∙ sym c.in-Some.ensures.rest in
    comes_unjoined regular_marks is_action (item_of level (operand_at c.args.depth)) (sign_of level) (join_of level) _ _ _ rest _ _ comes behind
    (λ y. level_refuses level comes.item y c.loop-behind.is_action comes.tells (sym c.refuses.ensures ∙ c.if-refuses.true))

pub series-returns-in_err-is_next-clause-gives : goal.series-returns-in_err-is_next-clause-gives
series-returns-in_err-is_next-clause-gives t c =
    let p = err_from_is_err_and c.from_residual-in_err-is_next.result c.from_residual-in_err-is_next.ensures.1 in
    let level = c.args.level in
    let read = item_of level (operand_at c.args.depth) in
    let ws = texts c.args.words.now in
    let rest = texts c.loop-behind.rest.now in
    let behind : after_word (sign_of level) rest ≡ Some (texts c.in-Some.behind.now) = ap (λ (s : List ℕ). after_word s rest) (sym c.sign.ensures) ∙ sym c.in-Some.ensures.rest in
    rw (p.1, p.2) (fails_too c.in_err-is_next.field-0.0 (read (texts c.in-Some.behind.now)) (level_of level (operand_at c.args.depth) ws)
    (λ e. comes_fails regular_marks is_action read (sign_of level) (join_of level) _ _ ws rest _ _ c.loop-behind.invariant.comes behind e) c.in_err-is_next.ensures.gives)

pub series-returns-then-refuses-2-clause-gives : goal.series-returns-then-refuses-2-clause-gives
series-returns-then-refuses-2-clause-gives t c =
    let level = c.args.level in
    let rest = texts c.loop-behind.rest.now in
    let comes = c.loop-behind.invariant.comes in
    let next = c.in_ok-is_next.ensures.gives in
    let behind : after_word (sign_of level) rest ≡ Some (texts c.in-Some.behind.now) = ap (λ (s : List ℕ). after_word s rest) (sym c.sign.ensures) ∙ sym c.in-Some.ensures.rest in
    comes_unlike regular_marks is_action (item_of level (operand_at c.args.depth)) (sign_of level) (join_of level) _ _ _ _ rest _ _ _ _ comes behind next
    (level_refuses_next level comes.item next.item c.in_ok-is_next.is_next next.tells (sym c.refuses-in-Some.ensures ∙ c.if-refuses-2.true))

pub series-loop-behind-preserved : goal.series-loop-behind-preserved
series-loop-behind-preserved t c =
    let level = c.args.level in
    let rest = texts c.loop-behind.rest.now in
    let comes = c.loop-behind.invariant.comes in
    let next = c.in_ok-is_next.ensures.gives in
    let behind : after_word (sign_of level) rest ≡ Some (texts c.in-Some.behind.now) = ap (λ (s : List ℕ). after_word s rest) (sym c.sign.ensures) ∙ sym c.in-Some.ensures.rest in
    let whole = level_joins level comes.item next.item c.loop-behind.is_action c.in_ok-is_next.is_next comes.tells next.tells (sym c.refuses.ensures ∙ c.if-refuses.false) (sym c.refuses-in-Some.ensures ∙ c.if-refuses-2.false) in
    let left = texts c.in_ok-is_next.left.now in
    let less : length left < length rest = omega (arith, texts_length c.in_ok-is_next.left.now, texts_length c.loop-behind.rest.now, c.in_ok-is_next.ensures.shorter, c.in-Some.ensures.shorter) in
    let mark : c.mark.result ≡ mark_of level = c.mark.ensures in
    record {
      within = omega (arith, c.loop-behind.invariant.within, c.in_ok-is_next.ensures.shorter, c.in-Some.ensures.shorter);
      comes = rw (c.in-Ok.ensures.items, mark, c.is_of_actions-is_action.ensures) (comes_more regular_marks is_action (item_of level (operand_at c.args.depth)) (sign_of level) (join_of level) _ _ _ (mark_of level) _ rest _ left _ _ (is_of_actions level) comes behind next less whole);
    }

pub series-returns-clause-gives : goal.series-returns-clause-gives
series-returns-clause-gives t c =
    let level = c.args.level in
    let rest = texts c.loop-behind.rest.now in
    let none : after_word (sign_of level) rest ≡ None = ap (λ (s : List ℕ). after_word s rest) (sym c.sign.ensures) ∙ sym c.in_default.ensures.rest in
    comes_last regular_marks is_action (item_of level (operand_at c.args.depth)) (sign_of level) (join_of level) _ _ _ rest _ c.loop-behind.invariant.comes none

pub starred-returns-in_err-is_action-clause-gives : goal.starred-returns-in_err-is_action-clause-gives
starred-returns-in_err-is_action-clause-gives t c =
    let p = err_from_is_err_and c.from_residual.result c.from_residual.ensures.1 in
    let read = operand_at c.args.depth in
    let ws = texts c.args.words.now in
    rw (p.1, p.2) (fails_too c.in_err-is_action.field-0.0 (any_of_with read ws) (repetition_with read ws) (starred_fails read ws) c.in_err-is_action.ensures.gives)

pub starred-loop-is_plus-init : goal.starred-loop-is_plus-init
starred-loop-is_plus-init t c = record {
  within = c.in_ok-is_action.ensures.shorter;
  starring = star_first (operand_at c.args.depth) _ _ _ _ _ c.in_ok-is_action.ensures.gives;
}

pub starred-loop-is_plus-preserved : goal.starred-loop-is_plus-preserved
starred-loop-is_plus-preserved t c =
    let mark : c.star_mark.result ≡ star_mark c.in-Some.is_plus = c.star_mark.ensures in
    record {
      within = omega (arith, c.loop-is_plus.invariant.within, c.in-Some.ensures.shorter);
      starring = rw (c.in-Ok.ensures.items, mark) (star_more (operand_at c.args.depth) _ _ _ (texts c.loop-is_plus.rest.now) (texts c.in-Some.left.now) _ c.in-Some.is_plus c.loop-is_plus.invariant.starring (sym c.in-Some.ensures.next));
    }

pub starred-returns-clause-gives : goal.starred-returns-clause-gives
starred-returns-clause-gives t c = star_last (operand_at c.args.depth) _ _ _ _ _ c.loop-is_plus.invariant.starring (sym c.in_default.ensures.next)
