use Rattle.std.proofs.Common.{◌≡◌, ℕ, List, [], ◌-◌, ◌<◌, length, Some, None, sym, ap, ◌∙◌, arith}
use Rattle.std.proofs.lemmas.Result.{err_from_is_err_and}
use Rattle.std.specs.Borrow.{Bor}
use Rattle.vpg_formula.specs.declared.joint.Joint.TheVariants as joints
use Rattle.vpg_formula.specs.FormulaGrammar.{an_operand, a_formula}
use Rattle.vpg_formula.specs.Marks.{phrase_marks, is_endless}
use Rattle.vpg_formula.specs.Heads.{modal_mark, modal_close}
use Rattle.vpg_formula.specs.PhraseCode.{sign_between, mark_between, join_between, item_between, joined_by}
use Rattle.vpg_formula.specs.Reading.{after_word, phrase_at}
use Rattle.vpg_formula.specs.ReadCode.{texts}
use Rattle.vpg_formula.proofs.Coming.{fails_too, series_fails, comes_first, comes_fails, comes_unjoined, comes_more, comes_last}
use Rattle.vpg_formula.proofs.RegularCode.{texts_length}
use Rattle.vpg_formula.proofs.PhraseCode.{words_split, words_empty, part_leaf, part_none, part_other, part_opens, part_deep, modal_gives, joint_joins, joint_refuses, formula_fails, formula_plain, formula_endless, formula_deep, formula_later, formula_implies}
use Rattle.vpg_formula.proofs.formula.+phrase.Goals as goal

pub formula-returns-in_err-is_endless-clause-gives : goal.formula-returns-in_err-is_endless-clause-gives
formula-returns-in_err-is_endless-clause-gives t c =
    let p = err_from_is_err_and c.from_residual.result c.from_residual.ensures.1 in
    let ws = texts c.args.words.now in
    rw (p.1, p.2) (fails_too c.in_err-is_endless.field-0.0 (joined_by joints.Or (phrase_at an_operand c.args.depth) ws) (phrase_at a_formula c.args.depth ws) (formula_fails c.args.depth ws) c.in_err-is_endless.ensures.gives)

pub formula-returns-in_default-clause-gives : goal.formula-returns-in_default-clause-gives
formula-returns-in_default-clause-gives t c =
    formula_plain c.args.depth (texts c.args.words.now) _ _ _ _ c.in_ok-is_endless.ensures.gives (sym c.in_default.ensures.rest)

pub formula-returns-then-is_endless-clause-gives : goal.formula-returns-then-is_endless-clause-gives
formula-returns-then-is_endless-clause-gives t c =
    formula_endless c.args.depth (texts c.args.words.now) _ _ _ _ c.in_ok-is_endless.ensures.gives (texts c.in-Some.next.now) (sym c.in-Some.ensures.rest) c.if-is_endless.true

pub formula-returns-then-depth-eq0-clause-gives : goal.formula-returns-then-depth-eq0-clause-gives
formula-returns-then-depth-eq0-clause-gives t c =
    formula_deep c.args.depth (texts c.args.words.now) _ _ _ _ c.in_ok-is_endless.ensures.gives (texts c.in-Some.next.now) (sym c.in-Some.ensures.rest) c.if-depth-eq0.true

pub formula-returns-in_err-is_endless-2-clause-gives : goal.formula-returns-in_err-is_endless-2-clause-gives
formula-returns-in_err-is_endless-2-clause-gives t c =
    let p = err_from_is_err_and c.from_residual-in_err-is_endless-2.result c.from_residual-in_err-is_endless-2.ensures.1 in
    let ws = texts c.args.words.now in
    let next = texts c.in-Some.next.now in
    let less : 0 < c.args.depth = omega arith in
    rw (p.1, p.2) (fails_too c.in_err-is_endless-2.field-0.0 (phrase_at a_formula (c.args.depth - 1) next) (phrase_at a_formula c.args.depth ws)
    (formula_later c.args.depth ws _ _ _ _ c.in_ok-is_endless.ensures.gives next (sym c.in-Some.ensures.rest) less) c.in_err-is_endless-2.ensures.gives)

pub formula-returns-clause-gives : goal.formula-returns-clause-gives
formula-returns-clause-gives t c =
    let less : 0 < c.args.depth = omega arith in
    rw c.in-Ok.ensures.items (formula_implies c.args.depth (texts c.args.words.now) _ _ _ _ c.in_ok-is_endless.ensures.gives (texts c.in-Some.next.now) (sym c.in-Some.ensures.rest) _ _ _ less c.if-is_endless.false c.in_ok-is_endless-2.ensures.gives)

pub joined-returns-in_err-is_endless-clause-gives : goal.joined-returns-in_err-is_endless-clause-gives
joined-returns-in_err-is_endless-clause-gives t c =
    let p = err_from_is_err_and c.from_residual.result c.from_residual.ensures.1 in
    let joint = c.args.joint in
    let read = item_between joint (phrase_at an_operand c.args.depth) in
    let ws = texts c.args.words.now in
    rw (p.1, p.2) (fails_too c.in_err-is_endless.field-0.0 (read ws) (joined_by joint (phrase_at an_operand c.args.depth) ws) (series_fails phrase_marks is_endless read (sign_between joint) (join_between joint) ws) c.in_err-is_endless.ensures.gives)

pub joined-loop-next-init : goal.joined-loop-next-init
joined-loop-next-init t c = record {
  within = c.in_ok-is_endless.ensures.shorter;
  comes = comes_first phrase_marks is_endless (item_between c.args.joint (phrase_at an_operand c.args.depth)) (sign_between c.args.joint) (join_between c.args.joint) _ _ _ _ _ c.in_ok-is_endless.ensures.gives;
}

pub joined-returns-then-is_endless-clause-gives : goal.joined-returns-then-is_endless-clause-gives
joined-returns-then-is_endless-clause-gives t c =
    let joint = c.args.joint in
    let rest = texts c.loop-next.rest.now in
    let comes = c.loop-next.invariant.comes in
    let next : after_word (sign_between joint) rest ≡ Some (texts c.in-Some.next.now) = ap (λ (s : List ℕ). after_word s rest) (sym c.sign.ensures) ∙ sym c.in-Some.ensures.rest in
    comes_unjoined phrase_marks is_endless (item_between joint (phrase_at an_operand c.args.depth)) (sign_between joint) (join_between joint) _ _ _ rest _ _ comes next
    (λ y. joint_refuses joint comes.item y c.loop-next.is_endless comes.tells c.if-is_endless.true)

pub joined-returns-in_err-ends-clause-gives : goal.joined-returns-in_err-ends-clause-gives
joined-returns-in_err-ends-clause-gives t c =
    let p = err_from_is_err_and c.from_residual-in_err-ends.result c.from_residual-in_err-ends.ensures.1 in
    let joint = c.args.joint in
    let read = item_between joint (phrase_at an_operand c.args.depth) in
    let ws = texts c.args.words.now in
    let rest = texts c.loop-next.rest.now in
    let next : after_word (sign_between joint) rest ≡ Some (texts c.in-Some.next.now) = ap (λ (s : List ℕ). after_word s rest) (sym c.sign.ensures) ∙ sym c.in-Some.ensures.rest in
    rw (p.1, p.2) (fails_too c.in_err-ends.field-0.0 (read (texts c.in-Some.next.now)) (joined_by joint (phrase_at an_operand c.args.depth) ws)
    (λ e. comes_fails phrase_marks is_endless read (sign_between joint) (join_between joint) _ _ ws rest _ _ c.loop-next.invariant.comes next e) c.in_err-ends.ensures.gives)

pub joined-loop-next-preserved : goal.joined-loop-next-preserved
joined-loop-next-preserved t c =
    let joint = c.args.joint in
    let rest = texts c.loop-next.rest.now in
    let comes = c.loop-next.invariant.comes in
    let side = c.in_ok-ends.ensures.gives in
    let next : after_word (sign_between joint) rest ≡ Some (texts c.in-Some.next.now) = ap (λ (s : List ℕ). after_word s rest) (sym c.sign.ensures) ∙ sym c.in-Some.ensures.rest in
    let whole = joint_joins joint comes.item side.item c.loop-next.is_endless c.in_ok-ends.ends comes.tells side.tells c.if-is_endless.false in
    let left = texts c.in_ok-ends.left.now in
    let less : length left < length rest = omega (arith, texts_length c.in_ok-ends.left.now, texts_length c.loop-next.rest.now, c.in_ok-ends.ensures.shorter, c.in-Some.ensures.shorter) in
    let mark : c.mark.result ≡ mark_between joint = c.mark.ensures in
    record {
      within = omega (arith, c.loop-next.invariant.within, c.in_ok-ends.ensures.shorter, c.in-Some.ensures.shorter);
      comes = rw (c.in-Ok.ensures.items, mark) (comes_more phrase_marks is_endless (item_between joint (phrase_at an_operand c.args.depth)) (sign_between joint) (join_between joint) _ _ _ (mark_between joint) _ rest _ left _ _ c.in_ok-ends.ends comes next side less whole);
    }

pub joined-returns-clause-gives : goal.joined-returns-clause-gives
joined-returns-clause-gives t c =
    let joint = c.args.joint in
    let rest = texts c.loop-next.rest.now in
    let none : after_word (sign_between joint) rest ≡ None = ap (λ (s : List ℕ). after_word s rest) (sym c.sign.ensures) ∙ sym c.in_default.ensures.rest in
    comes_last phrase_marks is_endless (item_between joint (phrase_at an_operand c.args.depth)) (sign_between joint) (join_between joint) _ _ _ rest _ c.loop-next.invariant.comes none

pub modal-returns-clause-gives : goal.modal-returns-clause-gives
modal-returns-clause-gives t c =
    let rest = texts c.in_ok-rest.rest.now in
    let mark : c.mark.result ≡ modal_mark c.args.bracket = c.mark.ensures in
    let close : after_word (modal_close c.args.bracket) rest ≡ Some (texts c.in-Some.left.now) = ap (λ (s : List ℕ). after_word s rest) (sym c.closing.ensures) ∙ sym c.in-Some.ensures.rest in
    modal_gives c.args.depth c.args.bracket (texts c.args.words.now) rest (texts c.in-Some.left.now) _ _ _ _ c.behind.result c.in_ok-rest.ensures.gives close (rw mark at c.behind.ensures.gives)

pub part-returns-in_default-clause-gives : goal.part-returns-in_default-clause-gives
part-returns-in_default-clause-gives t c = ap (phrase_at an_operand c.args.depth) (words_empty c.args.words.now c.in_default.len_below) ∙ part_none c.args.depth

pub part-returns-then-depth-eq0-clause-gives : goal.part-returns-then-depth-eq0-clause-gives
part-returns-then-depth-eq0-clause-gives t c =
    let d : Bor (List ℕ) = record { ref_ptr = (0, 0); now = [] } in
    let split = words_split c.args.words.now d c.in-len1-up.len_at_least in
    ap (phrase_at an_operand c.args.depth) split ∙ part_deep c.args.depth _ c.in-Opening.opening _ c.if-depth-eq0.true c.in-Opening.ensures

pub part-returns-in-Leaf-clause-gives : goal.part-returns-in-Leaf-clause-gives
part-returns-in-Leaf-clause-gives t c =
    let d : Bor (List ℕ) = record { ref_ptr = (0, 0); now = [] } in
    let split = words_split c.args.words.now d c.in-len1-up.len_at_least in
    rw (ap (phrase_at an_operand c.args.depth) split ∙ part_leaf c.args.depth _ c.in-Leaf.leaf _ c.in-Leaf.ensures) c.read_leaf.ensures.gives

pub part-returns-else-depth-eq0-clause-gives : goal.part-returns-else-depth-eq0-clause-gives
part-returns-else-depth-eq0-clause-gives t c =
    let d : Bor (List ℕ) = record { ref_ptr = (0, 0); now = [] } in
    let split = words_split c.args.words.now d c.in-len1-up.len_at_least in
    let less : 0 < c.args.depth = omega arith in
    rw (ap (phrase_at an_operand c.args.depth) split ∙ part_opens c.args.depth _ c.in-Opening.opening _ less c.in-Opening.ensures) c.inner.ensures.gives

pub part-returns-in-Other-clause-gives : goal.part-returns-in-Other-clause-gives
part-returns-in-Other-clause-gives t c =
    let d : Bor (List ℕ) = record { ref_ptr = (0, 0); now = [] } in
    let split = words_split c.args.words.now d c.in-len1-up.len_at_least in
    ap (phrase_at an_operand c.args.depth) split ∙ part_other c.args.depth _ _ c.in-Other.ensures
