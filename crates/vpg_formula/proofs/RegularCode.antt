-- The steps of reading regular formulas, as the code takes them.
use Rattle.std.proofs.Common.{◌≡◌, ℕ, zero, suc, ◌-◌, ◌<◌, Bool, true, false, cond, List, [], ◌∷◌, ◌++◌, length, Option, Some, None, refl, sym, ap, ◌∙◌, arith, append_assoc}
use Rattle.std.specs.Prelude.{codes, ◌&&◌}
use Rattle.vpg_formula.specs.declared.mark.Mark.{Mark}
use Rattle.vpg_formula.specs.declared.mark.Mark.TheVariants as marks
use Rattle.vpg_formula.specs.declared.level.Level.{Level}
use Rattle.vpg_formula.specs.declared.level.Level.TheVariants.{Choice, Sequence, AnyOf, AllOf}
use Rattle.vpg_formula.specs.Regular.{Regular, is_action, other_than, both_of, either_of, complement_of}
use Rattle.vpg_formula.specs.Marks.{regular_marks}
use Rattle.vpg_formula.specs.Levels.{mark_of, is_of_actions, refuses, join_of}
use Rattle.vpg_formula.specs.Reading.{Read, ◌>>=◌, after_word, choice, choice_with, inverted_with, enclosed_with, word_at, operand_with, nothing_read, operand_at}
use Rattle.std.specs.Borrow.{Bor}
use Rattle.vpg_formula.specs.ReadCode.{IsRead, texts}
use Rattle.vpg_formula.proofs.Coming.{IsJoined}

abbrev Words : Type 0
Words = List (List ℕ)

-- ---- operands

at_sign : (invert enclose : Read Regular) (ws rest : Words) → after_word (codes "!") ws ≡ Some rest → operand_with invert enclose ws ≡ invert rest
at_sign invert enclose ws rest e = ap (λ (o : Option Words). choice o invert (choice (after_word (codes "(") ws) enclose (word_at ws))) e

at_parenthesis : (invert enclose : Read Regular) (ws rest : Words) → after_word (codes "!") ws ≡ None → after_word (codes "(") ws ≡ Some rest → operand_with invert enclose ws ≡ enclose rest
at_parenthesis invert enclose ws rest e f =
    ap (λ (o : Option Words). choice o invert (choice (after_word (codes "(") ws) enclose (word_at ws))) e ∙ ap (λ (o : Option Words). choice o enclose (word_at ws)) f

at_word : (invert enclose : Read Regular) (ws : Words) → after_word (codes "!") ws ≡ None → after_word (codes "(") ws ≡ None → operand_with invert enclose ws ≡ word_at ws
at_word invert enclose ws e f =
    ap (λ (o : Option Words). choice o invert (choice (after_word (codes "(") ws) enclose (word_at ws))) e ∙ ap (λ (o : Option Words). choice o enclose (word_at ws)) f

pub operand_inverted : (d : ℕ) (ws rest : Words) → 0 < d → after_word (codes "!") ws ≡ Some rest → operand_at d ws ≡ inverted_with (operand_at (d - 1)) rest
unfolding operand_at
operand_inverted zero ws rest lt e = absurd (omega arith)
operand_inverted (suc d) ws rest lt e =
    let less : suc d - 1 ≡ d = omega arith in
    rw less (at_sign (inverted_with (operand_at d)) (enclosed_with (choice_with (operand_at d)) (codes ")")) ws rest e)

pub operand_enclosed : (d : ℕ) (ws rest : Words) → 0 < d → after_word (codes "!") ws ≡ None → after_word (codes "(") ws ≡ Some rest
    → operand_at d ws ≡ enclosed_with (choice_with (operand_at (d - 1))) (codes ")") rest
unfolding operand_at
operand_enclosed zero ws rest lt e f = absurd (omega arith)
operand_enclosed (suc d) ws rest lt e f =
    let less : suc d - 1 ≡ d = omega arith in
    rw less (at_parenthesis (inverted_with (operand_at d)) (enclosed_with (choice_with (operand_at d)) (codes ")")) ws rest e f)

pub operand_word : (d : ℕ) (ws : Words) → after_word (codes "!") ws ≡ None → after_word (codes "(") ws ≡ None → operand_at d ws ≡ word_at ws
unfolding operand_at
operand_word zero ws e f = at_word nothing_read nothing_read ws e f
operand_word (suc d) ws e f = at_word (inverted_with (operand_at d)) (enclosed_with (choice_with (operand_at d)) (codes ")")) ws e f

pub deep_inverted : (d : ℕ) (ws rest : Words) → d ≡ 0 → after_word (codes "!") ws ≡ Some rest → operand_at d ws ≡ None
unfolding operand_at
deep_inverted zero ws rest z e = at_sign nothing_read nothing_read ws rest e
deep_inverted (suc d) ws rest z e = absurd (omega arith)

pub deep_enclosed : (d : ℕ) (ws rest : Words) → d ≡ 0 → after_word (codes "!") ws ≡ None → after_word (codes "(") ws ≡ Some rest → operand_at d ws ≡ None
unfolding operand_at
deep_enclosed zero ws rest z e f = at_parenthesis nothing_read nothing_read ws rest e f
deep_enclosed (suc d) ws rest z e f = absurd (omega arith)

-- what fails behind a sign
pub inverted_fails : (read : Read Regular) (ws : Words) → read ws ≡ None → inverted_with read ws ≡ None
inverted_fails read ws e = ap (λ (o : Option (Regular × Words)). o >>= λ y. complement_of y.0 >>= λ z. Some (z, y.1)) e

pub enclosed_fails : {A : Type 0} (read : Read A) (close : List ℕ) (ws : Words) → read ws ≡ None → enclosed_with read close ws ≡ None
enclosed_fails {A} read close ws e = ap (λ (o : Option (A × Words)). o >>= λ y. after_word close y.1 >>= λ rest. Some (y.0, rest)) e

complement_is : (x : Regular) (flag : Bool) → flag ≡ is_action x → complement_of x ≡ cond flag (Some (other_than x)) None
complement_is x flag e = ap (λ (t : Bool). cond t (Some (other_than x)) None) (sym e)

pub inverted_refused : (read : Read Regular) (old new : List Mark) (ws rest : Words) (flag : Bool) → flag ≡ false → IsRead regular_marks is_action old new flag rest (read ws) → inverted_with read ws ≡ None
inverted_refused read old new ws rest flag f r =
    ap (λ (o : Option (Regular × Words)). o >>= λ y. complement_of y.0 >>= λ z. Some (z, y.1)) r.is
    ∙ ap (λ (o : Option Regular). o >>= λ z. Some (z, rest)) (complement_is r.item flag r.tells ∙ ap (λ (t : Bool). cond t (Some (other_than r.item)) None) f)

pub inverted_read : (read : Read Regular) (old new : List Mark) (ws rest : Words) (flag : Bool) (all : Option (Regular × Words)) → flag ≡ true → all ≡ inverted_with read ws → IsRead regular_marks is_action old new flag rest (read ws)
    → IsRead regular_marks is_action old (new ++ marks.OtherThan ∷ []) true rest all
inverted_read read old new ws rest flag all f e r = record {
  item = other_than r.item;
  is = e ∙ ap (λ (o : Option (Regular × Words)). o >>= λ y. complement_of y.0 >>= λ z. Some (z, y.1)) r.is
      ∙ ap (λ (o : Option Regular). o >>= λ z. Some (z, rest)) (complement_is r.item flag r.tells ∙ ap (λ (t : Bool). cond t (Some (other_than r.item)) None) f);
  put = ap (λ (t : List Mark). t ++ marks.OtherThan ∷ []) r.put ∙ append_assoc old (regular_marks r.item) (marks.OtherThan ∷ []);
  tells = refl;
}

pub enclosed_read : {A : Type 0} (ms : A → List Mark) (has : A → Bool) (read : Read A) (close : List ℕ) (old new : List Mark) (ws mid rest : Words) (flag : Bool) (all : Option (A × Words)) → all ≡ enclosed_with read close ws
    → IsRead ms has old new flag mid (read ws) → after_word close mid ≡ Some rest → IsRead ms has old new flag rest all
enclosed_read {A} ms has read close old new ws mid rest flag all e r f = record {
  item = r.item;
  is = e ∙ ap (λ (o : Option (A × Words)). o >>= λ y. after_word close y.1 >>= λ rest. Some (y.0, rest)) r.is ∙ ap (λ (o : Option Words). o >>= λ rest. Some (r.item, rest)) f;
  put = r.put;
  tells = r.tells;
}

pub enclosed_open : {A : Type 0} (ms : A → List Mark) (has : A → Bool) (read : Read A) (close : List ℕ) (old new : List Mark) (ws mid : Words) (flag : Bool)
    → IsRead ms has old new flag mid (read ws) → after_word close mid ≡ None → enclosed_with read close ws ≡ None
enclosed_open {A} ms has read close old new ws mid flag r f =
    ap (λ (o : Option (A × Words)). o >>= λ y. after_word close y.1 >>= λ rest. Some (y.0, rest)) r.is ∙ ap (λ (o : Option Words). o >>= λ rest. Some (r.item, rest)) f

-- ---- levels

-- what a level does not refuse it joins
pub level_joins : (level : Level) (x y : Regular) (flag next : Bool) → flag ≡ is_action x → next ≡ is_action y → refuses level flag ≡ false → refuses level next ≡ false
    → IsJoined regular_marks is_action (join_of level) (mark_of level) x y (is_of_actions level)
level_joins Choice x y flag next e f g h = record { whole = _; is = refl; marks_are = refl; tells = refl }
level_joins Sequence x y flag next e f g h = record { whole = _; is = refl; marks_are = refl; tells = refl }
level_joins AnyOf x y true true e f g h =
    record { whole = either_of x y; is = ap (λ (t : Bool). cond (t && is_action y) (Some (either_of x y)) None) (sym e) ∙ ap (λ (t : Bool). cond t (Some (either_of x y)) None) (sym f); marks_are = refl; tells = refl }
level_joins AnyOf x y true false e f g h = absurd cc
level_joins AnyOf x y false next e f g h = absurd cc
level_joins AllOf x y true true e f g h =
    record { whole = both_of x y; is = ap (λ (t : Bool). cond (t && is_action y) (Some (both_of x y)) None) (sym e) ∙ ap (λ (t : Bool). cond t (Some (both_of x y)) None) (sym f); marks_are = refl; tells = refl }
level_joins AllOf x y true false e f g h = absurd cc
level_joins AllOf x y false next e f g h = absurd cc

-- what it refuses it does not join
pub level_refuses : (level : Level) (x y : Regular) (flag : Bool) → flag ≡ is_action x → refuses level flag ≡ true → join_of level x y ≡ None
level_refuses Choice x y flag e f = absurd cc
level_refuses Sequence x y flag e f = absurd cc
level_refuses AnyOf x y true e f = absurd cc
level_refuses AnyOf x y false e f = ap (λ (t : Bool). cond (t && is_action y) (Some (either_of x y)) None) (sym e)
level_refuses AllOf x y true e f = absurd cc
level_refuses AllOf x y false e f = ap (λ (t : Bool). cond (t && is_action y) (Some (both_of x y)) None) (sym e)

pub level_refuses_next : (level : Level) (x y : Regular) (next : Bool) → next ≡ is_action y → refuses level next ≡ true → join_of level x y ≡ None
level_refuses_next Choice x y next e f = absurd cc
level_refuses_next Sequence x y next e f = absurd cc
level_refuses_next AnyOf x y true e f = absurd cc
level_refuses_next AnyOf x y false e f = go (is_action x) (is_action y) e
  where
    go : (t u : Bool) → false ≡ u → cond (t && u) (Some (either_of x y)) None ≡ None
    go true true e = absurd cc
    go true false e = refl
    go false u e = refl
level_refuses_next AllOf x y true e f = absurd cc
level_refuses_next AllOf x y false e f = go (is_action x) (is_action y) e
  where
    go : (t u : Bool) → false ≡ u → cond (t && u) (Some (both_of x y)) None ≡ None
    go true true e = absurd cc
    go true false e = refl
    go false u e = refl

pub texts_length : (xs : List (Bor (List ℕ))) → length (texts xs) ≡ length xs
texts_length [] = refl
texts_length (x ∷ xs) = ap suc (texts_length xs)
