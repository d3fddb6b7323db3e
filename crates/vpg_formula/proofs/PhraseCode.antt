-- The steps of reading formulas, as the code takes them.
use Rattle.std.proofs.Common.{◌≡◌, ℕ, zero, suc, ◌-◌, ◌<◌, ◌≤◌, get_or, take, drop, Bool, true, false, cond, List, [], ◌∷◌, ◌++◌, length, Option, Some, None, Result, Ok, Err, refl, sym, ap, ◌∙◌, arith, append_assoc}
use Rattle.std.specs.Prelude.{codes}
use Rattle.std.specs.Borrow.{Bor}
use Rattle.std.proofs.lemmas.List.{take_all}
use Rattle.vpg_formula.specs.declared.mark.Mark.{Mark}
use Rattle.vpg_formula.specs.declared.mark.Mark.TheVariants as marks
use Rattle.vpg_formula.specs.declared.stop.Stop.{Stop}
use Rattle.vpg_formula.specs.declared.head.Bracket.{Bracket}
use Rattle.vpg_formula.specs.declared.head.Bracket.TheVariants as brackets
use Rattle.vpg_formula.specs.declared.head.Leaf.{Leaf}
use Rattle.vpg_formula.specs.declared.head.Leaf.TheVariants as leaves
use Rattle.vpg_formula.specs.declared.head.Opening.{Opening}
use Rattle.vpg_formula.specs.declared.head.Opening.TheVariants as openings
use Rattle.vpg_formula.specs.declared.joint.Joint.{Joint}
use Rattle.vpg_formula.specs.declared.joint.Joint.TheVariants as joints
use Rattle.vpg_formula.specs.Regular.{Regular, is_action}
use Rattle.vpg_formula.specs.Written.{Prefix, again_and_again, head_of, Fixpoint, is_variable, Head, other, Phrase, behind, conjunction, disjunction, implication, implication_of, closing, along}
use Rattle.vpg_formula.specs.FormulaGrammar.{an_operand, a_formula}
use Rattle.vpg_formula.specs.Marks.{regular_marks, written_marks, phrase_marks, is_endless, prefix_marks, prefix_mark}
use Rattle.vpg_formula.specs.Heads.{leaf_head, opening_head, modality_of, modal_mark, modal_close, binder_of}
use Rattle.vpg_formula.specs.Reading.{Read, ◌>>=◌, after_word, choice, choice_with, enclosed_with, nothing_read, no_phrase, operand_at, action_at, put_behind, bound_with, binding_with, part_behind, part_with, implied_with, implication_with, disjunction_with, phrase_at}
use Rattle.vpg_formula.specs.PhraseCode.{leaf_behind, inner_behind, behind_marks, mark_between, join_between, joined_by}
use Rattle.vpg_formula.specs.ReadCode.{texts, IsRead, Gives}
use Rattle.vpg_formula.proofs.Coming.{IsJoined, fails_too}
use Rattle.vpg_formula.proofs.RegularCode.{enclosed_read}

abbrev Words : Type 0
Words = List (List ℕ)

-- ---- the first word

pub words_split : (xs : List (Bor (List ℕ))) (d : Bor (List ℕ)) → 1 ≤ length xs → texts xs ≡ (get_or xs 0 d).now ∷ texts (take (length xs - 1) (drop 1 xs))
words_split [] d l = absurd (omega arith)
words_split (x ∷ ys) d l =
    let n : suc (length ys) - 1 ≡ length ys = omega arith in
    sym (ap (λ (zs : List (Bor (List ℕ))). x.now ∷ texts zs) (ap (λ (k : ℕ). take k ys) n ∙ take_all (length ys) ys (omega arith)))

pub words_empty : (xs : List (Bor (List ℕ))) → length xs < 1 → texts xs ≡ []
words_empty [] l = refl
words_empty (x ∷ xs) l = absurd (omega arith)

-- ---- operands, by their first word

module _ (path act : Read Regular) (inner formula : Read Phrase) where
  opened : (w : List ℕ) (head : Head) (ws : Words) → head ≡ head_of w → part_with path act inner formula (w ∷ ws) ≡ part_behind path act inner formula head ws
  unfolding part_with
  opened w head ws e = ap (λ (h : Head). part_behind path act inner formula h ws) (sym e)

  leaf_alike : (w : List ℕ) (leaf : Leaf) (ws : Words) → part_behind path act inner formula (leaf_head w leaf) ws ≡ leaf_behind (leaf_head w leaf) ws
  leaf_alike w leaves.True ws = refl
  leaf_alike w leaves.False ws = refl
  leaf_alike w leaves.Name ws = refl
  leaf_alike w leaves.Deadlock ws = refl

  none_there : part_with path act inner formula [] ≡ None
  unfolding part_with
  none_there = refl

pub part_leaf : (d : ℕ) (w : List ℕ) (leaf : Leaf) (ws : Words) → leaf_head w leaf ≡ head_of w → phrase_at an_operand d (w ∷ ws) ≡ leaf_behind (leaf_head w leaf) ws
unfolding phrase_at
part_leaf zero w leaf ws e = opened nothing_read nothing_read no_phrase no_phrase w (leaf_head w leaf) ws e
part_leaf (suc d) w leaf ws e =
    opened (choice_with (operand_at d)) (action_at d) (phrase_at an_operand d) (phrase_at a_formula d) w (leaf_head w leaf) ws e
    ∙ leaf_alike (choice_with (operand_at d)) (action_at d) (phrase_at an_operand d) (phrase_at a_formula d) w leaf ws

pub part_none : (d : ℕ) → phrase_at an_operand d [] ≡ None
unfolding phrase_at
part_none zero = none_there nothing_read nothing_read no_phrase no_phrase
part_none (suc d) = none_there (choice_with (operand_at d)) (action_at d) (phrase_at an_operand d) (phrase_at a_formula d)

pub part_other : (d : ℕ) (w : List ℕ) (ws : Words) → other ≡ head_of w → phrase_at an_operand d (w ∷ ws) ≡ None
unfolding phrase_at
part_other zero w ws e = opened nothing_read nothing_read no_phrase no_phrase w other ws e
part_other (suc d) w ws e = opened (choice_with (operand_at d)) (action_at d) (phrase_at an_operand d) (phrase_at a_formula d) w other ws e

pub part_opens : (d : ℕ) (w : List ℕ) (opening : Opening) (ws : Words) → 0 < d → opening_head opening ≡ head_of w → phrase_at an_operand d (w ∷ ws) ≡ inner_behind (d - 1) (opening_head opening) ws
unfolding phrase_at
part_opens zero w opening ws lt e = absurd (omega arith)
part_opens (suc d) w opening ws lt e =
    let less : suc d - 1 ≡ d = omega arith in
    rw less (opened (choice_with (operand_at d)) (action_at d) (phrase_at an_operand d) (phrase_at a_formula d) w (opening_head opening) ws e)

none_bound : (kind : Fixpoint) (ws : Words) → binding_with no_phrase kind ws ≡ None
none_bound kind [] = refl
none_bound kind (x ∷ ws) = go (is_variable x) (after_word (codes ".") ws)
  where
    go : (t : Bool) (o : Option Words) → cond t (o >>= λ rest. bound_with no_phrase kind x rest) None ≡ None
    go true None = refl
    go true (Some rest) = refl
    go false o = refl

none_put : (prefix : Prefix) (o : Option Words) → (o >>= λ rest. put_behind prefix no_phrase rest) ≡ None
none_put prefix None = refl
none_put prefix (Some rest) = refl

none_opens : (opening : Opening) (ws : Words) → part_behind nothing_read nothing_read no_phrase no_phrase (opening_head opening) ws ≡ None
none_opens (openings.Action w) ws = refl
none_opens openings.Parenthesis ws = refl
none_opens (openings.Front f) ws = refl
none_opens (openings.Bracket b) ws = refl
none_opens openings.Again ws = go (after_word (codes "and") ws)
  where
    go : (o : Option Words) → (o >>= λ us. after_word (codes "again") us >>= λ rest. put_behind again_and_again no_phrase rest) ≡ None
    go None = refl
    go (Some us) = none_put again_and_again (after_word (codes "again") us)
none_opens openings.After ws = refl
none_opens (openings.Binder b) ws = none_bound (binder_of b) ws

pub part_deep : (d : ℕ) (w : List ℕ) (opening : Opening) (ws : Words) → d ≡ 0 → opening_head opening ≡ head_of w → phrase_at an_operand d (w ∷ ws) ≡ None
unfolding phrase_at
part_deep zero w opening ws z e = opened nothing_read nothing_read no_phrase no_phrase w (opening_head opening) ws e ∙ none_opens opening ws
part_deep (suc d) w opening ws z e = absurd (omega arith)

-- ---- behind a regular formula

pub put_gives : (prefix : Prefix) (inner : Read Phrase) (ws : Words) (old mid new : List Mark) (mark : Mark) (r : Result (Bool × Bor (List (Bor (List ℕ)))) Stop) (all : Option (Phrase × Words))
    → mark ≡ prefix_mark prefix → mid ≡ old ++ prefix_marks prefix → all ≡ put_behind prefix inner ws → Gives (behind_marks mark) is_endless mid new r (inner ws) → Gives phrase_marks is_endless old new r all
put_gives prefix inner ws old mid new mark (Ok x) all m e f r = record {
  item = behind prefix r.item;
  is = f ∙ ap (λ (o : Option (Phrase × Words)). o >>= λ p. Some (behind prefix p.0, p.1)) r.is;
  put = r.put ∙ ap (λ (t : List Mark). t ++ (written_marks r.item.written ++ mark ∷ [])) e ∙ append_assoc old (prefix_marks prefix) (written_marks r.item.written ++ mark ∷ [])
      ∙ ap (λ (n : Mark). old ++ (prefix_marks prefix ++ (written_marks r.item.written ++ n ∷ []))) m;
  tells = r.tells;
}
put_gives prefix inner ws old mid new mark (Err stop) all m e f r =
    fails_too stop (inner ws) all (λ g. f ∙ ap (λ (o : Option (Phrase × Words)). o >>= λ p. Some (behind prefix p.0, p.1)) g) r

modal_marks : (bracket : Bracket) (x : Regular) → modal_mark bracket ≡ prefix_mark (along (modality_of bracket) x)
modal_marks brackets.Diamond x = refl
modal_marks brackets.Box x = refl

modal_regular : (bracket : Bracket) (x : Regular) → regular_marks x ≡ prefix_marks (along (modality_of bracket) x)
modal_regular brackets.Diamond x = refl
modal_regular brackets.Box x = refl

modal_closes : (bracket : Bracket) → modal_close bracket ≡ closing (modality_of bracket)
modal_closes brackets.Diamond = refl
modal_closes brackets.Box = refl

pub modal_gives : (d : ℕ) (bracket : Bracket) (ws rest left : Words) (old mid new : List Mark) (flag : Bool) (r : Result (Bool × Bor (List (Bor (List ℕ)))) Stop)
    → IsRead regular_marks is_action old mid flag rest (choice_with (operand_at d) ws) → after_word (modal_close bracket) rest ≡ Some left
    → Gives (behind_marks (modal_mark bracket)) is_endless mid new r (phrase_at an_operand d left)
    → Gives phrase_marks is_endless old new r (enclosed_with (choice_with (operand_at d)) (closing (modality_of bracket)) ws >>= λ x. put_behind (along (modality_of bracket) x.0) (phrase_at an_operand d) x.1)
modal_gives d bracket ws rest left old mid new flag r path close later =
    let m = modality_of bracket in
    let closed = enclosed_read regular_marks is_action (choice_with (operand_at d)) (closing m) old mid ws rest left flag _ refl path (ap (λ (s : List ℕ). after_word s rest) (sym (modal_closes bracket)) ∙ close) in
    put_gives (along m closed.item) (phrase_at an_operand d) left old mid new (modal_mark bracket) r _ (modal_marks bracket closed.item) (closed.put ∙ ap (λ (t : List Mark). old ++ t) (modal_regular bracket closed.item))
    (ap (λ (o : Option (Regular × Words)). o >>= λ x. put_behind (along m x.0) (phrase_at an_operand d) x.1) closed.is) later

-- ---- joints

pub joint_joins : (joint : Joint) (x y : Phrase) (flag next : Bool) → flag ≡ x.is_endless → next ≡ y.is_endless → flag ≡ false → IsJoined phrase_marks is_endless (join_between joint) (mark_between joint) x y next
joint_joins joints.Or x y flag next e f g = record {
  whole = record { written = disjunction x.written y.written; is_endless = y.is_endless };
  is = ap (λ (t : Bool). cond t None (Some (record { written = disjunction x.written y.written; is_endless = y.is_endless }))) (sym e ∙ g);
  marks_are = refl;
  tells = f;
}
joint_joins joints.And x y flag next e f g = record {
  whole = record { written = conjunction x.written y.written; is_endless = y.is_endless };
  is = ap (λ (t : Bool). cond t None (Some (record { written = conjunction x.written y.written; is_endless = y.is_endless }))) (sym e ∙ g);
  marks_are = refl;
  tells = f;
}

pub joint_refuses : (joint : Joint) (x y : Phrase) (flag : Bool) → flag ≡ x.is_endless → flag ≡ true → join_between joint x y ≡ None
joint_refuses joints.Or x y flag e g = ap (λ (t : Bool). cond t None (Some (record { written = disjunction x.written y.written; is_endless = y.is_endless }))) (sym e ∙ g)
joint_refuses joints.And x y flag e g = ap (λ (t : Bool). cond t None (Some (record { written = conjunction x.written y.written; is_endless = y.is_endless }))) (sym e ∙ g)

-- ---- whole formulas

abbrev with_rest : Words → Phrase → Option (Phrase × Words)
with_rest ws s = Some (s, ws)

abbrev formula_inner : ℕ → Read Phrase
formula_inner zero ws = None
formula_inner (suc d) ws = phrase_at a_formula d ws

formula_is : (d : ℕ) (ws : Words) → phrase_at a_formula d ws ≡ implication_with (disjunction_with (phrase_at an_operand d)) (formula_inner d) ws
unfolding phrase_at
formula_is zero ws = refl
formula_is (suc d) ws = refl

pub formula_fails : (d : ℕ) (ws : Words) → joined_by joints.Or (phrase_at an_operand d) ws ≡ None → phrase_at a_formula d ws ≡ None
unfolding implication_with
formula_fails d ws e = formula_is d ws ∙ ap (λ (o : Option (Phrase × Words)). o >>= λ p. choice (after_word (codes "=>") p.1) (implied_with (formula_inner d) p.0) (Some p)) e

module _ (d : ℕ) (ws rest : Words) (old mid : List Mark) (flag : Bool) (r : IsRead phrase_marks is_endless old mid flag rest (joined_by joints.Or (phrase_at an_operand d) ws)) where
  formula_goes : phrase_at a_formula d ws ≡ choice (after_word (codes "=>") rest) (implied_with (formula_inner d) r.item) (Some (r.item, rest))
  unfolding implication_with
  formula_goes = formula_is d ws ∙ ap (λ (o : Option (Phrase × Words)). o >>= λ p. choice (after_word (codes "=>") p.1) (implied_with (formula_inner d) p.0) (Some p)) r.is

  pub formula_plain : after_word (codes "=>") rest ≡ None → IsRead phrase_marks is_endless old mid flag rest (phrase_at a_formula d ws)
  formula_plain e = record { item = r.item; is = formula_goes ∙ ap (λ (o : Option Words). choice o (implied_with (formula_inner d) r.item) (Some (r.item, rest))) e; put = r.put; tells = r.tells }

  module _ (next : Words) (e : after_word (codes "=>") rest ≡ Some next) where
    formula_implied : phrase_at a_formula d ws ≡ implied_with (formula_inner d) r.item next
    formula_implied = formula_goes ∙ ap (λ (o : Option Words). choice o (implied_with (formula_inner d) r.item) (Some (r.item, rest))) e

    pub formula_endless : flag ≡ true → phrase_at a_formula d ws ≡ None
    formula_endless f = formula_implied ∙ go (formula_inner d next)
      where
        refused : (q : Phrase) → implication_of r.item q ≡ None
        refused q = ap (λ (t : Bool). cond t None (Some (record { written = implication r.item.written q.written; is_endless = q.is_endless }))) (sym r.tells ∙ f)

        go : (o : Option (Phrase × Words)) → (o >>= λ q. implication_of r.item q.0 >>= λ s. with_rest q.1 s) ≡ None
        go None = refl
        go (Some q) = ap (λ (o : Option Phrase). o >>= λ s. with_rest q.1 s) (refused q.0)

    formula_none : formula_inner d next ≡ None → phrase_at a_formula d ws ≡ None
    formula_none f = formula_implied ∙ ap (λ (o : Option (Phrase × Words)). o >>= λ q. implication_of r.item q.0 >>= λ s. Some (s, q.1)) f

    inner_zero : (d : ℕ) → d ≡ 0 → formula_inner d next ≡ None
    inner_zero zero z = refl
    inner_zero (suc d) z = absurd (omega arith)

    inner_less : (d : ℕ) → 0 < d → formula_inner d next ≡ phrase_at a_formula (d - 1) next
    inner_less zero lt = absurd (omega arith)
    inner_less (suc d) lt = let less : suc d - 1 ≡ d = omega arith in rw less refl

    pub formula_deep : d ≡ 0 → phrase_at a_formula d ws ≡ None
    formula_deep z = formula_none (inner_zero d z)

    pub formula_later : 0 < d → phrase_at a_formula (d - 1) next ≡ None → phrase_at a_formula d ws ≡ None
    formula_later lt f = formula_none (inner_less d lt ∙ f)

    pub formula_implies : (new : List Mark) (left : Words) (ends : Bool) → 0 < d → flag ≡ false → IsRead phrase_marks is_endless mid new ends left (phrase_at a_formula (d - 1) next)
        → IsRead phrase_marks is_endless old (new ++ marks.Implies ∷ []) ends left (phrase_at a_formula d ws)
    formula_implies new left ends lt f s = record {
      item = record { written = implication r.item.written s.item.written; is_endless = s.item.is_endless };
      is = formula_implied ∙ ap (λ (o : Option (Phrase × Words)). o >>= λ q. implication_of r.item q.0 >>= λ s. Some (s, q.1)) (inner_less d lt ∙ s.is)
          ∙ ap (λ (t : Bool). cond t None (Some (record { written = implication r.item.written s.item.written; is_endless = s.item.is_endless })) >>= λ u. Some (u, left)) (sym r.tells ∙ f);
      put = ap (λ (t : List Mark). t ++ marks.Implies ∷ []) (s.put ∙ ap (λ (t : List Mark). t ++ written_marks s.item.written) r.put) ∙ regroup (written_marks r.item.written) (written_marks s.item.written);
      tells = s.tells;
    }
      where
        regroup : (a b : List Mark) → ((old ++ a) ++ b) ++ marks.Implies ∷ [] ≡ old ++ (a ++ (b ++ marks.Implies ∷ []))
        regroup a b = simp append_assoc
