-- Reading regular formulas word by word, with a list of what is still to come, gets on just where the reader does.
use Rattle.std.proofs.Common.{◌≡◌, ℕ, zero, suc, ◌⊎◌, inl, inr, Bool, true, false, cond, List, [], ◌∷◌, ◌++◌, length, Option, Some, None, refl, sym, ap, subst, ◌∙◌}
use Rattle.std.specs.Prelude.{codes, bytes_eq, not, ◌&&◌, is_some}
use Rattle.vpg_formula.specs.Regular.{Regular, every_action, no_action, action, other_than, both_of, either_of, repeated, repeated_once, is_action, Label, label_of, labelled, word_formula, complement_of, all_of, any_of, sequence_of, choice_of}
use Rattle.vpg_formula.specs.Reading.{Read, ◌>>=◌, after_word, choice, more, series_at, starts_operand, is_plus, stars_at, starred_with, all_of_with, any_of_with, repetition_with, sequence_with, choice_with, inverted_with, enclosed_with, word_at, operand_with, nothing_read, operand_at, if_action, action_at}
use Rattle.vpg_formula.specs.Needs.{shut, Need, operand, acting, alls, anys, stars, dots, pluses, unacting, regular_needs, action_needs, Turn, goes, skips, stuck, deep, act_needs, path_needs, group_needs, word_turn, if_acting, step_by, step, Way, way_by, way}
use Rattle.vpg_formula.proofs.Series.{some, some_is, word_behind, Finds}
use Rattle.vpg_formula.proofs.Regulars.{operand_found}
use Rattle.vpg_formula.specs.RegularGrammar.{AllOf, AnyOf, Repetition, IsOperand}
use Rattle.vpg_formula.proofs.Series.{series_found}
use Rattle.vpg_formula.proofs.Regulars.{starred_found}
use Rattle.vpg_formula.proofs.Ways.{Words, Sim, Agrees, Any, Shorter, found_shorter, IsSign, IsActing, acts_of, first_agrees, first_acts, enclosed_sim, NoPlus, Unplussed, starred_agrees, free_agrees}

-- ---- operands of regular formulas

word_acts : (w : List ℕ) (x : Regular) → word_formula w ≡ Some x → is_action x ≡ true
word_acts w x e = go (bytes_eq w (codes "true")) (bytes_eq w (codes "false")) (label_of w) e
  where
    go : (a b : Bool) (o : Option Label) → cond a (Some every_action) (cond b (Some no_action) (labelled o)) ≡ Some x → is_action x ≡ true
    go true b o e = ap is_action (sym (some_is every_action x e))
    go false true o e = ap is_action (sym (some_is no_action x e))
    go false false None e = absurd cc
    go false false (Some label) e = ap is_action (sym (some_is (action label) x e))

complement_is : (x : Regular) (t : Bool) → is_action x ≡ t → complement_of x ≡ cond t (Some (other_than x)) None
complement_is x t e = ap (λ (b : Bool). cond b (Some (other_than x)) None) e

-- what becomes of a turn
abbrev after_turn : Turn → List Need → List ℕ → Words → Way
after_turn t ns w ws = way_by (step_by t ns (λ g. step g ns w (starts_operand ws))) (suc (length ws)) (λ g later. way g later ws)

word_sim : (ns : List Need) (w : List ℕ) (ws : Words) → Sim is_action IsActing (after_turn (word_turn w) ns w ws) (word_at (w ∷ ws)) (λ g rest. way g ns rest)
word_sim ns w ws = go (word_formula w) refl
  where
    go : (o : Option Regular) → word_formula w ≡ o → Sim is_action IsActing (after_turn (cond (is_some o) (goes true []) stuck) ns w ws) (o >>= λ x. Some (x, ws)) (λ g rest. way g ns rest)
    go None e = refl
    go (Some x) e = let a = word_acts w x e in (ap (λ (g : Bool). way g ns ws) (sym a), a)

-- by its first word
operand_by : (P : Regular → Words → Type 0) (a b : Bool) (s t u : Turn) (ns : List Need) (w : List ℕ) (ws : Words) (invert enclose : Read Regular) (o : Option (Regular × Words))
    → Sim is_action P (after_turn s ns w ws) (invert ws) (λ g rest. way g ns rest) → Sim is_action P (after_turn t ns w ws) (enclose ws) (λ g rest. way g ns rest)
    → Sim is_action P (after_turn u ns w ws) o (λ g rest. way g ns rest)
    → Sim is_action P (after_turn (cond a s (cond b t u)) ns w ws) (choice (cond a (Some ws) None) invert (choice (cond b (Some ws) None) enclose o)) (λ g rest. way g ns rest)
operand_by P true b s t u ns w ws invert enclose o p q r = p
operand_by P false true s t u ns w ws invert enclose o p q r = q
operand_by P false false s t u ns w ws invert enclose o p q r = r

abbrev acted : Option (Regular × Words) → Option (Regular × Words)
acted o = o >>= λ x. if_action x

acting_by : (a b : Bool) (s t u : Turn) (ns : List Need) (w : List ℕ) (ws : Words) (invert enclose : Read Regular) (o : Option (Regular × Words))
    → Sim is_action IsActing (after_turn s ns w ws) (acted (invert ws)) (λ g rest. way g ns rest) → Sim is_action IsActing (after_turn t ns w ws) (acted (enclose ws)) (λ g rest. way g ns rest)
    → Sim is_action IsActing (after_turn u ns w ws) (acted o) (λ g rest. way g ns rest)
    → Sim is_action IsActing (after_turn (cond a s (cond b t u)) ns w ws) (acted (choice (cond a (Some ws) None) invert (choice (cond b (Some ws) None) enclose o))) (λ g rest. way g ns rest)
acting_by true b s t u ns w ws invert enclose o p q r = p
acting_by false true s t u ns w ws invert enclose o p q r = q
acting_by false false s t u ns w ws invert enclose o p q r = r

-- what is an action formula
acted_sim : (here : Way) (o : Option (Regular × Words)) (later : Bool → Words → Way) → Sim is_action IsActing here o later → Sim is_action IsActing here (acted o) later
acted_sim here None later s = s
acted_sim here (Some x) later s = rw s.1 s

any_sim : (here : Way) (P : Regular → Words → Type 0) (o : Option (Regular × Words)) (later : Bool → Words → Way) → Sim is_action P here o later → Sim is_action Any here o later
any_sim here P None later s = s
any_sim here P (Some x) later s = (s.0, tt)

inverted_sim : (e : ℕ) (read : Read Regular) → Agrees is_action IsActing (acts_of read) (act_needs e) → (ns : List Need) (ws : Words) → Sim is_action IsActing (way true (acting e ∷ ns) ws) (inverted_with read ws) (λ g rest. way g ns rest)
inverted_sim e read agrees ns ws = go (way true (acting e ∷ ns) ws) (read ws) (agrees true ns ws)
  where
    by_kind : (here : Way) (x : Regular × Words) (t : Bool) → is_action x.0 ≡ t → Sim is_action IsActing here (cond t (Some x) None) (λ g rest. way g ns rest)
        → Sim is_action IsActing here (complement_of x.0 >>= λ y. Some (y, x.1)) (λ g rest. way g ns rest)
    by_kind here x true a h = rw (complement_is x.0 true a) (h.0 ∙ ap (λ (g : Bool). way g ns x.1) a, refl)
    by_kind here x false a h = rw (complement_is x.0 false a) h

    go : (here : Way) (o : Option (Regular × Words)) → Sim is_action IsActing here (acted o) (λ g rest. way g ns rest) → Sim is_action IsActing here (o >>= λ x. complement_of x.0 >>= λ y. Some (y, x.1)) (λ g rest. way g ns rest)
    go here None h = h
    go here (Some x) h = by_kind here x (is_action x.0) refl h

-- ---- an action formula in parentheses

abbrev Inactive : Option (Regular × Words) → Type 0
Inactive None = Unit {0}
Inactive (Some y) = is_action y.0 ≡ false

abbrev Kept : Regular × Words → Option (Regular × Words) → Type 0
Kept x None = Unit {0}
Kept x (Some y) = (y ≡ x) ⊎ (is_action y.0 ≡ false)

inactive_kept : (x : Regular × Words) (o : Option (Regular × Words)) → Inactive o → Kept x o
inactive_kept x None i = tt
inactive_kept x (Some y) i = inr i

stars_inactive : (x : Regular) (ws : Words) → is_action x ≡ false → Inactive (stars_at x ws)
unfolding stars_at
stars_inactive x [] e = e
stars_inactive x (w ∷ ws) e = go (bytes_eq w (codes "*")) (is_plus w ws) (stars_inactive (repeated x) ws refl) (stars_inactive (repeated_once x) ws refl)
  where
    go : (a p : Bool) → Inactive (stars_at (repeated x) ws) → Inactive (stars_at (repeated_once x) ws) → Inactive (cond a (stars_at (repeated x) ws) (cond p (stars_at (repeated_once x) ws) (Some (x, w ∷ ws))))
    go true p m o = m
    go false true m o = o
    go false false m o = e

stars_kept : (x : Regular) (ws : Words) → Kept (x, ws) (stars_at x ws)
unfolding stars_at
stars_kept x [] = inl refl
stars_kept x (w ∷ ws) = go (bytes_eq w (codes "*")) (is_plus w ws)
  where
    go : (a p : Bool) → Kept (x, w ∷ ws) (cond a (stars_at (repeated x) ws) (cond p (stars_at (repeated_once x) ws) (Some (x, w ∷ ws))))
    go true p = inactive_kept (x, w ∷ ws) (stars_at (repeated x) ws) (stars_inactive (repeated x) ws refl)
    go false true = inactive_kept (x, w ∷ ws) (stars_at (repeated_once x) ws) (stars_inactive (repeated_once x) ws refl)
    go false false = inl refl

module _ (item : Read Regular) (sign : List ℕ) (join : Regular → Regular → Option Regular) (joins : (x y : Regular) → (z : Regular) × (join x y ≡ Some z) × (is_action z ≡ false)) where
  inactive_next : (k : ℕ) (x : Regular) (o : Option (Regular × Words)) → ((z : Regular) (ws : Words) → is_action z ≡ false → Inactive (more item sign join k z ws)) → Inactive (o >>= λ y. join x y.0 >>= λ z. more item sign join k z y.1)
  inactive_next k x None so = tt
  inactive_next k x (Some y) so = let j = joins x y.0 in rw j.1 (so j.0 y.1 j.2)

  more_inactive : (k : ℕ) (x : Regular) (ws : Words) → is_action x ≡ false → Inactive (more item sign join k x ws)
  unfolding more
  more_inactive zero x ws e = e
  more_inactive (suc k) x ws e = go (after_word sign ws) (λ z vs i. more_inactive k z vs i)
    where
      go : (o : Option Words) → ((z : Regular) (vs : Words) → is_action z ≡ false → Inactive (more item sign join k z vs)) → Inactive (choice o (λ rest. item rest >>= λ y. join x y.0 >>= λ z. more item sign join k z y.1) (Some (x, ws)))
      go None so = e
      go (Some rest) so = inactive_next k x (item rest) so

  more_kept : (k : ℕ) (x : Regular) (ws : Words) → Kept (x, ws) (more item sign join k x ws)
  unfolding more
  more_kept zero x ws = inl refl
  more_kept (suc k) x ws = go (after_word sign ws)
    where
      go : (o : Option Words) → Kept (x, ws) (choice o (λ rest. item rest >>= λ y. join x y.0 >>= λ z. more item sign join k z y.1) (Some (x, ws)))
      go None = inl refl
      go (Some rest) = inactive_kept (x, ws) _ (inactive_next k x (item rest) (λ z vs i. more_inactive k z vs i))

bind_kept : (x : Regular × Words) (o : Option (Regular × Words)) (f : Regular × Words → Option (Regular × Words)) → Kept x o → ((y : Regular × Words) → Kept y (f y)) → ((y : Regular × Words) → is_action y.0 ≡ false → Inactive (f y)) → Kept x (o >>= f)
bind_kept x None f k g h = tt
bind_kept x (Some y) f (inl e) g h = subst (λ (z : Regular × Words). Kept z (f y)) e (g y)
bind_kept x (Some y) f (inr i) g h = inactive_kept x (f y) (h y i)

sequence_joins : (x y : Regular) → (z : Regular) × (sequence_of x y ≡ Some z) × (is_action z ≡ false)
sequence_joins x y = (_, refl, refl)

choice_joins : (x y : Regular) → (z : Regular) × (choice_of x y ≡ Some z) × (is_action z ≡ false)
choice_joins x y = (_, refl, refl)

module _ (op : Read Regular) where
  -- behind what `&&` and `||` join
  abbrev then_dots : Regular × Words → Option (Regular × Words)
  then_dots y = more (repetition_with op) (codes ".") sequence_of (length y.1) y.0 y.1

  abbrev then_pluses : Regular × Words → Option (Regular × Words)
  then_pluses y = more (sequence_with op) (codes "+") choice_of (length y.1) y.0 y.1

  abbrev rest_of : Regular × Words → Option (Regular × Words)
  rest_of x = (stars_at x.0 x.1 >>= λ y. then_dots y) >>= λ z. then_pluses z

  dots_inactive : (x : Regular × Words) → is_action x.0 ≡ false → Inactive (then_dots x)
  dots_inactive x i = more_inactive (repetition_with op) (codes ".") sequence_of sequence_joins (length x.1) x.0 x.1 i

  pluses_inactive : (x : Regular × Words) → is_action x.0 ≡ false → Inactive (then_pluses x)
  pluses_inactive x i = more_inactive (sequence_with op) (codes "+") choice_of choice_joins (length x.1) x.0 x.1 i

  rest_kept : (x : Regular × Words) → Kept x (rest_of x)
  rest_kept x =
      bind_kept x (stars_at x.0 x.1 >>= λ y. then_dots y) (λ z. then_pluses z)
      (bind_kept x (stars_at x.0 x.1) (λ y. then_dots y) (stars_kept x.0 x.1) (λ y. more_kept (repetition_with op) (codes ".") sequence_of sequence_joins (length y.1) y.0 y.1) dots_inactive)
      (λ y. more_kept (sequence_with op) (codes "+") choice_of choice_joins (length y.1) y.0 y.1) pluses_inactive

  -- in front of `)` nothing comes
  closing_rest : (x : Regular) (r : Words) → rest_of (x, codes ")" ∷ r) ≡ Some (x, codes ")" ∷ r)
  unfolding stars_at more
  closing_rest x r = refl

  choice_is : (ws : Words) → choice_with op ws ≡ (any_of_with op ws >>= λ x. rest_of x)
  unfolding series_at starred_with
  choice_is ws = go (any_of_with op ws)
    where
      go : (o : Option (Regular × Words)) → (((o >>= λ x. stars_at x.0 x.1) >>= λ y. then_dots y) >>= λ z. then_pluses z) ≡ (o >>= λ x. rest_of x)
      go None = refl
      go (Some x) = refl

  abbrev shut_off : Option (Regular × Words) → Option (Regular × Words)
  shut_off o = o >>= λ x. after_word (codes ")") x.1 >>= λ rest. Some (x.0, rest)

  pair_of : (x : Regular) → Words → Option (Regular × Words)
  pair_of x rest = Some (x, rest)

  group_at : (x : Regular × Words) → acted (shut_off (rest_of x)) ≡ shut_off (acted (Some x))
  group_at (x, r) = go (after_word (codes ")") r) refl
    where
      closed : (rest : Words) (t : Bool) → is_action x ≡ t → after_word (codes ")") r ≡ Some rest → cond t (Some (x, rest)) None ≡ shut_off (cond t (some (x, r)) None)
      closed rest true a e = sym (ap (λ (o : Option Words). o >>= λ v. some (x, v)) e)
      closed rest false a e = refl

      open_first : (t : Bool) → after_word (codes ")") r ≡ None → None ≡ shut_off (cond t (some (x, r)) None)
      open_first true e = sym (ap (λ (o : Option Words). o >>= λ v. some (x, v)) e)
      open_first false e = refl

      lost : (y : Regular) (o : Option Words) → is_action y ≡ false → acted (o >>= λ v. some (y, v)) ≡ None
      lost y None i = refl
      lost y (Some v) i = ap (λ (t : Bool). cond t (some (y, v)) None) i

      open_rest : (o : Option (Regular × Words)) → Kept (x, r) o → after_word (codes ")") r ≡ None → acted (shut_off o) ≡ None
      open_rest None k e = refl
      open_rest (Some y) (inl same) e = ap (λ (z : Regular × Words). acted (shut_off (Some z))) same ∙ ap (λ (o : Option Words). acted (o >>= λ v. some (x, v))) e
      open_rest (Some y) (inr i) e = lost y.0 (after_word (codes ")") y.1) i

      go : (o : Option Words) → after_word (codes ")") r ≡ o → acted (shut_off (rest_of (x, r))) ≡ shut_off (acted (Some (x, r)))
      go (Some rest) e =
          let parts : r ≡ codes ")" ∷ rest = word_behind (codes ")") r rest e in
          let all : rest_of (x, r) ≡ Some (x, r) = ap (λ (t : Words). rest_of (x, t)) parts ∙ closing_rest x rest ∙ sym (ap (λ (t : Words). some (x, t)) parts) in
          ap (λ (o : Option (Regular × Words)). acted (shut_off o)) all ∙ ap (λ (o : Option Words). acted (o >>= λ v. some (x, v))) e ∙ closed rest (is_action x) refl e
      go None e = open_rest (rest_of (x, r)) (rest_kept (x, r)) e ∙ open_first (is_action x) e

  group_is : (ws : Words) → acted (enclosed_with (choice_with op) (codes ")") ws) ≡ enclosed_with (acts_of (any_of_with op)) (codes ")") ws
  group_is ws = ap (λ (o : Option (Regular × Words)). acted (shut_off o)) (choice_is ws) ∙ go (any_of_with op ws)
    where
      go : (o : Option (Regular × Words)) → acted (shut_off (o >>= λ x. rest_of x)) ≡ shut_off (acted o)
      go None = refl
      go (Some x) = group_at x

-- ---- the levels of regular formulas

all_joins : (x y : Regular) → is_action x ≡ true → is_action y ≡ true → (z : Regular) × (all_of x y ≡ Some z) × (is_action z ≡ true)
all_joins x y a b = (both_of x y, ap (λ (t : Bool). cond (t && is_action y) (Some (both_of x y)) None) a ∙ ap (λ (t : Bool). cond t (Some (both_of x y)) None) b, refl)

any_joins : (x y : Regular) → is_action x ≡ true → is_action y ≡ true → (z : Regular) × (any_of x y ≡ Some z) × (is_action z ≡ true)
any_joins x y a b = (either_of x y, ap (λ (t : Bool). cond (t && is_action y) (Some (either_of x y)) None) a ∙ ap (λ (t : Bool). cond t (Some (either_of x y)) None) b, refl)

all_unlike : (x y : Regular) → is_action y ≡ false → all_of x y ≡ None
all_unlike x y b = ap (λ (t : Bool). cond (is_action x && t) (Some (both_of x y)) None) b ∙ go (is_action x)
  where
    go : (t : Bool) → cond (t && false) (some (both_of x y)) None ≡ None
    go true = refl
    go false = refl

any_unlike : (x y : Regular) → is_action y ≡ false → any_of x y ≡ None
any_unlike x y b = ap (λ (t : Bool). cond (is_action x && t) (Some (either_of x y)) None) b ∙ go (is_action x)
  where
    go : (t : Bool) → cond (t && false) (some (either_of x y)) None ≡ None
    go true = refl
    go false = refl

plus_starts : (ws rest : Words) → NoPlus ws → after_word (codes "+") ws ≡ Some rest → starts_operand rest ≡ true
plus_starts [] rest p e = absurd cc
plus_starts (w ∷ ws) rest p e = go (bytes_eq w (codes "+")) (starts_operand ws) refl p e
  where
    go : (a t : Bool) → starts_operand ws ≡ t → (a && not t) ≡ false → cond a (some ws) None ≡ Some rest → starts_operand rest ≡ true
    go true true s p e = ap starts_operand (sym (some_is ws rest e)) ∙ s
    go true false s p e = absurd cc
    go false t s p e = absurd cc

module _ (e : ℕ) (any : Agrees is_action Any (operand_at e) (operand e ∷ [])) (acts : Agrees is_action IsActing (action_at e) (acting e ∷ [])) where
  op : Read Regular
  op = operand_at e

  alls_sign : IsSign (alls e) (codes "&&") (λ f s. if_acting f (acting e ∷ alls e ∷ []))
  alls_sign = record { ends = refl; turn = λ f w s. refl }

  anys_sign : IsSign (anys e) (codes "||") (λ f s. if_acting f (acting e ∷ alls e ∷ anys e ∷ []))
  anys_sign = record { ends = refl; turn = λ f w s. refl }

  dots_sign : IsSign (dots e) (codes ".") (λ f s. goes f (operand e ∷ alls e ∷ anys e ∷ stars ∷ unacting ∷ dots e ∷ []))
  dots_sign = record { ends = refl; turn = λ f w s. refl }

  pluses_sign : IsSign (pluses e) (codes "+") (λ f s. cond s (goes f (operand e ∷ alls e ∷ anys e ∷ stars ∷ dots e ∷ unacting ∷ pluses e ∷ [])) (skips f))
  pluses_sign = record { ends = refl; turn = λ f w s. go (bytes_eq w (codes "+")) s _ _ }
    where
      go : (a s : Bool) (t u : Turn) → cond (a && s) t u ≡ cond a (cond s t u) u
      go true s t u = refl
      go false s t u = refl

  alls_shorter : Shorter (all_of_with (operand_at e))
  alls_shorter = found_shorter _ _ (series_found (IsOperand e) (operand_at e) (codes "&&") all_of (operand_found e))

  rep_found : Finds (Repetition (IsOperand e)) (repetition_with (operand_at e))
  rep_found =
      starred_found (AnyOf (IsOperand e)) (any_of_with (operand_at e))
      (series_found (AllOf (IsOperand e)) (all_of_with (operand_at e)) (codes "||") any_of (series_found (IsOperand e) (operand_at e) (codes "&&") all_of (operand_found e)))

  all_first : Agrees is_action Any (all_of_with (operand_at e)) (operand e ∷ alls e ∷ [])
  all_first = first_agrees (operand_at e) (found_shorter _ _ (operand_found e)) (acting e ∷ []) acts (codes "&&") all_of (alls e) alls_sign all_joins (λ x y a. ap (λ (t : Bool). cond (t && is_action y) (Some (both_of x y)) None) a) all_unlike (operand e ∷ []) any

  all_acts : Agrees is_action IsActing (acts_of (all_of_with (operand_at e))) (acting e ∷ alls e ∷ [])
  all_acts = first_acts (operand_at e) (found_shorter _ _ (operand_found e)) (acting e ∷ []) acts (codes "&&") all_of (alls e) alls_sign all_joins (λ x y a. ap (λ (t : Bool). cond (t && is_action y) (Some (both_of x y)) None) a) all_unlike

  any_first : Agrees is_action Any (any_of_with (operand_at e)) (operand e ∷ alls e ∷ anys e ∷ [])
  any_first = first_agrees (all_of_with (operand_at e)) alls_shorter (acting e ∷ alls e ∷ []) all_acts (codes "||") any_of (anys e) anys_sign any_joins (λ x y a. ap (λ (t : Bool). cond (t && is_action y) (Some (either_of x y)) None) a) any_unlike (operand e ∷ alls e ∷ []) all_first

  any_acts : Agrees is_action IsActing (acts_of (any_of_with (operand_at e))) (acting e ∷ alls e ∷ anys e ∷ [])
  any_acts = first_acts (all_of_with (operand_at e)) alls_shorter (acting e ∷ alls e ∷ []) all_acts (codes "||") any_of (anys e) anys_sign any_joins (λ x y a. ap (λ (t : Bool). cond (t && is_action y) (Some (either_of x y)) None) a) any_unlike

  rep_agrees : Agrees is_action Unplussed (repetition_with (operand_at e)) (operand e ∷ alls e ∷ anys e ∷ stars ∷ [])
  rep_agrees = starred_agrees (any_of_with (operand_at e)) (operand e ∷ alls e ∷ anys e ∷ []) any_first

  sequence_agrees : Agrees is_action Unplussed (sequence_with (operand_at e)) (operand e ∷ alls e ∷ anys e ∷ stars ∷ dots e ∷ [])
  sequence_agrees =
      free_agrees (repetition_with (operand_at e)) (found_shorter _ _ rep_found) (operand e ∷ alls e ∷ anys e ∷ stars ∷ []) rep_agrees (codes ".") sequence_of (dots e) _ dots_sign (λ f ws rest p i. refl) sequence_joins

  pub choice_agrees : Agrees is_action Unplussed (choice_with (operand_at e)) (operand e ∷ alls e ∷ anys e ∷ stars ∷ dots e ∷ pluses e ∷ [])
  choice_agrees =
      free_agrees (sequence_with (operand_at e)) (found_shorter _ _ (series_found (Repetition (IsOperand e)) (repetition_with (operand_at e)) (codes ".") sequence_of rep_found))
      (operand e ∷ alls e ∷ anys e ∷ stars ∷ dots e ∷ []) sequence_agrees (codes "+") choice_of (pluses e) _ pluses_sign
      (λ f ws rest p i. ap (λ (s : Bool). cond s (goes f (operand e ∷ alls e ∷ anys e ∷ stars ∷ dots e ∷ unacting ∷ pluses e ∷ [])) (skips f)) (plus_starts ws rest p i)) choice_joins

  path_sim : (ns : List Need) (ws : Words) → Sim is_action Any (way true (path_needs e ++ ns) ws) (enclosed_with (choice_with (operand_at e)) (codes ")") ws) (λ g rest. way g ns rest)
  path_sim ns ws = enclosed_sim is_action Unplussed (choice_with (operand_at e)) (regular_needs e) choice_agrees shut true ns ws

  group_sim : (ns : List Need) (ws : Words) → Sim is_action Any (way true (group_needs e ++ ns) ws) (acted (enclosed_with (choice_with (operand_at e)) (codes ")") ws)) (λ g rest. way g ns rest)
  group_sim ns ws = rw (group_is (operand_at e) ws) (enclosed_sim is_action IsActing (acts_of (any_of_with (operand_at e))) (action_needs e) any_acts shut true ns ws)

-- ---- operands, by how many parts may be open

pub record Operands (d : ℕ) : Type 0 where
  pub any : Agrees is_action Any (operand_at d) (operand d ∷ [])
  pub acts : Agrees is_action IsActing (action_at d) (acting d ∷ [])

-- what is acted is an action formula
acting_sim : (here : Way) (o : Option (Regular × Words)) (later : Bool → Words → Way) → Sim is_action Any here (acted o) later → Sim is_action IsActing here (acted o) later
acting_sim here None later s = s
acting_sim here (Some x) later s = go (is_action x.0) refl s
  where
    go : (t : Bool) → is_action x.0 ≡ t → Sim is_action Any here (cond t (Some x) None) later → Sim is_action IsActing here (cond t (Some x) None) later
    go true a s = (s.0, a)
    go false a s = s

operands_next : (e : ℕ) → Operands e → Operands (suc e)
unfolding operand_at
operands_next e o = record { any = any; acts = acts }
  where
    any : Agrees is_action Any (operand_with (inverted_with (operand_at e)) (enclosed_with (choice_with (operand_at e)) (codes ")"))) (operand (suc e) ∷ [])
    any f ns [] = refl
    any f ns (w ∷ ws) =
        operand_by Any (bytes_eq w (codes "!")) (bytes_eq w (codes "(")) (goes true (act_needs e)) (goes true (path_needs e)) (word_turn w) ns w ws (inverted_with (operand_at e)) (enclosed_with (choice_with (operand_at e)) (codes ")")) (word_at (w ∷ ws))
        (any_sim _ IsActing (inverted_with (operand_at e) ws) _ (inverted_sim e (operand_at e) o.acts ns ws)) (path_sim e o.any o.acts ns ws) (any_sim _ IsActing (word_at (w ∷ ws)) _ (word_sim ns w ws))

    acts : Agrees is_action IsActing (acts_of (operand_with (inverted_with (operand_at e)) (enclosed_with (choice_with (operand_at e)) (codes ")")))) (acting (suc e) ∷ [])
    acts f ns [] = refl
    acts f ns (w ∷ ws) =
        acting_by (bytes_eq w (codes "!")) (bytes_eq w (codes "(")) (goes true (act_needs e)) (goes true (group_needs e)) (word_turn w) ns w ws (inverted_with (operand_at e)) (enclosed_with (choice_with (operand_at e)) (codes ")")) (word_at (w ∷ ws))
        (acted_sim _ (inverted_with (operand_at e) ws) _ (inverted_sim e (operand_at e) o.acts ns ws)) (acting_sim _ _ _ (group_sim e o.any o.acts ns ws)) (acted_sim _ (word_at (w ∷ ws)) _ (word_sim ns w ws))

pub operands_agree : (d : ℕ) → Operands d
unfolding operand_at
operands_agree zero = record { any = any; acts = acts }
  where
    any : Agrees is_action Any (operand_with nothing_read nothing_read) (operand zero ∷ [])
    any f ns [] = refl
    any f ns (w ∷ ws) = operand_by Any (bytes_eq w (codes "!")) (bytes_eq w (codes "(")) deep deep (word_turn w) ns w ws nothing_read nothing_read (word_at (w ∷ ws)) refl refl (any_sim _ IsActing (word_at (w ∷ ws)) _ (word_sim ns w ws))

    acts : Agrees is_action IsActing (acts_of (operand_with nothing_read nothing_read)) (acting zero ∷ [])
    acts f ns [] = refl
    acts f ns (w ∷ ws) = acting_by (bytes_eq w (codes "!")) (bytes_eq w (codes "(")) deep deep (word_turn w) ns w ws nothing_read nothing_read (word_at (w ∷ ws)) refl refl (acted_sim _ (word_at (w ∷ ws)) _ (word_sim ns w ws))
operands_agree (suc e) = operands_next e (operands_agree e)
