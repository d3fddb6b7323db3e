-- Reading formulas word by word, with a list of what is still to come, gets on just where the reader does.
use Rattle.std.proofs.Common.{◌≡◌, ℕ, zero, suc, ◌≤◌, Bool, true, false, cond, List, [], ◌∷◌, ◌++◌, length, Option, Some, None, refl, sym, ap, ◌∙◌, arith, append_assoc}
use Rattle.std.specs.Prelude.{codes}
use Rattle.vpg_formula.specs.Regular.{Regular, is_action}
use Rattle.vpg_formula.specs.Written.{Prefix, again_and_again, after, Fixpoint, Written, deadlock_free, binding, Modality, closing, along, is_variable, Head, leaf, deadlock, of_action, parenthesis, in_front, modality, again, after_action, binder, other, head_of, Phrase, whole, behind, joined, conjunction, disjunction, implication, conjunction_of, disjunction_of, implication_of}
use Rattle.vpg_formula.specs.FormulaGrammar.{an_operand, a_formula}
use Rattle.vpg_formula.specs.Reading.{Read, ◌>>=◌, after_word, choice, more, series_at, starts_operand, choice_with, enclosed_with, nothing_read, operand_at, action_at, whole_if, put_behind, bound_with, binding_with, part_behind, part_with, conjunction_with, disjunction_with, implied_with, implication_with, no_phrase, phrase_at}
use Rattle.vpg_formula.specs.Needs.{shut, bracket, Need, part, ands, ors, implied, variable, exactly, acting, formula_needs, regular_needs, Turn, goes, stuck, if_open, enclosed_needs, modal_needs, again_needs, after_needs, binder_needs, part_turn, step_by, step, Way, way_by, way}
use Rattle.vpg_formula.proofs.Series.{some, word_behind}
use Rattle.vpg_formula.proofs.Phrases.{EndsFormula, EndsOperand, phrase_found}
use Rattle.vpg_formula.specs.FormulaGrammar.{IsPhrase}
use Rattle.vpg_formula.proofs.Series.{series_found}
use Rattle.vpg_formula.proofs.Ways.{Words, is_halted, Sim, Agrees, sim_at, Any, Shorter, found_shorter, IsSign, sign_none, sign_goes, sign_deep, exact_none, exact_some, exactly_is, way_turn, IsActing, enclosed_sim, Unplussed}
use Rattle.vpg_formula.proofs.RegularWays.{operands_agree, choice_agrees}

-- what is read of a formula is no action formula that goes on
abbrev pub plainly : Phrase → Bool
plainly p = true

-- ---- what joins formulas

module _ (item : Read Phrase) (shorter : Shorter item) (P : Phrase → Words → Type 0) (needs : List Need) (agrees : Agrees plainly P item needs) (sign : List ℕ) (join : Phrase → Phrase → Option Phrase) (n : Need)
    (is : IsSign n sign (λ f s. goes true (needs ++ n ∷ [])))
    (stays : (x : Phrase) (rest : Words) → P x rest → x.is_endless ≡ true → after_word sign rest ≡ None)
    (joins : (x y : Phrase) → x.is_endless ≡ false → (z : Phrase) × (join x y ≡ Some z) × ((rest : Words) → P y rest → P z rest)) where
  abbrev Ended : Phrase → Words → Type 0
  Ended x rest = P x rest × (after_word sign rest ≡ None)

  joined_sim : (k : ℕ) (x : Phrase) (ns : List Need) (here : Way) → x.is_endless ≡ false → (o : Option (Phrase × Words))
      → ((y : Phrase × Words) → o ≡ Some y → (z : Phrase) → P z y.1 → Sim plainly Ended (way true (n ∷ ns) y.1) (more item sign join k z y.1) (λ g rest. way g ns rest))
      → Sim plainly P here o (λ g r. way g (n ∷ ns) r)
      → Sim plainly Ended here (o >>= λ y. join x y.0 >>= λ z. more item sign join k z y.1) (λ g rest. way g ns rest)
  joined_sim k x ns here a None so h = h
  joined_sim k x ns here a (Some y) so h =
      let j = joins x y.0 a in
      rw j.1 (sim_at plainly Ended here (way true (n ∷ ns) y.1) _ _ (λ g rest. way g ns rest) h.0 refl (so y refl j.0 (j.2 y.1 h.1)))

  signed_sim : (k : ℕ) (x : Phrase) (ns : List Need) (ws : Words) → P x ws → (o : Option Words) → after_word sign ws ≡ o → (t : Bool) → x.is_endless ≡ t
      → ((rest : Words) → o ≡ Some rest → (y : Phrase × Words) → item rest ≡ Some y → (z : Phrase) → P z y.1 → Sim plainly Ended (way true (n ∷ ns) y.1) (more item sign join k z y.1) (λ g rest. way g ns rest))
      → Sim plainly Ended (way true (n ∷ ns) ws) (choice o (λ rest. item rest >>= λ y. join x y.0 >>= λ z. more item sign join k z y.1) (Some (x, ws))) (λ g rest. way g ns rest)
  signed_sim k x ns ws p None e t a so = (sign_none n sign _ is true ns ws e, (p, e))
  signed_sim k x ns ws p (Some rest) e true a so = let both : None ≡ some rest = sym (stays x ws p a) ∙ e in absurd cc
  signed_sim k x ns ws p (Some rest) e false a so =
      let here : way true (n ∷ ns) ws ≡ way true (needs ++ n ∷ ns) rest = sign_goes n sign _ is true true ns (needs ++ n ∷ []) ws rest e refl ∙ ap (λ (l : List Need). way true l rest) (append_assoc needs (n ∷ []) ns) in
      rw here (joined_sim k x ns (way true (needs ++ n ∷ ns) rest) a (item rest) (so rest refl) (agrees true (n ∷ ns) rest))

  more_sim : (k : ℕ) (x : Phrase) (ns : List Need) (ws : Words) → length ws ≤ k → P x ws → Sim plainly Ended (way true (n ∷ ns) ws) (more item sign join k x ws) (λ g rest. way g ns rest)
  unfolding more
  more_sim zero x ns [] l p = (sign_none n sign _ is true ns [] refl, (p, refl))
  more_sim zero x ns (w ∷ ws) l p = absurd (omega (arith, l))
  more_sim (suc k) x ns ws l p =
      signed_sim k x ns ws p (after_word sign ws) refl x.is_endless refl
      (λ rest e y f z q. more_sim k z ns y.1 (let less = shorter rest y f in let cut = ap length (word_behind sign ws rest e) in omega (arith, l, less, cut)) q)

  pub series_sim : Agrees plainly Ended (series_at item sign join) (needs ++ n ∷ [])
  unfolding series_at
  series_sim f ns ws = rw (append_assoc needs (n ∷ []) ns) (go (way f (needs ++ n ∷ ns) ws) (item ws) (agrees f (n ∷ ns) ws))
    where
      go : (here : Way) (o : Option (Phrase × Words)) → Sim plainly P here o (λ g rest. way g (n ∷ ns) rest) → Sim plainly Ended here (o >>= λ x. more item sign join (length x.1) x.0 x.1) (λ g rest. way g ns rest)
      go here None h = h
      go here (Some x) h = sim_at plainly Ended here (way true (n ∷ ns) x.1) _ _ (λ g rest. way g ns rest) h.0 refl (more_sim (length x.1) x.0 ns x.1 (omega arith) h.1)

joined_is : (sign : Written → Written → Written) (x y : Phrase) → x.is_endless ≡ false → joined sign x y ≡ Some (record { written = sign x.written y.written; is_endless = y.is_endless })
joined_is sign x y e = ap (λ (t : Bool). cond t None (Some (record { written = sign x.written y.written; is_endless = y.is_endless }))) e

module _ (item : Read Phrase) (shorter : Shorter item) (d : ℕ) (agrees : Agrees plainly EndsOperand item (part d ∷ [])) (conjunctions : Shorter (conjunction_with item)) where
  conjunction_sim : Agrees plainly (λ p rest. EndsOperand p rest × (after_word (codes "&&") rest ≡ None)) (conjunction_with item) (part d ∷ ands d ∷ [])
  conjunction_sim =
      series_sim item shorter EndsOperand (part d ∷ []) agrees (codes "&&") conjunction_of (ands d) (record { ends = refl; turn = λ f w s. refl })
      (λ x rest p e. (p e).all) (λ x y e. (_, joined_is conjunction x y e, λ rest p. p))

  disjunction_sim : Agrees plainly (λ p rest. (EndsOperand p rest × (after_word (codes "&&") rest ≡ None)) × (after_word (codes "||") rest ≡ None)) (disjunction_with item) (part d ∷ ands d ∷ ors d ∷ [])
  disjunction_sim =
      series_sim (conjunction_with item) conjunctions (λ p rest. EndsOperand p rest × (after_word (codes "&&") rest ≡ None)) (part d ∷ ands d ∷ []) conjunction_sim (codes "||") disjunction_of (ors d) (record { ends = refl; turn = λ f w s. refl })
      (λ x rest p e. (p.0 e).any) (λ x y e. (_, joined_is disjunction x y e, λ rest p. p))

-- ---- whole formulas

abbrev pub Whole : Phrase → Words → Type 0
Whole p rest = EndsFormula rest

-- behind `=>`
abbrev ImpliedSim : ℕ → Read Phrase → Type 0
ImpliedSim d formula = (p : Phrase) (ns : List Need) (ws rest : Words) → p.is_endless ≡ false → after_word (codes "=>") ws ≡ Some rest
    → Sim plainly Whole (way true (implied d ∷ ns) ws) (implied_with formula p rest) (λ g r. way g ns r)

implied_sign : (d : ℕ) → IsSign (implied d) (codes "=>") (λ f s. if_open d formula_needs)
implied_sign d = record { ends = refl; turn = λ f w s. refl }

implied_zero : ImpliedSim zero no_phrase
implied_zero p ns ws rest e i = sign_deep (implied zero) (codes "=>") _ (implied_sign zero) true ns ws rest i refl

implied_next : (d : ℕ) (formula : Read Phrase) → Agrees plainly Whole formula (formula_needs d) → ImpliedSim (suc d) formula
implied_next d formula agrees p ns ws rest e i =
    sim_at plainly Whole _ (way true (formula_needs d ++ ns) rest) _ _ (λ g r. way g ns r) (sign_goes (implied (suc d)) (codes "=>") _ (implied_sign (suc d)) true true ns (formula_needs d) ws rest i refl) refl
    (go (way true (formula_needs d ++ ns) rest) (formula rest) (agrees true ns rest))
  where
    go : (here : Way) (o : Option (Phrase × Words)) → Sim plainly Whole here o (λ g r. way g ns r) → Sim plainly Whole here (o >>= λ q. implication_of p q.0 >>= λ r. Some (r, q.1)) (λ g r. way g ns r)
    go here None h = h
    go here (Some q) h = rw (joined_is implication p q.0 e) h

implication_sim : (d : ℕ) (item formula : Read Phrase) → Agrees plainly (λ p rest. (EndsOperand p rest × (after_word (codes "&&") rest ≡ None)) × (after_word (codes "||") rest ≡ None)) item (part d ∷ ands d ∷ ors d ∷ [])
    → ImpliedSim d formula → Agrees plainly Whole (implication_with item formula) (formula_needs d)
unfolding implication_with
implication_sim d item formula agrees implies f ns ws = go (way f (formula_needs d ++ ns) ws) (item ws) (agrees f (implied d ∷ ns) ws)
  where
    then : (here : Way) (p : Phrase) (r : Words) → here ≡ way true (implied d ∷ ns) r → (EndsOperand p r × (after_word (codes "&&") r ≡ None)) × (after_word (codes "||") r ≡ None) → (o : Option Words) → after_word (codes "=>") r ≡ o → (t : Bool) → p.is_endless ≡ t
        → Sim plainly Whole here (choice o (implied_with formula p) (Some (p, r))) (λ g rest. way g ns rest)
    then here p r h j None e t a = (h ∙ sign_none (implied d) (codes "=>") _ (implied_sign d) true ns r e, record { all = j.0.1; any = j.1; implies = e })
    then here p r h j (Some rest) e true a = let both : None ≡ some rest = sym ((j.0.0 a).implies) ∙ e in absurd cc
    then here p r h j (Some rest) e false a = sim_at plainly Whole here (way true (implied d ∷ ns) r) _ _ (λ g rest. way g ns rest) h refl (implies p ns r rest a e)

    go : (here : Way) (o : Option (Phrase × Words)) → Sim plainly (λ p rest. (EndsOperand p rest × (after_word (codes "&&") rest ≡ None)) × (after_word (codes "||") rest ≡ None)) here o (λ g rest. way g (implied d ∷ ns) rest)
        → Sim plainly Whole here (o >>= λ p. choice (after_word (codes "=>") p.1) (implied_with formula p.0) (Some p)) (λ g rest. way g ns rest)
    go here None h = h
    go here (Some p) h = then here p.0 p.1 h.0 h.1 (after_word (codes "=>") p.1) refl p.0.is_endless refl

-- ---- operands

-- what becomes of a turn
abbrev after_turn : Turn → List Need → List ℕ → Words → Way
after_turn t ns w ws = way_by (step_by t ns (λ g. step g ns w (starts_operand ws))) (suc (length ws)) (λ g later. way g later ws)

abbrev HeadSim : ℕ → Read Regular → Read Regular → Read Phrase → Read Phrase → Type 0
HeadSim d path act inner formula = (h : Head) (ns : List Need) (w : List ℕ) (ws : Words) → Sim plainly EndsOperand (after_turn (part_turn d h) ns w ws) (part_behind path act inner formula h ws) (λ g rest. way g ns rest)

part_sim : (d : ℕ) (path act : Read Regular) (inner formula : Read Phrase) → HeadSim d path act inner formula → Agrees plainly EndsOperand (part_with path act inner formula) (part d ∷ [])
unfolding part_with
part_sim d path act inner formula heads f ns [] = refl
part_sim d path act inner formula heads f ns (w ∷ ws) = heads (head_of w) ns w ws

-- `deadlock free`
deadlock_sim : (ns : List Need) (ws : Words) → Sim plainly EndsOperand (way true (exactly (codes "free") ∷ ns) ws) (after_word (codes "free") ws >>= λ rest. Some (whole deadlock_free, rest)) (λ g rest. way g ns rest)
deadlock_sim ns ws = go (after_word (codes "free") ws) refl
  where
    go : (o : Option Words) → after_word (codes "free") ws ≡ o → Sim plainly EndsOperand (way true (exactly (codes "free") ∷ ns) ws) (o >>= λ rest. Some (whole deadlock_free, rest)) (λ g rest. way g ns rest)
    go None e = exact_none (exactly (codes "free")) (codes "free") (exactly_is (codes "free")) true ns ws e
    go (Some rest) e = (exact_some (exactly (codes "free")) (codes "free") (exactly_is (codes "free")) true ns ws rest e, λ e. absurd cc)

none_again : (ws : Words) → (after_word (codes "and") ws >>= λ us. after_word (codes "again") us >>= λ rest. put_behind again_and_again no_phrase rest) ≡ None
none_again ws = go (after_word (codes "and") ws)
  where
    go_on : (o : Option Words) → (o >>= λ rest. put_behind again_and_again no_phrase rest) ≡ None
    go_on None = refl
    go_on (Some rest) = refl

    go : (o : Option Words) → (o >>= λ us. after_word (codes "again") us >>= λ rest. put_behind again_and_again no_phrase rest) ≡ None
    go None = refl
    go (Some us) = go_on (after_word (codes "again") us)

none_bound : (kind : Fixpoint) (ws : Words) → binding_with no_phrase kind ws ≡ None
none_bound kind [] = refl
none_bound kind (x ∷ ws) = go (is_variable x) (after_word (codes ".") ws)
  where
    go : (t : Bool) (o : Option Words) → cond t (o >>= λ rest. bound_with no_phrase kind x rest) None ≡ None
    go true None = refl
    go true (Some rest) = refl
    go false o = refl

heads_zero : HeadSim zero nothing_read nothing_read no_phrase no_phrase
heads_zero (leaf f) ns w ws = (refl, λ e. absurd cc)
heads_zero deadlock ns w ws = deadlock_sim ns ws
heads_zero (of_action make) ns w ws = refl
heads_zero parenthesis ns w ws = refl
heads_zero (in_front prefix) ns w ws = refl
heads_zero (modality m) ns w ws = refl
heads_zero again ns w ws = rw (none_again ws) refl
heads_zero after_action ns w ws = refl
heads_zero (binder kind) ns w ws = rw (none_bound kind ws) refl
heads_zero other ns w ws = refl

module _ (d : ℕ) (path act : Read Regular) (inner formula : Read Phrase)
    (paths : Agrees is_action Unplussed path (regular_needs d)) (acts : Agrees is_action IsActing act (acting d ∷ [])) (inners : Agrees plainly EndsOperand inner (part d ∷ [])) (formulas : Agrees plainly Whole formula (formula_needs d)) where
  put_sim : (prefix : Prefix) (f : Bool) (ns : List Need) (ws : Words) → Sim plainly EndsOperand (way f (part d ∷ ns) ws) (put_behind prefix inner ws) (λ g rest. way g ns rest)
  put_sim prefix f ns ws = go (way f (part d ∷ ns) ws) (inner ws) (inners f ns ws)
    where
      go : (here : Way) (o : Option (Phrase × Words)) → Sim plainly EndsOperand here o (λ g rest. way g ns rest) → Sim plainly EndsOperand here (o >>= λ p. Some (behind prefix p.0, p.1)) (λ g rest. way g ns rest)
      go here None h = h
      go here (Some p) h = h

  action_sim : (make : Regular → Written) (ns : List Need) (ws : Words) → Sim plainly EndsOperand (way true (acting d ∷ ns) ws) (act ws >>= λ x. whole_if make x) (λ g rest. way g ns rest)
  action_sim make ns ws = go (way true (acting d ∷ ns) ws) (act ws) (acts true ns ws)
    where
      go : (here : Way) (o : Option (Regular × Words)) → Sim is_action IsActing here o (λ g rest. way g ns rest) → Sim plainly EndsOperand here (o >>= λ x. whole_if make x) (λ g rest. way g ns rest)
      go here None h = h
      go here (Some x) h = (h.0 ∙ ap (λ (g : Bool). way g ns x.1) h.1, λ e. absurd cc)

  group_sim : (ns : List Need) (ws : Words) → Sim plainly EndsOperand (way true (enclosed_needs d ++ ns) ws) (enclosed_with formula (codes ")") ws >>= λ p. Some (whole p.0.written, p.1)) (λ g rest. way g ns rest)
  group_sim ns ws = go (way true (enclosed_needs d ++ ns) ws) (enclosed_with formula (codes ")") ws) (enclosed_sim plainly Whole formula (formula_needs d) formulas shut true ns ws)
    where
      go : (here : Way) (o : Option (Phrase × Words)) → Sim plainly Any here o (λ g rest. way g ns rest) → Sim plainly EndsOperand here (o >>= λ p. Some (whole p.0.written, p.1)) (λ g rest. way g ns rest)
      go here None h = h
      go here (Some p) h = (h.0, λ e. absurd cc)

  modal_sim : (m : Modality) (ns : List Need) (ws : Words) → Sim plainly EndsOperand (way true (modal_needs m d ++ ns) ws) (enclosed_with path (closing m) ws >>= λ x. put_behind (along m x.0) inner x.1) (λ g rest. way g ns rest)
  modal_sim m ns ws = go (way true (modal_needs m d ++ ns) ws) (enclosed_with path (closing m) ws) (enclosed_sim is_action Unplussed path (regular_needs d) paths (bracket m) true (part d ∷ ns) ws)
    where
      go : (here : Way) (o : Option (Regular × Words)) → Sim is_action Any here o (λ g rest. way g (part d ∷ ns) rest) → Sim plainly EndsOperand here (o >>= λ x. put_behind (along m x.0) inner x.1) (λ g rest. way g ns rest)
      go here None h = h
      go here (Some x) h = sim_at plainly EndsOperand here (way (is_action x.0) (part d ∷ ns) x.1) _ _ (λ g rest. way g ns rest) h.0 refl (put_sim (along m x.0) (is_action x.0) ns x.1)

  after_sim : (ns : List Need) (ws : Words) → Sim plainly EndsOperand (way true (after_needs d ++ ns) ws) (act ws >>= λ x. put_behind (after x.0) inner x.1) (λ g rest. way g ns rest)
  after_sim ns ws = go (way true (after_needs d ++ ns) ws) (act ws) (acts true (part d ∷ ns) ws)
    where
      go : (here : Way) (o : Option (Regular × Words)) → Sim is_action IsActing here o (λ g rest. way g (part d ∷ ns) rest) → Sim plainly EndsOperand here (o >>= λ x. put_behind (after x.0) inner x.1) (λ g rest. way g ns rest)
      go here None h = h
      go here (Some x) h = sim_at plainly EndsOperand here (way (is_action x.0) (part d ∷ ns) x.1) _ _ (λ g rest. way g ns rest) h.0 refl (put_sim (after x.0) (is_action x.0) ns x.1)

  again_sim : (ns : List Need) (ws : Words) → Sim plainly EndsOperand (way true (again_needs d ++ ns) ws) (after_word (codes "and") ws >>= λ us. after_word (codes "again") us >>= λ rest. put_behind again_and_again inner rest) (λ g rest. way g ns rest)
  again_sim ns ws = first (after_word (codes "and") ws) refl
    where
      second : (us : Words) (o : Option Words) → after_word (codes "again") us ≡ o → Sim plainly EndsOperand (way true (exactly (codes "again") ∷ part d ∷ ns) us) (o >>= λ rest. put_behind again_and_again inner rest) (λ g rest. way g ns rest)
      second us None e = exact_none (exactly (codes "again")) (codes "again") (exactly_is (codes "again")) true (part d ∷ ns) us e
      second us (Some rest) e = sim_at plainly EndsOperand _ (way true (part d ∷ ns) rest) _ _ (λ g rest. way g ns rest) (exact_some (exactly (codes "again")) (codes "again") (exactly_is (codes "again")) true (part d ∷ ns) us rest e) refl (put_sim again_and_again true ns rest)

      first : (o : Option Words) → after_word (codes "and") ws ≡ o → Sim plainly EndsOperand (way true (again_needs d ++ ns) ws) (o >>= λ us. after_word (codes "again") us >>= λ rest. put_behind again_and_again inner rest) (λ g rest. way g ns rest)
      first None e = exact_none (exactly (codes "and")) (codes "and") (exactly_is (codes "and")) true (exactly (codes "again") ∷ part d ∷ ns) ws e
      first (Some us) e =
          sim_at plainly EndsOperand _ (way true (exactly (codes "again") ∷ part d ∷ ns) us) _ _ (λ g rest. way g ns rest) (exact_some (exactly (codes "and")) (codes "and") (exactly_is (codes "and")) true (exactly (codes "again") ∷ part d ∷ ns) ws us e) refl
          (second us (after_word (codes "again") us) refl)

  bound_sim : (kind : Fixpoint) (x : List ℕ) (ns : List Need) (ws : Words) → Sim plainly EndsOperand (way true (exactly (codes ".") ∷ (formula_needs d ++ ns)) ws) (after_word (codes ".") ws >>= λ rest. bound_with formula kind x rest) (λ g rest. way g ns rest)
  bound_sim kind x ns ws = go (after_word (codes ".") ws) refl
    where
      bound : (here : Way) (o : Option (Phrase × Words)) → Sim plainly Whole here o (λ g rest. way g ns rest) → Sim plainly EndsOperand here (o >>= λ p. Some (record { written = binding kind x p.0.written; is_endless = true }, p.1)) (λ g rest. way g ns rest)
      bound here None h = h
      bound here (Some p) h = (h.0, λ e. h.1)

      go : (o : Option Words) → after_word (codes ".") ws ≡ o → Sim plainly EndsOperand (way true (exactly (codes ".") ∷ (formula_needs d ++ ns)) ws) (o >>= λ rest. bound_with formula kind x rest) (λ g rest. way g ns rest)
      go None e = exact_none (exactly (codes ".")) (codes ".") (exactly_is (codes ".")) true (formula_needs d ++ ns) ws e
      go (Some rest) e =
          sim_at plainly EndsOperand _ (way true (formula_needs d ++ ns) rest) _ _ (λ g rest. way g ns rest) (exact_some (exactly (codes ".")) (codes ".") (exactly_is (codes ".")) true (formula_needs d ++ ns) ws rest e) refl
          (bound (way true (formula_needs d ++ ns) rest) (formula rest) (formulas true ns rest))

  binder_sim : (kind : Fixpoint) (ns : List Need) (ws : Words) → Sim plainly EndsOperand (way true (binder_needs d ++ ns) ws) (binding_with formula kind ws) (λ g rest. way g ns rest)
  binder_sim kind ns [] = refl
  binder_sim kind ns (x ∷ ws) = go (is_variable x) refl
    where
      go : (t : Bool) → is_variable x ≡ t → Sim plainly EndsOperand (way true (variable ∷ exactly (codes ".") ∷ (formula_needs d ++ ns)) (x ∷ ws)) (cond t (after_word (codes ".") ws >>= λ rest. bound_with formula kind x rest) None) (λ g rest. way g ns rest)
      go true e =
          sim_at plainly EndsOperand _ (way true (exactly (codes ".") ∷ (formula_needs d ++ ns)) ws) _ _ (λ g rest. way g ns rest)
          (way_turn variable (exactly (codes ".") ∷ (formula_needs d ++ ns)) true x ws (goes true []) (ap (λ (t : Bool). cond t (goes true []) stuck) e)) refl (bound_sim kind x ns ws)
      go false e = ap is_halted (way_turn variable (exactly (codes ".") ∷ (formula_needs d ++ ns)) true x ws stuck (ap (λ (t : Bool). cond t (goes true []) stuck) e))

  heads_next : HeadSim (suc d) path act inner formula
  heads_next (leaf f) ns w ws = (refl, λ e. absurd cc)
  heads_next deadlock ns w ws = deadlock_sim ns ws
  heads_next (of_action make) ns w ws = action_sim make ns ws
  heads_next parenthesis ns w ws = group_sim ns ws
  heads_next (in_front prefix) ns w ws = put_sim prefix true ns ws
  heads_next (modality m) ns w ws = modal_sim m ns ws
  heads_next again ns w ws = again_sim ns ws
  heads_next after_action ns w ws = after_sim ns ws
  heads_next (binder kind) ns w ws = binder_sim kind ns ws
  heads_next other ns w ws = refl

-- ---- by how many parts may be open

pub record Phrases (d : ℕ) : Type 0 where
  pub parts : Agrees plainly EndsOperand (phrase_at an_operand d) (part d ∷ [])
  pub formulas : Agrees plainly Whole (phrase_at a_formula d) (formula_needs d)

conjunctions_shorter : (d : ℕ) → Shorter (conjunction_with (phrase_at an_operand d))
conjunctions_shorter d = found_shorter _ _ (series_found (IsPhrase an_operand d) (phrase_at an_operand d) (codes "&&") conjunction_of (phrase_found an_operand d))

-- a formula, by its operands
formula_sim : (d : ℕ) (formula : Read Phrase) → Agrees plainly EndsOperand (phrase_at an_operand d) (part d ∷ []) → ImpliedSim d formula → Agrees plainly Whole (implication_with (disjunction_with (phrase_at an_operand d)) formula) (formula_needs d)
formula_sim d formula parts implies =
    implication_sim d (disjunction_with (phrase_at an_operand d)) formula (disjunction_sim (phrase_at an_operand d) (found_shorter _ _ (phrase_found an_operand d)) d parts (conjunctions_shorter d)) implies

phrases_zero : Phrases zero
unfolding phrase_at
phrases_zero = let parts = part_sim zero nothing_read nothing_read no_phrase no_phrase heads_zero in record { parts = parts; formulas = formula_sim zero no_phrase parts implied_zero }

phrases_next : (d : ℕ) → Phrases d → Phrases (suc d)
unfolding phrase_at
phrases_next d p =
    let o = operands_agree d in
    let parts = part_sim (suc d) (choice_with (operand_at d)) (action_at d) (phrase_at an_operand d) (phrase_at a_formula d) (heads_next d (choice_with (operand_at d)) (action_at d) (phrase_at an_operand d) (phrase_at a_formula d) (choice_agrees d o.any o.acts) o.acts p.parts p.formulas) in
    record { parts = parts; formulas = formula_sim (suc d) (phrase_at a_formula d) parts (implied_next d (phrase_at a_formula d) p.formulas) }

pub phrases_agree : (d : ℕ) → Phrases d
phrases_agree zero = phrases_zero
phrases_agree (suc d) = phrases_next d (phrases_agree d)
