-- The names of a formula are found by its words alone.
use Rattle.std.proofs.Common.{◌≡◌, ℕ, zero, suc, ◌⊎◌, inl, inr, Bool, true, false, cond, List, [], ◌∷◌, ◌++◌, map, Option, Some, None, refl, sym, ap, ap₂, subst, ◌∙◌, append_assoc}
use Rattle.std.specs.Prelude.{codes, bytes_eq, not, ◌||◌}
use Rattle.std.specs.List.{list_any}
use Rattle.std.proofs.lemmas.Bool.{cases_Bool}
use Rattle.std.proofs.lemmas.List.{append-nil}
use Rattle.std.proofs.lemmas.List.Folds.{list_any-append}
use Rattle.vpg_features.proofs.Held.{eq_bytes}
use Rattle.vpg_formula.specs.Regular.{Regular, word_formula}
use Rattle.vpg_formula.specs.RegularGrammar.{Form, Operand, word, inverted, enclosed, Series, one, more as next, Starred, plain as unstarred, star, plus, AllOf, AnyOf, Repetition, Sequence, Choice, Nothing, IsOperand, IsRegular}
use Rattle.vpg_formula.specs.Written.{Prefix, negated, some_path, every_path, always, never, possibly, inevitably, again_and_again, after, Modality, diamond, box, closing, along, is_variable, Written, constant, named, can, will, prefixed, conjunction, disjunction, implication, Head, leaf, deadlock, of_action, parenthesis, in_front, modality, again, after_action, binder, other, head_of, Phrase, whole, joined}
use Rattle.vpg_formula.specs.FormulaGrammar.{PhraseForm, IsAction, Part, at_leaf, at_deadlock, at_action as acting, at_parenthesis, at_front, at_modality, at_again, at_after, at_binder, Conjunction, Disjunction, Implication, plain, implies, NoPath, NoPhrase, Extent, an_operand, a_formula, IsPhrase}
use Rattle.vpg_formula.specs.Standings.{Bound, Context, negated_in, inside, behind_prefix, is_among, standing_under, standing_in, standing_of, uses, is_like}
use Rattle.vpg_formula.specs.Naming.{Region, in_formula, in_path, at_action, in_action, Open, a_parenthesis, a_fixpoint, Spot, region_behind_head, closed_in, closed, behind, is_bound, known_at}
use Rattle.vpg_formula.specs.Heads.{view_head}
use Rattle.vpg_formula.specs.declared.head.Head as heads
use Rattle.vpg_formula.specs.declared.head.Head.TheVariants as views
use Rattle.vpg_formula.specs.declared.head.Leaf.TheVariants as leaves
use Rattle.vpg_formula.specs.declared.head.Opening.TheVariants as openings
use Rattle.vpg_formula.specs.declared.head.ActionWord.TheVariants as action_words
use Rattle.vpg_formula.specs.declared.head.Front.TheVariants as fronts
use Rattle.vpg_formula.specs.declared.head.Bracket.TheVariants as brackets
use Rattle.vpg_formula.specs.declared.head.Binder.TheVariants as binders
use Rattle.vpg_formula.specs.declared.uses.Standing.{Standing}
use Rattle.vpg_formula.specs.declared.uses.Standing.TheVariants.{Known, Unknown}
use Rattle.vpg_formula.proofs.Series.{some, some_is}

abbrev Words : Type 0
Words = List (List ℕ)

abbrev spot : Region → List Open → Spot
spot region around = record { region = region; around = around }

-- ---- what a head is

-- A head that the code knows; which words are names, and which open a parenthesis.
record View (w : List ℕ) (h : Head) : Type 0 where
  head : heads.Head
  is : view_head w head ≡ h
  name : head ≡ views.Leaf leaves.Name → is_variable w ≡ true
  opens : head ≡ views.Opening openings.Parenthesis → bytes_eq w (codes "(") ≡ true

-- a head that is neither
plain_view : (w : List ℕ) (k : heads.Head) → (k ≡ views.Leaf leaves.Name → ⊥) → (k ≡ views.Opening openings.Parenthesis → ⊥) → View w (view_head w k)
plain_view w k n o = record { head = k; is = refl; name = λ e. absurd (n e); opens = λ e. absurd (o e) }

pick : (w : List ℕ) (t : Bool) (a rest : Head) → View w a → View w rest → View w (cond t a rest)
pick w true a rest v u = v
pick w false a rest v u = u

name_view : (w : List ℕ) (t : Bool) → is_variable w ≡ t → View w (cond t (leaf (named w)) other)
name_view w true e = record { head = views.Leaf leaves.Name; is = refl; name = λ f. e; opens = λ f. absurd cc }
name_view w false e = plain_view w views.Other (λ e. cc) (λ e. cc)

open_view : (w : List ℕ) (t : Bool) (rest : Head) → bytes_eq w (codes "(") ≡ t → View w rest → View w (cond t parenthesis rest)
open_view w true rest e u = record { head = views.Opening openings.Parenthesis; is = refl; name = λ f. absurd cc; opens = λ f. e }
open_view w false rest e u = u

head_view : (w : List ℕ) → View w (head_of w)
head_view w =
    pick w _ _ _ (plain_view w (views.Leaf leaves.True) (λ e. cc) (λ e. cc)) (pick w _ _ _ (plain_view w (views.Leaf leaves.False) (λ e. cc) (λ e. cc))
    (pick w _ _ _ (plain_view w (views.Leaf leaves.Deadlock) (λ e. cc) (λ e. cc)) (pick w _ _ _ (plain_view w (views.Opening (openings.Action action_words.Can)) (λ e. cc) (λ e. cc))
    (pick w _ _ _ (plain_view w (views.Opening (openings.Action action_words.Will)) (λ e. cc) (λ e. cc)) (open_view w _ _ refl
    (pick w _ _ _ (plain_view w (views.Opening (openings.Front fronts.Not)) (λ e. cc) (λ e. cc)) (pick w _ _ _ (plain_view w (views.Opening (openings.Front fronts.Always)) (λ e. cc) (λ e. cc))
    (pick w _ _ _ (plain_view w (views.Opening (openings.Front fronts.Never)) (λ e. cc) (λ e. cc)) (pick w _ _ _ (plain_view w (views.Opening (openings.Front fronts.Possibly)) (λ e. cc) (λ e. cc))
    (pick w _ _ _ (plain_view w (views.Opening (openings.Front fronts.Inevitably)) (λ e. cc) (λ e. cc)) (pick w _ _ _ (plain_view w (views.Opening openings.Again) (λ e. cc) (λ e. cc))
    (pick w _ _ _ (plain_view w (views.Opening openings.After) (λ e. cc) (λ e. cc)) (pick w _ _ _ (plain_view w (views.Opening (openings.Bracket brackets.Diamond)) (λ e. cc) (λ e. cc))
    (pick w _ _ _ (plain_view w (views.Opening (openings.Bracket brackets.Box)) (λ e. cc) (λ e. cc)) (pick w _ _ _ (plain_view w (views.Opening (openings.Binder binders.Mu)) (λ e. cc) (λ e. cc))
    (pick w _ _ _ (plain_view w (views.Opening (openings.Binder binders.Nu)) (λ e. cc) (λ e. cc)) (name_view w (is_variable w) refl)))))))))))))))))

leaf_cases : (w : List ℕ) (f : Written) → head_of w ≡ leaf f → ((b : Bool) × (f ≡ constant b)) ⊎ ((f ≡ named w) × (is_variable w ≡ true))
leaf_cases w f e = let v = head_view w in go v.head (v.is ∙ e) v.name
  where
    go : (k : heads.Head) → view_head w k ≡ leaf f → (k ≡ views.Leaf leaves.Name → is_variable w ≡ true) → ((b : Bool) × (f ≡ constant b)) ⊎ ((f ≡ named w) × (is_variable w ≡ true))
    go (views.Leaf leaves.True) e n = inl (true, cc)
    go (views.Leaf leaves.False) e n = inl (false, cc)
    go (views.Leaf leaves.Name) e n = inr (cc, n refl)
    go (views.Leaf leaves.Deadlock) e n = absurd cc
    go (views.Opening (openings.Action action_words.Can)) e n = absurd cc
    go (views.Opening (openings.Action action_words.Will)) e n = absurd cc
    go (views.Opening openings.Parenthesis) e n = absurd cc
    go (views.Opening (openings.Front f)) e n = absurd cc
    go (views.Opening (openings.Bracket b)) e n = absurd cc
    go (views.Opening openings.Again) e n = absurd cc
    go (views.Opening openings.After) e n = absurd cc
    go (views.Opening (openings.Binder b)) e n = absurd cc
    go views.Other e n = absurd cc

action_cases : (w : List ℕ) (make : Regular → Written) → head_of w ≡ of_action make → (make ≡ can) ⊎ (make ≡ will)
action_cases w make e = let v = head_view w in go v.head (v.is ∙ e)
  where
    go : (k : heads.Head) → view_head w k ≡ of_action make → (make ≡ can) ⊎ (make ≡ will)
    go (views.Opening (openings.Action action_words.Can)) e = inl cc
    go (views.Opening (openings.Action action_words.Will)) e = inr cc
    go (views.Leaf leaves.True) e = absurd cc
    go (views.Leaf leaves.False) e = absurd cc
    go (views.Leaf leaves.Name) e = absurd cc
    go (views.Leaf leaves.Deadlock) e = absurd cc
    go (views.Opening openings.Parenthesis) e = absurd cc
    go (views.Opening (openings.Front f)) e = absurd cc
    go (views.Opening (openings.Bracket b)) e = absurd cc
    go (views.Opening openings.Again) e = absurd cc
    go (views.Opening openings.After) e = absurd cc
    go (views.Opening (openings.Binder b)) e = absurd cc
    go views.Other e = absurd cc

opening_word : (w : List ℕ) → head_of w ≡ parenthesis → bytes_eq w (codes "(") ≡ true
opening_word w e = let v = head_view w in go v.head (v.is ∙ e) v.opens
  where
    go : (k : heads.Head) → view_head w k ≡ parenthesis → (k ≡ views.Opening openings.Parenthesis → bytes_eq w (codes "(") ≡ true) → bytes_eq w (codes "(") ≡ true
    go (views.Opening openings.Parenthesis) e o = o refl
    go (views.Leaf leaves.True) e o = absurd cc
    go (views.Leaf leaves.False) e o = absurd cc
    go (views.Leaf leaves.Name) e o = absurd cc
    go (views.Leaf leaves.Deadlock) e o = absurd cc
    go (views.Opening (openings.Action action_words.Can)) e o = absurd cc
    go (views.Opening (openings.Action action_words.Will)) e o = absurd cc
    go (views.Opening (openings.Front f)) e o = absurd cc
    go (views.Opening (openings.Bracket b)) e o = absurd cc
    go (views.Opening openings.Again) e o = absurd cc
    go (views.Opening openings.After) e o = absurd cc
    go (views.Opening (openings.Binder b)) e o = absurd cc
    go views.Other e o = absurd cc

-- a word with another head is another word
other_word : (w s : List ℕ) (h : Head) → head_of w ≡ h → (head_of s ≡ h → ⊥) → bytes_eq w s ≡ false
other_word w s h e n = go (cases_Bool (bytes_eq w s))
  where
    go : (bytes_eq w s ≡ true) ⊎ (bytes_eq w s ≡ false) → bytes_eq w s ≡ false
    go (inr f) = f
    go (inl t) = absurd (n (ap head_of (sym (eq_bytes w s t)) ∙ e))

-- a variable is a name
not_word : (w s : List ℕ) (a rest : Head) → is_variable w ≡ true → is_variable s ≡ false → cond (bytes_eq w s) a rest ≡ rest
not_word w s a rest v n = go (bytes_eq w s) (λ t. sym v ∙ ap is_variable (eq_bytes w s t) ∙ n)
  where
    go : (t : Bool) → (t ≡ true → true ≡ false) → cond t a rest ≡ rest
    go false n = refl
    go true n = let both : true ≡ false = n refl in absurd cc

variable_head : (w : List ℕ) → is_variable w ≡ true → head_of w ≡ leaf (named w)
variable_head w v =
    not_word w (codes "true") _ _ v refl ∙ not_word w (codes "false") _ _ v refl ∙ not_word w (codes "deadlock") _ _ v refl ∙ not_word w (codes "can") _ _ v refl
    ∙ not_word w (codes "will") _ _ v refl ∙ not_word w (codes "(") _ _ v refl ∙ not_word w (codes "!") _ _ v refl ∙ not_word w (codes "always") _ _ v refl
    ∙ not_word w (codes "never") _ _ v refl ∙ not_word w (codes "possibly") _ _ v refl ∙ not_word w (codes "inevitably") _ _ v refl ∙ not_word w (codes "again") _ _ v refl
    ∙ not_word w (codes "after") _ _ v refl ∙ not_word w (codes "<") _ _ v refl ∙ not_word w (codes "[") _ _ v refl ∙ not_word w (codes "mu") _ _ v refl
    ∙ not_word w (codes "nu") _ _ v refl ∙ ap (λ (t : Bool). cond t (leaf (named w)) other) v

-- a word with another head is no name
nameless : (w : List ℕ) (h : Head) → head_of w ≡ h → (leaf (named w) ≡ h → ⊥) → is_variable w ≡ false
nameless w h e n = go (cases_Bool (is_variable w))
  where
    go : (is_variable w ≡ true) ⊎ (is_variable w ≡ false) → is_variable w ≡ false
    go (inr f) = f
    go (inl t) = absurd (n (sym (variable_head w t) ∙ e))

-- ---- going past words

-- where the word behind these stands
abbrev pub walk : Spot → Words → Spot
walk s [] = s
walk s (w ∷ ws) = walk (behind s w) ws

abbrev pub flag : Option Bool → List Bool → List Bool
flag None later = later
flag (Some known) later = known ∷ later

-- whether the names among words are known
abbrev pub flags : Words → Spot → Words → List Bool
flags earlier s [] = []
flags earlier s (w ∷ ws) = flag (known_at earlier s w) (flags earlier (behind s w) ws)

walk_append : (s : Spot) (us vs : Words) → walk s (us ++ vs) ≡ walk (walk s us) vs
walk_append s [] vs = refl
walk_append s (u ∷ us) vs = walk_append (behind s u) us vs

flags_append : (earlier : Words) (s : Spot) (us vs : Words) → flags earlier s (us ++ vs) ≡ flags earlier s us ++ flags earlier (walk s us) vs
flags_append earlier s [] vs = refl
flags_append earlier s (u ∷ us) vs = go (known_at earlier s u) (flags_append earlier (behind s u) us vs)
  where
    go : (o : Option Bool) → flags earlier (behind s u) (us ++ vs) ≡ flags earlier (behind s u) us ++ flags earlier (walk (behind s u) us) vs
        → flag o (flags earlier (behind s u) (us ++ vs)) ≡ flag o (flags earlier (behind s u) us) ++ flags earlier (walk (behind s u) us) vs
    go None e = e
    go (Some b) e = ap (λ (t : List Bool). b ∷ t) e

-- Words lead from one spot to another, and their names are so known.
pub record Passes (earlier : Words) (s : Spot) (ws : Words) (t : Spot) (known : List Bool) : Type 0 where
  pub end : walk s ws ≡ t
  pub told : flags earlier s ws ≡ known

-- whether a name that stands so is known
abbrev pub is_told : Standing → Bool
is_told s = not (is_like Unknown s)

module _ (earlier : Words) where
  stay : (s : Spot) → Passes earlier s [] s []
  stay s = record { end = refl; told = refl }

  joins : (s t u : Spot) (us vs : Words) (f g : List Bool) → Passes earlier s us t f → Passes earlier t vs u g → Passes earlier s (us ++ vs) u (f ++ g)
  joins s t u us vs f g p q = record {
    end = walk_append s us vs ∙ ap (λ (x : Spot). walk x vs) p.end ∙ q.end;
    told = flags_append earlier s us vs ∙ ap₂ ◌++◌ p.told (ap (λ (x : Spot). flags earlier x vs) p.end ∙ q.told);
  }

  -- a word without a name, and more
  past : (s t u : Spot) (w : List ℕ) (ws : Words) (f : List Bool) → behind s w ≡ t → known_at earlier s w ≡ None → Passes earlier t ws u f → Passes earlier s (w ∷ ws) u f
  past s t u w ws f e n p = record {
    end = ap (λ (x : Spot). walk x ws) e ∙ p.end;
    told = ap (λ (o : Option Bool). flag o (flags earlier (behind s w) ws)) n ∙ ap (λ (x : Spot). flags earlier x ws) e ∙ p.told;
  }

  -- ---- regular formulas have no names

  pub record Quiet (ws : Words) : Type 0 where
    pub inside : (n : ℕ) (around : List Open) → Passes earlier (spot (in_action n) around) ws (spot (in_action n) around) []
    pub along : (m : Modality) (around : List Open) → Passes earlier (spot (in_path m) around) ws (spot (in_path m) around) []

  quiet_both : (us vs : Words) → Quiet us → Quiet vs → Quiet (us ++ vs)
  quiet_both us vs p q = record {
    inside = λ n around. joins _ _ _ us vs [] [] (p.inside n around) (q.inside n around);
    along = λ m around. joins _ _ _ us vs [] [] (p.along m around) (q.along m around);
  }

  -- a word that is no parenthesis and closes no path
  record IsPlain (w : List ℕ) : Type 0 where
    opens : bytes_eq w (codes "(") ≡ false
    closes : bytes_eq w (codes ")") ≡ false
    ends_diamond : bytes_eq w (codes ">") ≡ false
    ends_box : bytes_eq w (codes "]") ≡ false

  quiet_word : (w : List ℕ) → IsPlain w → Quiet (w ∷ [])
  quiet_word w p = record {
    inside = λ n around. past _ _ _ w [] [] (ap (λ (t : Bool). spot (cond t (in_action (suc n)) (cond (bytes_eq w (codes ")")) (closed_in n) (in_action n))) around) p.opens ∙ ap (λ (t : Bool). spot (cond t (closed_in n) (in_action n)) around) p.closes) refl (stay (spot (in_action n) around));
    along = along;
  }
    where
      along : (m : Modality) (around : List Open) → Passes earlier (spot (in_path m) around) (w ∷ []) (spot (in_path m) around) []
      along diamond around = past _ _ _ w [] [] (ap (λ (t : Bool). spot (cond t in_formula (in_path diamond)) around) p.ends_diamond) refl (stay (spot (in_path diamond) around))
      along box around = past _ _ _ w [] [] (ap (λ (t : Bool). spot (cond t in_formula (in_path box)) around) p.ends_box) refl (stay (spot (in_path box) around))

  quiet_enclosed : (ws : Words) → Quiet ws → Quiet (codes "(" ∷ (ws ++ codes ")" ∷ []))
  quiet_enclosed ws q = record {
    inside = λ n around. past _ (spot (in_action (suc n)) around) _ (codes "(") (ws ++ codes ")" ∷ []) [] refl refl
        (joins _ _ _ ws (codes ")" ∷ []) [] [] (q.inside (suc n) around) (past _ (spot (in_action n) around) _ (codes ")") [] [] refl refl (stay (spot (in_action n) around))));
    along = along;
  }
    where
      along : (m : Modality) (around : List Open) → Passes earlier (spot (in_path m) around) (codes "(" ∷ (ws ++ codes ")" ∷ [])) (spot (in_path m) around) []
      along diamond around = past _ (spot (in_path diamond) around) _ (codes "(") (ws ++ codes ")" ∷ []) [] refl refl
          (joins _ _ _ ws (codes ")" ∷ []) [] [] (q.along diamond around) (past _ (spot (in_path diamond) around) _ (codes ")") [] [] refl refl (stay (spot (in_path diamond) around))))
      along box around = past _ (spot (in_path box) around) _ (codes "(") (ws ++ codes ")" ∷ []) [] refl refl
          (joins _ _ _ ws (codes ")" ∷ []) [] [] (q.along box around) (past _ (spot (in_path box) around) _ (codes ")") [] [] refl refl (stay (spot (in_path box) around))))

  -- a word that is an action formula is no sign
  differs : (w s : List ℕ) (x : Regular) → word_formula w ≡ Some x → word_formula s ≡ None → bytes_eq w s ≡ false
  differs w s x e n = go (cases_Bool (bytes_eq w s))
    where
      go : (bytes_eq w s ≡ true) ⊎ (bytes_eq w s ≡ false) → bytes_eq w s ≡ false
      go (inr f) = f
      go (inl t) = let both : None ≡ some x = sym n ∙ ap word_formula (sym (eq_bytes w s t)) ∙ e in absurd cc

  word_plain : (w : List ℕ) (x : Regular) → word_formula w ≡ Some x → IsPlain w
  word_plain w x e = record {
    opens = differs w (codes "(") x e refl;
    closes = differs w (codes ")") x e refl;
    ends_diamond = differs w (codes ">") x e refl;
    ends_box = differs w (codes "]") x e refl;
  }

  quiet_sign : (w : List ℕ) (ws : Words) → IsPlain w → Quiet ws → Quiet (w ∷ ws)
  quiet_sign w ws p q = quiet_both (w ∷ []) ws (quiet_word w p) q

  -- all words of a form are quiet
  abbrev AreQuiet : Form → Type 0
  AreQuiet Item = (ws : Words) (x : Regular) → Item ws x → Quiet ws

  operand_quiet : (Inv Enc : Form) → AreQuiet Inv → AreQuiet Enc → AreQuiet (Operand Inv Enc)
  operand_quiet Inv Enc inv enc ws x (word {w = w} e) = quiet_word w (word_plain w x e)
  operand_quiet Inv Enc inv enc ws x (inverted {ws = vs} {x = y} i j) = quiet_sign (codes "!") vs (record { opens = refl; closes = refl; ends_diamond = refl; ends_box = refl }) (inv vs y i)
  operand_quiet Inv Enc inv enc ws x (enclosed {ws = vs} i) = quiet_enclosed vs (enc vs x i)

  series_quiet : (Item : Form) (sign : List ℕ) (join : Regular → Regular → Option Regular) → IsPlain sign → AreQuiet Item → AreQuiet (Series Item sign join)
  series_quiet Item sign join p quiet ws x (one i) = quiet ws x i
  series_quiet Item sign join p quiet ws x (next {us = us} {ws = vs} {x = y} {y = z} s i j) = quiet_both us (sign ∷ vs) (series_quiet Item sign join p quiet us y s) (quiet_sign sign vs p (quiet vs z i))

  starred_quiet : (Item : Form) → AreQuiet Item → AreQuiet (Starred Item)
  starred_quiet Item quiet ws x (unstarred i) = quiet ws x i
  starred_quiet Item quiet ws x (star {ws = vs} {x = y} s) = quiet_both vs (codes "*" ∷ []) (starred_quiet Item quiet vs y s) (quiet_word (codes "*") (record { opens = refl; closes = refl; ends_diamond = refl; ends_box = refl }))
  starred_quiet Item quiet ws x (plus {ws = vs} {x = y} s) = quiet_both vs (codes "+" ∷ []) (starred_quiet Item quiet vs y s) (quiet_word (codes "+") (record { opens = refl; closes = refl; ends_diamond = refl; ends_box = refl }))

  choice_quiet : (Item : Form) → AreQuiet Item → AreQuiet (Choice Item)
  choice_quiet Item quiet =
      series_quiet (Sequence Item) (codes "+") _ (record { opens = refl; closes = refl; ends_diamond = refl; ends_box = refl })
      (series_quiet (Repetition Item) (codes ".") _ (record { opens = refl; closes = refl; ends_diamond = refl; ends_box = refl })
      (starred_quiet (AnyOf Item)
      (series_quiet (AllOf Item) (codes "||") _ (record { opens = refl; closes = refl; ends_diamond = refl; ends_box = refl })
      (series_quiet Item (codes "&&") _ (record { opens = refl; closes = refl; ends_diamond = refl; ends_box = refl }) quiet))))

  none_quiet : AreQuiet Nothing
  none_quiet ws x i = absurd i

  operands_quiet : (d : ℕ) → AreQuiet (IsOperand d)
  unfolding IsOperand
  operands_quiet zero = operand_quiet Nothing Nothing none_quiet none_quiet
  operands_quiet (suc d) = operand_quiet (IsOperand d) (Choice (IsOperand d)) (operands_quiet d) (choice_quiet (IsOperand d) (operands_quiet d))

  -- an action formula behind `can`, `will` or `after`
  abbrev Acts : Words → Type 0
  Acts ws = (around : List Open) → Passes earlier (spot at_action around) ws (spot in_formula around) []

  operand_acts : (Inv Enc : Form) → ((ws : Words) (x : Regular) → Inv ws x → Acts ws) → AreQuiet Enc → (ws : Words) (x : Regular) → Operand Inv Enc ws x → Acts ws
  operand_acts Inv Enc inv enc ws x (word {w = w} e) around =
      past _ _ _ w [] [] (ap (λ (t : Bool). spot (cond t at_action (cond (bytes_eq w (codes "(")) (in_action 0) in_formula)) around) (differs w (codes "!") x e refl)
      ∙ ap (λ (t : Bool). spot (cond t (in_action 0) in_formula) around) (differs w (codes "(") x e refl)) refl (stay (spot in_formula around))
  operand_acts Inv Enc inv enc ws x (inverted {ws = vs} {x = y} i j) around = past _ (spot at_action around) _ (codes "!") vs [] refl refl (inv vs y i around)
  operand_acts Inv Enc inv enc ws x (enclosed {ws = vs} i) around =
      past _ (spot (in_action 0) around) _ (codes "(") (vs ++ codes ")" ∷ []) [] refl refl
      (joins _ _ _ vs (codes ")" ∷ []) [] [] ((enc vs x i).inside 0 around) (past _ (spot in_formula around) _ (codes ")") [] [] refl refl (stay (spot in_formula around))))

  none_acts : (ws : Words) (x : Regular) → Nothing ws x → Acts ws
  none_acts ws x i = absurd i

  operands_act : (d : ℕ) (ws : Words) (x : Regular) → IsOperand d ws x → Acts ws
  unfolding IsOperand
  operands_act zero = operand_acts Nothing Nothing none_acts none_quiet
  operands_act (suc d) = operand_acts (IsOperand d) (Choice (IsOperand d)) (operands_act d) (choice_quiet (IsOperand d) (operands_quiet d))

  -- ---- formulas

  abbrev has_bound : List Bound → List ℕ → Bool
  has_bound bs x = list_any (λ b. bytes_eq b.name x) bs

  -- the same fixpoints are open
  abbrev Same : List Open → List Bound → Type 0
  Same around bs = (x : List ℕ) → is_bound around x ≡ has_bound bs x

  abbrev pub told_uses : Context → Written → List Bool
  told_uses c f = map is_told (uses earlier c f)

  told_in : (is_odd : Bool) (bs : List Bound) (s : Standing) (x : List ℕ) → is_told (standing_in is_odd bs s x) ≡ (is_told s || has_bound bs x)
  told_in is_odd [] s x = or_false (is_told s)
    where
      or_false : (t : Bool) → t ≡ (t || false)
      or_false true = refl
      or_false false = refl
  told_in is_odd (b ∷ bs) s x = go (bytes_eq b.name x) (told_in is_odd bs (cond (bytes_eq b.name x) (standing_under b.is_odd is_odd) s) x)
    where
      under : (a b : Bool) → is_told (standing_under a b) ≡ true
      under true true = refl
      under true false = refl
      under false true = refl
      under false false = refl

      or_true : (t : Bool) → true ≡ (t || true)
      or_true true = refl
      or_true false = refl

      go : (t : Bool) → is_told (standing_in is_odd bs (cond t (standing_under b.is_odd is_odd) s) x) ≡ (is_told (cond t (standing_under b.is_odd is_odd) s) || has_bound bs x)
          → is_told (standing_in is_odd bs (cond t (standing_under b.is_odd is_odd) s) x) ≡ (is_told s || (t || has_bound bs x))
      go true e = e ∙ ap (λ (u : Bool). u || has_bound bs x) (under b.is_odd is_odd) ∙ or_true (is_told s)
      go false e = e

  told_name : (around : List Open) (c : Context) (x : List ℕ) → Same around c.scope → (is_among earlier x || is_bound around x) ≡ is_told (standing_of earlier c x)
  told_name around c x same = ap (λ (t : Bool). is_among earlier x || t) (same x) ∙ ap (λ (t : Bool). t || has_bound c.scope x) (sym (outside (is_among earlier x))) ∙ sym (told_in c.is_odd c.scope (cond (is_among earlier x) Known Unknown) x)
    where
      outside : (t : Bool) → is_told (cond t Known Unknown) ≡ t
      outside true = refl
      outside false = refl

  abbrev pub fixpoints : Words → List Open
  fixpoints [] = []
  fixpoints (x ∷ xs) = a_fixpoint x ∷ fixpoints xs

  -- What a phrase leads to: fixpoints are open behind it only where it ends with one.
  pub record Walked (ws : Words) (p : Phrase) (around : List Open) (c : Context) : Type 0 where
    pub open_names : Words
    pub ends : p.is_endless ≡ false → open_names ≡ []
    pub passes : Passes earlier (spot in_formula around) ws (spot in_formula (fixpoints open_names ++ around)) (told_uses c p.written)

  abbrev Walks : Words → Phrase → Type 0
  Walks ws p = (around : List Open) (c : Context) → Same around c.scope → Walked ws p around c

  abbrev AllWalk : PhraseForm → Type 0
  AllWalk Item = (ws : Words) (p : Phrase) → Item ws p → Walks ws p

  -- a word of a formula that is no name and no parenthesis, by its head
  headed : (around : List Open) (t : Spot) (w : List ℕ) (h : Head) (ws : Words) (f : List Bool) → head_of w ≡ h → (leaf (named w) ≡ h → ⊥) → (parenthesis ≡ h → ⊥) → bytes_eq w (codes ")") ≡ false
      → Passes earlier (spot (region_behind_head h) around) ws t f → Passes earlier (spot in_formula around) (w ∷ ws) t f
  headed around t w h ws f e n o c p =
      past _ _ t w ws f (ap (λ (g : Head). spot (region_behind_head g) (cond (bytes_eq w (codes "(")) (a_parenthesis ∷ around) (cond (bytes_eq w (codes ")")) (closed around) around))) e
      ∙ ap (λ (u : Bool). spot (region_behind_head h) (cond u (a_parenthesis ∷ around) (cond (bytes_eq w (codes ")")) (closed around) around))) (other_word w (codes "(") h e o)
      ∙ ap (λ (u : Bool). spot (region_behind_head h) (cond u (closed around) around)) c)
      (ap (λ (u : Bool). cond u (Some (is_among earlier w || is_bound around w)) None) (nameless w h e n)) p

  -- a word that begins a formula
  begun : (around : List Open) (t : Spot) (w : List ℕ) (h : Head) (ws : Words) (f : List Bool) → head_of w ≡ h → (leaf (named w) ≡ h → ⊥) → (parenthesis ≡ h → ⊥) → (other ≡ h → ⊥)
      → Passes earlier (spot (region_behind_head h) around) ws t f → Passes earlier (spot in_formula around) (w ∷ ws) t f
  begun around t w h ws f e n o c p = headed around t w h ws f e n o (other_word w (codes ")") h e c) p

  close_all : (xs : Words) (around : List Open) → closed (fixpoints xs ++ a_parenthesis ∷ around) ≡ around
  close_all [] around = refl
  close_all (x ∷ xs) around = close_all xs around

  one_more_open : (xs : Words) (x : List ℕ) (around : List Open) → fixpoints xs ++ a_fixpoint x ∷ around ≡ fixpoints (xs ++ x ∷ []) ++ around
  one_more_open [] x around = refl
  one_more_open (y ∷ xs) x around = ap (λ (t : List Open). a_fixpoint y ∷ t) (one_more_open xs x around)

  prefix_scope : (prefix : Prefix) (c : Context) → (behind_prefix prefix c).scope ≡ c.scope
  prefix_scope negated c = refl
  prefix_scope (some_path x) c = refl
  prefix_scope (every_path x) c = refl
  prefix_scope always c = refl
  prefix_scope never c = refl
  prefix_scope possibly c = refl
  prefix_scope inevitably c = refl
  prefix_scope again_and_again c = refl
  prefix_scope (after x) c = refl

  same_behind : (prefix : Prefix) (around : List Open) (c : Context) → Same around c.scope → Same around (behind_prefix prefix c).scope
  same_behind prefix around c same = subst (λ (bs : List Bound). Same around bs) (sym (prefix_scope prefix c)) same

  same_inside : (y : List ℕ) (around : List Open) (c : Context) → Same around c.scope → Same (a_fixpoint y ∷ around) (inside y c).scope
  same_inside y around c same x = ap (λ (t : Bool). bytes_eq y x || t) (same x) ∙ turned (bytes_eq y x) (has_bound c.scope x) ∙ sym (list_any-append (λ (b : Bound). bytes_eq b.name x) c.scope (record { name = y; is_odd = c.is_odd } ∷ []))
    where
      turned : (a b : Bool) → (a || b) ≡ (b || (a || false))
      turned true true = refl
      turned true false = refl
      turned false true = refl
      turned false false = refl

  -- words in front of an operand, and it
  in_front_of : (front ws : Words) (prefix : Prefix) (p : Phrase) (around : List Open) (c : Context) → Passes earlier (spot in_formula around) front (spot in_formula around) [] → Walks ws p → Same around c.scope
      → Walked (front ++ ws) (record { written = prefixed prefix p.written; is_endless = p.is_endless }) around c
  in_front_of front ws prefix p around c passes walks same =
      let w = walks around (behind_prefix prefix c) (same_behind prefix around c same) in
      record { open_names = w.open_names; ends = w.ends; passes = joins _ _ _ front ws [] (told_uses (behind_prefix prefix c) p.written) passes w.passes }

  module _ (Path Action : Form) (Inner Formula : PhraseForm) (paths : AreQuiet Path) (acts : (ws : Words) (x : Regular) → Action ws x → Acts ws) (inners : AllWalk Inner) (formulas : AllWalk Formula) where
    leaf_walks : (w : List ℕ) (f : Written) → head_of w ≡ leaf f → Walks (w ∷ []) (whole f)
    leaf_walks w f is around c same = go (leaf_cases w f is)
      where
        go : ((b : Bool) × (f ≡ constant b)) ⊎ ((f ≡ named w) × (is_variable w ≡ true)) → Walked (w ∷ []) (whole f) around c
        go (inl (b, e)) = subst (λ (g : Written). Walked (w ∷ []) (whole g) around c) (sym e) (record {
          open_names = [];
          ends = λ e. refl;
          passes = begun around _ w (leaf (constant b)) [] [] (is ∙ ap leaf e) (λ e. cc) (λ e. cc) (λ e. cc) (stay (spot in_formula around));
        })
        go (inr (e, v)) =
            let head : head_of w ≡ leaf (named w) = is ∙ ap leaf e in
            subst (λ (g : Written). Walked (w ∷ []) (whole g) around c) (sym e) (record {
              open_names = [];
              ends = λ e. refl;
              passes = record {
                end = ap (λ (g : Head). spot (region_behind_head g) (cond (bytes_eq w (codes "(")) (a_parenthesis ∷ around) (cond (bytes_eq w (codes ")")) (closed around) around))) head
                    ∙ ap (λ (u : Bool). spot in_formula (cond u (a_parenthesis ∷ around) (cond (bytes_eq w (codes ")")) (closed around) around))) (other_word w (codes "(") (leaf (named w)) head (λ e. cc))
                    ∙ ap (λ (u : Bool). spot in_formula (cond u (closed around) around)) (other_word w (codes ")") (leaf (named w)) head (λ e. cc));
                told = ap (λ (u : Bool). flag (cond u (Some (is_among earlier w || is_bound around w)) None) []) v ∙ ap (λ (t : Bool). t ∷ []) (told_name around c w same);
              };
            })

    acting_walks : (w : List ℕ) (ws : Words) (make : Regular → Written) (x : Regular) → head_of w ≡ of_action make → Acts ws → Walks (w ∷ ws) (whole (make x))
    acting_walks w ws make x is act around c same = go (action_cases w make is)
      where
        passes : Passes earlier (spot in_formula around) (w ∷ ws) (spot in_formula around) []
        passes = begun around _ w (of_action make) ws [] is (λ e. cc) (λ e. cc) (λ e. cc) (act around)

        go : (make ≡ can) ⊎ (make ≡ will) → Walked (w ∷ ws) (whole (make x)) around c
        go (inl e) = subst (λ (g : Regular → Written). Walked (w ∷ ws) (whole (g x)) around c) (sym e) (record { open_names = []; ends = λ e. refl; passes = passes })
        go (inr e) = subst (λ (g : Regular → Written). Walked (w ∷ ws) (whole (g x)) around c) (sym e) (record { open_names = []; ends = λ e. refl; passes = passes })

    closing_word : (m : Modality) (around : List Open) → behind (spot (in_path m) around) (closing m) ≡ spot in_formula around
    closing_word diamond around = refl
    closing_word box around = refl

    part_walks : AllWalk (Part Path Action Inner Formula)
    part_walks ws p (at_leaf {w = w} {f = f} is) around c same = leaf_walks w f is around c same
    part_walks ws p (at_deadlock {w = w} is) around c same =
        record { open_names = []; ends = λ e. refl; passes = begun around _ w deadlock (codes "free" ∷ []) [] is (λ e. cc) (λ e. cc) (λ e. cc) (headed around _ (codes "free") other [] [] refl (λ e. cc) (λ e. cc) refl (stay (spot in_formula around))) }
    part_walks ws p (acting {w = w} {ws = vs} {make = make} {x = x} is i) around c same = acting_walks w vs make x is (acts vs x i) around c same
    part_walks ws p (at_parenthesis {w = w} {ws = vs} {p = q} is i) around c same =
        let inner = formulas vs q i (a_parenthesis ∷ around) c same in
        record {
          open_names = [];
          ends = λ e. refl;
          passes = subst (λ (f : List Bool). Passes earlier (spot in_formula around) (w ∷ (vs ++ codes ")" ∷ [])) (spot in_formula around) f) (append-nil (told_uses c q.written))
              (past _ (spot in_formula (a_parenthesis ∷ around)) _ w (vs ++ codes ")" ∷ []) _ (ap (λ (g : Head). spot (region_behind_head g) (cond (bytes_eq w (codes "(")) (a_parenthesis ∷ around) (cond (bytes_eq w (codes ")")) (closed around) around))) is
              ∙ ap (λ (u : Bool). spot in_formula (cond u (a_parenthesis ∷ around) (cond (bytes_eq w (codes ")")) (closed around) around))) (opening_word w is))
              (ap (λ (u : Bool). cond u (Some (is_among earlier w || is_bound around w)) None) (nameless w parenthesis is (λ e. cc)))
              (joins _ _ _ vs (codes ")" ∷ []) (told_uses c q.written) [] inner.passes
              (past _ (spot in_formula around) _ (codes ")") [] [] (ap (λ (o : List Open). spot in_formula o) (close_all inner.open_names around)) refl (stay (spot in_formula around)))));
        }
    part_walks ws p (at_front {w = w} {ws = vs} {prefix = prefix} {p = q} is i) around c same =
        in_front_of (w ∷ []) vs prefix q around c (begun around _ w (in_front prefix) [] [] is (λ e. cc) (λ e. cc) (λ e. cc) (stay (spot in_formula around))) (inners vs q i) same
    part_walks ws p (at_modality {w = w} {us = us} {ws = vs} {m = m} {x = x} {p = q} is i j) around c same =
        subst (λ (t : Words). Walked (w ∷ t) (record { written = prefixed (along m x) q.written; is_endless = q.is_endless }) around c) (append_assoc us (closing m ∷ []) vs)
        (in_front_of (w ∷ (us ++ closing m ∷ [])) vs (along m x) q around c
        (begun around _ w (modality m) (us ++ closing m ∷ []) [] is (λ e. cc) (λ e. cc) (λ e. cc) (joins _ _ _ us (closing m ∷ []) [] [] ((paths us x i).along m around) (past _ _ _ (closing m) [] [] (closing_word m around) refl (stay (spot in_formula around)))))
        (inners vs q j) same)
    part_walks ws p (at_again {w = w} {ws = vs} {p = q} is i) around c same =
        in_front_of (w ∷ codes "and" ∷ codes "again" ∷ []) vs again_and_again q around c
        (begun around _ w again (codes "and" ∷ codes "again" ∷ []) [] is (λ e. cc) (λ e. cc) (λ e. cc) (headed around _ (codes "and") other (codes "again" ∷ []) [] refl (λ e. cc) (λ e. cc) refl (begun around _ (codes "again") again [] [] refl (λ e. cc) (λ e. cc) (λ e. cc) (stay (spot in_formula around)))))
        (inners vs q i) same
    part_walks ws p (at_after {w = w} {us = us} {ws = vs} {x = x} {p = q} is i j) around c same =
        in_front_of (w ∷ us) vs (after x) q around c (begun around _ w after_action us [] is (λ e. cc) (λ e. cc) (λ e. cc) (acts us x i around)) (inners vs q j) same
    part_walks ws p (at_binder {w = w} {x = x} {ws = vs} {kind = kind} {p = q} is v i) around c same =
        let inner = formulas vs q i (a_fixpoint x ∷ around) (inside x c) (same_inside x around c same) in
        record {
          open_names = inner.open_names ++ x ∷ [];
          ends = λ e. absurd cc;
          passes = subst (λ (o : List Open). Passes earlier (spot in_formula around) (w ∷ x ∷ codes "." ∷ vs) (spot in_formula o) (told_uses (inside x c) q.written)) (one_more_open inner.open_names x around)
              (begun around _ w (binder kind) (x ∷ codes "." ∷ vs) _ is (λ e. cc) (λ e. cc) (λ e. cc) (past _ (spot in_formula (a_fixpoint x ∷ around)) _ x (codes "." ∷ vs) _ refl refl
              (headed (a_fixpoint x ∷ around) _ (codes ".") other vs _ refl (λ e. cc) (λ e. cc) refl inner.passes)));
        }

  map_append : {A B : Type 0} (f : A → B) (xs ys : List A) → map f (xs ++ ys) ≡ map f xs ++ map f ys
  map_append f [] ys = refl
  map_append f (x ∷ xs) ys = ap (λ (t : List _). f x ∷ t) (map_append f xs ys)

  -- what can be joined, and the whole
  joined_is : (sign : Written → Written → Written) (p q r : Phrase) → joined sign p q ≡ Some r → (p.is_endless ≡ false) × (record { written = sign p.written q.written; is_endless = q.is_endless } ≡ r)
  joined_is sign p q r e = go p.is_endless e
    where
      go : (t : Bool) → cond t None (Some (record { written = sign p.written q.written; is_endless = q.is_endless })) ≡ Some r → (t ≡ false) × (record { written = sign p.written q.written; is_endless = q.is_endless } ≡ r)
      go true e = absurd cc
      go false e = (refl, some_is _ r e)

  -- two phrases and the sign between them
  joint_walks : (sign : Written → Written → Written) (left : Context → Context) (between_them : List ℕ) (us vs : Words) (p q r : Phrase) → head_of between_them ≡ other → bytes_eq between_them (codes ")") ≡ false
      → ((c : Context) → (left c).scope ≡ c.scope) → ((c : Context) (f g : Written) → uses earlier c (sign f g) ≡ uses earlier (left c) f ++ uses earlier c g)
      → joined sign p q ≡ Some r → Walks us p → Walks vs q → Walks (us ++ between_them ∷ vs) r
  joint_walks sign left between_them us vs p q r head sign_is scope both j walks later around c same =
      let e = joined_is sign p q r j in
      let first = walks around (left c) (subst (λ (bs : List Bound). Same around bs) (sym (scope c)) same) in
      let last = later around c same in
      let none : fixpoints first.open_names ++ around ≡ around = ap (λ (xs : Words). fixpoints xs ++ around) (first.ends e.0) in
      let front : Passes earlier (spot in_formula around) us (spot in_formula around) (told_uses (left c) p.written) =
      subst (λ (o : List Open). Passes earlier (spot in_formula around) us (spot in_formula o) (told_uses (left c) p.written)) none first.passes in
      let between : Passes earlier (spot in_formula around) (between_them ∷ vs) (spot in_formula (fixpoints last.open_names ++ around)) (told_uses c q.written) =
      headed around _ between_them other vs _ head (λ e. cc) (λ e. cc) sign_is last.passes in
      subst (λ (s : Phrase). Walked (us ++ between_them ∷ vs) s around c) e.1 (record {
        open_names = last.open_names;
        ends = last.ends;
        passes = subst (λ (f : List Bool). Passes earlier (spot in_formula around) (us ++ between_them ∷ vs) (spot in_formula (fixpoints last.open_names ++ around)) f)
            (sym (map_append is_told (uses earlier (left c) p.written) (uses earlier c q.written)) ∙ ap (map is_told) (sym (both c p.written q.written)))
            (joins _ _ _ us (between_them ∷ vs) _ _ front between);
      })

  series_walks : (Item : PhraseForm) (sign : Written → Written → Written) (between_them : List ℕ) → head_of between_them ≡ other → bytes_eq between_them (codes ")") ≡ false
      → ((c : Context) (f g : Written) → uses earlier c (sign f g) ≡ uses earlier c f ++ uses earlier c g) → AllWalk Item → AllWalk (Series Item between_them (joined sign))
  series_walks Item sign between_them head sign_is both every ws p (one i) = every ws p i
  series_walks Item sign between_them head sign_is both every ws r (next {us = us} {ws = vs} {x = p} {y = q} s i j) =
      joint_walks sign (λ c. c) between_them us vs p q r head sign_is (λ c. refl) both j (series_walks Item sign between_them head sign_is both every us p s) (every vs q i)

  disjunction_walks : (Item : PhraseForm) → AllWalk Item → AllWalk (Disjunction Item)
  disjunction_walks Item every = series_walks (Conjunction Item) disjunction (codes "||") refl refl (λ c f g. refl) (series_walks Item conjunction (codes "&&") refl refl (λ c f g. refl) every)

  implication_walks : (Item Formula : PhraseForm) → AllWalk Item → AllWalk Formula → AllWalk (Implication Item Formula)
  implication_walks Item Formula every later ws p (plain i) = every ws p i
  implication_walks Item Formula every later ws r (implies {us = us} {ws = vs} {p = p} {q = q} i k j) =
      joint_walks implication negated_in (codes "=>") us vs p q r refl refl (λ c. refl) (λ c f g. refl) j (every us p i) (later vs q k)

  no_path_quiet : AreQuiet NoPath
  no_path_quiet ws x i = absurd i

  no_path_acts : (ws : Words) (x : Regular) → NoPath ws x → Acts ws
  no_path_acts ws x i = absurd i

  no_phrase_walks : AllWalk NoPhrase
  no_phrase_walks ws p i = absurd i

  actions_act : (d : ℕ) (ws : Words) (x : Regular) → IsAction d ws x → Acts ws
  actions_act d ws x i = operands_act d ws x i.operand

  first_walks : AllWalk (Part NoPath NoPath NoPhrase NoPhrase)
  first_walks = part_walks NoPath NoPath NoPhrase NoPhrase no_path_quiet no_path_acts no_phrase_walks no_phrase_walks

  pub phrase_walks : (extent : Extent) (d : ℕ) → AllWalk (IsPhrase extent d)
  unfolding IsPhrase
  phrase_walks an_operand zero = first_walks
  phrase_walks a_formula zero = implication_walks (Disjunction (Part NoPath NoPath NoPhrase NoPhrase)) NoPhrase (disjunction_walks _ first_walks) no_phrase_walks
  phrase_walks an_operand (suc d) =
      part_walks (IsRegular d) (IsAction d) (IsPhrase an_operand d) (IsPhrase a_formula d) (choice_quiet (IsOperand d) (operands_quiet d)) (actions_act d) (phrase_walks an_operand d) (phrase_walks a_formula d)
  phrase_walks a_formula (suc d) =
      implication_walks (Disjunction (Part (IsRegular d) (IsAction d) (IsPhrase an_operand d) (IsPhrase a_formula d))) (IsPhrase a_formula d)
      (disjunction_walks _ (part_walks (IsRegular d) (IsAction d) (IsPhrase an_operand d) (IsPhrase a_formula d) (choice_quiet (IsOperand d) (operands_quiet d)) (actions_act d) (phrase_walks an_operand d) (phrase_walks a_formula d)))
      (phrase_walks a_formula d)
