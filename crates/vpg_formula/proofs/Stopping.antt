-- Where a formula stops: the words in front can go on to a formula, and with the word there no formula goes on.
use Rattle.std.proofs.Common.{◌≡◌, ℕ, zero, suc, ◌+◌, ◌⊎◌, inl, inr, Bool, true, false, cond, List, [], ◌∷◌, ◌++◌, length, Option, Some, None, refl, sym, ap, ap₂, subst, ◌∙◌, arith, append_assoc}
use Rattle.std.specs.Prelude.{codes}
use Rattle.std.proofs.lemmas.List.{append-nil, length-append}
use Rattle.vpg_features.proofs.Held.{eq_bytes}
use Rattle.vpg_formula.specs.Written.{Phrase}
use Rattle.vpg_formula.specs.FormulaGrammar.{a_formula, IsFormula}
use Rattle.vpg_formula.specs.Reading.{starts_operand, phrase_at}
use Rattle.vpg_formula.specs.Needs.{Need, Step, on, over, no_word, no_room, step, Way, done, halted, too_deep, way_by, all_may_end, way, formula_needs, formula_way}
use Rattle.vpg_formula.specs.Stops.{CanGoOn, IsStuckAt, IsTooDeepIn, ends_formula}
use Rattle.vpg_formula.proofs.Phrases.{EndsFormula, phrase_found, formula_again}
use Rattle.vpg_formula.proofs.Needed.{fill, filled, sum, deeper_all, IsHalt, local, taken, RaisedStep, raised_step, step_fits, StopsAt, Reach, reach}
use Rattle.vpg_formula.proofs.Ways.{is_halted, Sim}
use Rattle.vpg_formula.proofs.FormulaWays.{plainly, Whole, phrases_agree}

abbrev Words : Type 0
Words = List (List ℕ)

-- ---- what the reader finds

no_words_end : EndsFormula []
no_words_end = record { all = refl; any = refl; implies = refl }

no_entry_end : (rest : Words) → EndsFormula (codes ";" ∷ rest)
no_entry_end rest = record { all = refl; any = refl; implies = refl }

sim_of : (d : ℕ) (ws : Words) → Sim plainly Whole (formula_way d ws) (phrase_at a_formula d ws) (λ g rest. way g [] rest)
sim_of d ws = (phrases_agree d).formulas true [] ws

nothing_left : (f : Bool) (rest : Words) → way f [] rest ≡ done (length rest)
nothing_left f [] = refl
nothing_left f (w ∷ ws) = refl

-- a formula, and behind it what ends one
way_of_formula : (d : ℕ) (us rest : Words) (p : Phrase) → IsFormula d us p → EndsFormula rest → formula_way d (us ++ rest) ≡ done (length rest)
way_of_formula d us rest p i ends =
    let read = formula_again d us rest p i ends in
    (subst (λ (o : Option (Phrase × Words)). Sim plainly Whole (formula_way d (us ++ rest)) o (λ g rest. way g [] rest)) read (sim_of d (us ++ rest))).0 ∙ nothing_left true rest

way_of_all : (d : ℕ) (us : Words) (p : Phrase) → IsFormula d us p → formula_way d us ≡ done 0
way_of_all d us p i = ap (formula_way d) (sym (append-nil us)) ∙ way_of_formula d us [] p i no_words_end

-- words at whose end nothing more is needed are a formula
formula_of_way : (d : ℕ) (ws : Words) → formula_way d ws ≡ done 0 → (p : Phrase) × IsFormula d ws p
formula_of_way d ws e = go (phrase_at a_formula d ws) refl (sim_of d ws)
  where
    zero_length : (rest : Words) → length rest ≡ 0 → rest ≡ []
    zero_length [] e = refl
    zero_length (w ∷ rest) e = absurd cc

    go : (o : Option (Phrase × Words)) → phrase_at a_formula d ws ≡ o → Sim plainly Whole (formula_way d ws) o (λ g rest. way g [] rest) → (p : Phrase) × IsFormula d ws p
    go None f s = let both : true ≡ false = sym s ∙ ap is_halted e in absurd cc
    go (Some (p, rest)) f s =
        let i = phrase_found a_formula d ws (p, rest) f in
        let same : done (length rest) ≡ done 0 = sym (nothing_left true rest) ∙ sym s.0 ∙ e in
        let none : rest ≡ [] = zero_length rest (done_is (length rest) 0 same) in
        (p, subst (λ (us : Words). IsFormula d us p) (sym (i.2 ∙ ap (λ (t : Words). i.0 ++ t) none ∙ append-nil i.0)) i.1)
      where
        done_is : (a b : ℕ) → done a ≡ done b → a ≡ b
        done_is a b e = cc

-- ---- how far the reading of a formula comes

formula_reach : (d : ℕ) (k : ℕ) (ws : Words) → Reach (suc k) true (formula_needs d) ws
formula_reach d k ws = reach k ws true (formula_needs d) refl refl

module _ (d : ℕ) (k : ℕ) (ws : Words) (r : Reach (suc k) true (formula_needs d) ws) where
  -- the words in front can go on
  goes_on : CanGoOn d r.front
  goes_on =
      let f = formula_of_way d (r.front ++ fill r.later) (r.fills ∙ filled false r.later r.flag r.fits) in
      record { more = fill r.later; phrase = f.0; formula = f.1 }

  module _ (w : List ℕ) (tail : Words) (parts : r.rest ≡ w ∷ tail) where
    stops_there : IsHalt (step r.flag r.later w (starts_operand tail))
    stops_there = subst (StopsAt r.flag r.later) parts r.stops

    step_there : (more : Words) → step r.flag r.later w (starts_operand more) ≡ step r.flag r.later w (starts_operand tail)
    step_there more = local r.later r.flag w (starts_operand tail) (starts_operand more) r.fits stops_there

    way_there : (more : Words) (s : Step) → step r.flag r.later w (starts_operand tail) ≡ s → formula_way d (r.front ++ w ∷ more) ≡ way_by s (suc (length more)) (λ g later. way g later more)
    way_there more s e = r.goes_on w tail more parts ∙ ap (λ (t : Step). way_by t (suc (length more)) (λ g later. way g later more)) (step_there more ∙ e)

    way_deeper : (more : Words) (s : Step) → step r.flag (deeper_all (suc k) r.later) w (starts_operand more) ≡ s → formula_way (sum d (suc k)) (r.front ++ w ∷ more) ≡ way_by s (suc (length more)) (λ g later. way g later more)
    way_deeper more s e = r.goes_deeper w tail more parts ∙ ap (λ (t : Step). way_by t (suc (length more)) (λ g later. way g later more)) e

    raised : (more : Words) (s : Step) → step r.flag r.later w (starts_operand tail) ≡ s → RaisedStep (suc k) s (step r.flag (deeper_all (suc k) r.later) w (starts_operand more))
    raised more s e = subst (λ (t : Step). RaisedStep (suc k) t (step r.flag (deeper_all (suc k) r.later) w (starts_operand more))) (step_there more ∙ e) (raised_step k r.later r.flag w (starts_operand more))

    regroup : (more : Words) → (r.front ++ w ∷ []) ++ more ≡ r.front ++ w ∷ more
    regroup more = append_assoc r.front (w ∷ []) more

    -- no formula goes on there
    none_there : (s : Step) → step r.flag r.later w (starts_operand tail) ≡ s → IsHalt s → CanGoOn d (r.front ++ w ∷ []) → ⊥
    none_there s e h c = go s h (way_there c.more s e) (ap (formula_way d) (sym (regroup c.more)) ∙ way_of_all d ((r.front ++ w ∷ []) ++ c.more) c.phrase c.formula)
      where
        go : (s : Step) → IsHalt s → formula_way d (r.front ++ w ∷ c.more) ≡ way_by s (suc (length c.more)) (λ g later. way g later c.more) → formula_way d (r.front ++ w ∷ c.more) ≡ done 0 → ⊥
        go (on g later) h e f = h
        go over h e f = let both : done (suc (length c.more)) ≡ done 0 = sym e ∙ f in absurd cc
        go no_word h e f = let both : halted (suc (length c.more)) ≡ done 0 = sym e ∙ f in absurd cc
        go no_room h e f = let both : too_deep (suc (length c.more)) ≡ done 0 = sym e ∙ f in absurd cc

    -- nor where more parts may be open
    none_deeper : (s : Step) → step r.flag r.later w (starts_operand tail) ≡ s → (s ≡ over) ⊎ (s ≡ no_word) → CanGoOn (sum d (suc k)) (r.front ++ w ∷ []) → ⊥
    none_deeper s e h c = go s h (raised c.more s e) (ap (formula_way (sum d (suc k))) (sym (regroup c.more)) ∙ way_of_all (sum d (suc k)) ((r.front ++ w ∷ []) ++ c.more) c.phrase c.formula)
      where
        go : (s : Step) → (s ≡ over) ⊎ (s ≡ no_word) → RaisedStep (suc k) s (step r.flag (deeper_all (suc k) r.later) w (starts_operand c.more)) → formula_way (sum d (suc k)) (r.front ++ w ∷ c.more) ≡ done 0 → ⊥
        go over h e f = let both : done (suc (length c.more)) ≡ done 0 = sym (way_deeper c.more over e) ∙ f in absurd cc
        go no_word h e f = let both : halted (suc (length c.more)) ≡ done 0 = sym (way_deeper c.more no_word e) ∙ f in absurd cc
        go (on g later) (inl h) e f = absurd cc
        go (on g later) (inr h) e f = absurd cc
        go no_room (inl h) e f = absurd cc
        go no_room (inr h) e f = absurd cc

    -- where a part more may be open, a formula does
    one_deeper : step r.flag r.later w (starts_operand tail) ≡ no_room → CanGoOn (sum d (suc k)) (r.front ++ w ∷ [])
    one_deeper e = go (raised tail no_room e)
      where
        go : (g : Bool) × (later : List Need) × (step r.flag (deeper_all (suc k) r.later) w (starts_operand tail) ≡ on g later) → CanGoOn (sum d (suc k)) (r.front ++ w ∷ [])
        go (g, later, is) =
            let fits = step_fits false (deeper_all (suc k) r.later) r.flag w (starts_operand tail) g later r.fits_deeper is in
            let here = taken (deeper_all (suc k) r.later) r.flag w (starts_operand tail) g later r.fits_deeper is in
            let whole = way_deeper (fill later) (on g later) here ∙ filled false later g fits in
            let f = formula_of_way (sum d (suc k)) ((r.front ++ w ∷ []) ++ fill later) (ap (formula_way (sum d (suc k))) (regroup (fill later)) ∙ whole) in
            record { more = fill later; phrase = f.0; formula = f.1 }

-- ---- what the way says of the words

deep_is : (d : ℕ) → sum 64 d ≡ 64 + d
deep_is d = omega arith

-- no formula goes on with a word at which reading stops
no_more : (ws : Words) (front rest : Words) (w : List ℕ) (tail : Words) (s : Step) → (s ≡ over) ⊎ (s ≡ no_word)
    → ((k : ℕ) → (r : Reach (suc k) true (formula_needs 64) ws) × (r.front ≡ front) × (r.rest ≡ w ∷ tail) × (step r.flag r.later w (starts_operand tail) ≡ s))
    → (more : ℕ) → CanGoOn (64 + more) (front ++ w ∷ []) → ⊥
no_more ws front rest w tail s h reached zero c = let r = reached 0 in none_there 64 0 ws r.0 w tail r.2 s r.3 (is_halt s h) (subst (λ (us : Words). CanGoOn 64 (us ++ w ∷ [])) (sym r.1) c)
  where
    is_halt : (s : Step) → (s ≡ over) ⊎ (s ≡ no_word) → IsHalt s
    is_halt s (inl e) = subst IsHalt (sym e) tt
    is_halt s (inr e) = subst IsHalt (sym e) tt
no_more ws front rest w tail s h reached (suc k) c =
    let r = reached k in
    none_deeper 64 k ws r.0 w tail r.2 s r.3 h (subst (λ (us : Words). CanGoOn (sum 64 (suc k)) (us ++ w ∷ [])) (sym r.1) (subst (λ (d : ℕ). CanGoOn d (front ++ w ∷ [])) (sym (deep_is (suc k))) c))

-- two cuts of the same words
cut_alike : (front rest other more : Words) → front ++ rest ≡ other ++ more → length rest ≡ length more → (front ≡ other) × (rest ≡ more)
cut_alike [] rest [] more e l = (refl, e)
cut_alike [] rest (x ∷ other) more e l = let long = length-append (x ∷ other) more in absurd (omega (arith, ap length e, l, long))
cut_alike (x ∷ front) rest [] more e l = let long = length-append (x ∷ front) rest in absurd (omega (arith, ap length e, l, long))
cut_alike (x ∷ front) rest (y ∷ other) more e l =
    let h = cut_alike front rest other more (tail_is x y (front ++ rest) (other ++ more) e) l in
    (ap₂ ◌∷◌ (head_is x y (front ++ rest) (other ++ more) e) h.0, h.1)
  where
    head_is : (x y : List ℕ) (xs ys : Words) → x ∷ xs ≡ y ∷ ys → x ≡ y
    head_is x y xs ys e = cc

    tail_is : (x y : List ℕ) (xs ys : Words) → x ∷ xs ≡ y ∷ ys → xs ≡ ys
    tail_is x y xs ys e = cc

-- where reading stops at a word: how many words are left, and what becomes of the word
record StopIs (k : ℕ) (ws : Words) (front : Words) (w : List ℕ) (tail : Words) (s : Step) : Type 0 where
  reached : Reach (suc k) true (formula_needs 64) ws
  front_is : reached.front ≡ front
  rest_is : reached.rest ≡ w ∷ tail
  step_is : step reached.flag reached.later w (starts_operand tail) ≡ s

-- what a way says of its end
abbrev Says : Step → ℕ → Way → Type 0
Says (on g later) left v = ⊥
Says over left v = v ≡ done left
Says no_word left v = v ≡ halted left
Says no_room left v = v ≡ too_deep left

step_of_way : (s t : Step) (left n : ℕ) (later : Bool → List Need → Way) → IsHalt t → Says s n (way_by t left later) → (left ≡ n) × (t ≡ s)
step_of_way s (on g ns) left n later h e = absurd h
step_of_way (on g ns) t left n later h e = absurd e
step_of_way over over left n later h e = (cc, refl)
step_of_way over no_word left n later h e = absurd cc
step_of_way over no_room left n later h e = absurd cc
step_of_way no_word over left n later h e = absurd cc
step_of_way no_word no_word left n later h e = (cc, refl)
step_of_way no_word no_room left n later h e = absurd cc
step_of_way no_room over left n later h e = absurd cc
step_of_way no_room no_word left n later h e = absurd cc
step_of_way no_room no_room left n later h e = (cc, refl)

-- a way that ends at a word ends there however many parts more one asks about
stop_again : (k : ℕ) (ws front : Words) (w : List ℕ) (tail : Words) (s : Step) → ws ≡ front ++ w ∷ tail → Says s (suc (length tail)) (formula_way 64 ws) → StopIs k ws front w tail s
stop_again k ws front w tail s parts says = go (formula_reach 64 k ws)
  where
    not_end : (s : Step) (t : Bool) → Says s (suc (length tail)) (cond t (done 0) (halted 0)) → ⊥
    not_end (on g later) t e = e
    not_end over true e = absurd cc
    not_end over false e = absurd cc
    not_end no_word true e = absurd cc
    not_end no_word false e = absurd cc
    not_end no_room true e = absurd cc
    not_end no_room false e = absurd cc

    at_rest : (r : Reach (suc k) true (formula_needs 64) ws) (rest : Words) → r.rest ≡ rest → Says s (suc (length tail)) (way r.flag r.later rest) → StopIs k ws front w tail s
    at_rest r [] e h = absurd (not_end s (all_may_end r.later) h)
    at_rest r (v ∷ more) e h =
        let i = step_of_way s (step r.flag r.later v (starts_operand more)) (suc (length more)) (suc (length tail)) (λ g later. way g later more) (subst (StopsAt r.flag r.later) e r.stops) h in
        let cut = cut_alike r.front (v ∷ more) front (w ∷ tail) (sym (r.parts ∙ ap (λ (t : Words). r.front ++ t) e) ∙ parts) i.0 in
        let first : v ≡ w = first_is v w more tail cut.1 in
        let later : more ≡ tail = later_is v w more tail cut.1 in
        record {
          reached = r;
          front_is = cut.0;
          rest_is = e ∙ cut.1;
          step_is = ap (λ (x : List ℕ). step r.flag r.later x (starts_operand tail)) (sym first) ∙ ap (λ (t : Words). step r.flag r.later v (starts_operand t)) (sym later) ∙ i.1;
        }
      where
        first_is : (v w : List ℕ) (more tail : Words) → v ∷ more ≡ w ∷ tail → v ≡ w
        first_is v w more tail e = cc

        later_is : (v w : List ℕ) (more tail : Words) → v ∷ more ≡ w ∷ tail → more ≡ tail
        later_is v w more tail e = cc

    go : (r : Reach (suc k) true (formula_needs 64) ws) → StopIs k ws front w tail s
    go r = at_rest r r.rest refl (subst (Says s (suc (length tail))) r.comes says)

-- no formula goes on with that word
stuck_there : (ws front : Words) (w : List ℕ) (tail : Words) (s : Step) → ws ≡ front ++ w ∷ tail → (s ≡ over) ⊎ (s ≡ no_word) → Says s (suc (length tail)) (formula_way 64 ws) → (more : ℕ) → CanGoOn (64 + more) (front ++ w ∷ []) → ⊥
stuck_there ws front w tail s parts h says more c =
    no_more ws front [] w tail s h (λ k. let i = stop_again k ws front w tail s parts says in (i.reached, i.front_is, i.rest_is, i.step_is)) more c

-- ---- faults of a formula

-- so many words are left behind those in front
pub record Left (ws : Words) (left : ℕ) (Is : ℕ → Type 0) : Type 0 where
  pub words : ℕ
  pub sum_is : words + left ≡ length ws
  pub is : Is words

halted_is : (a b : ℕ) → halted a ≡ halted b → a ≡ b
halted_is a b e = cc

pub halted_at : (several : Bool) (ws : Words) (left : ℕ) → formula_way 64 ws ≡ halted left → Left ws left (IsStuckAt several ws)
halted_at several ws left e = go (formula_reach 64 0 ws) several
  where
    at_end : (r : Reach 1 true (formula_needs 64) ws) (several : Bool) → r.rest ≡ [] → Left ws left (IsStuckAt several ws)
    at_end r several none =
        let all : ws ≡ r.front = r.parts ∙ ap (λ (t : Words). r.front ++ t) none ∙ append-nil r.front in
        let zero_left : 0 ≡ left = zero (all_may_end r.later) (sym (r.comes ∙ ap (way r.flag r.later) none) ∙ e) in
        record {
          words = length r.front;
          sum_is = omega (arith, ap length all, zero_left);
          is = record {
            front = r.front;
            rest = [];
            parts = r.parts ∙ ap (λ (t : Words). r.front ++ t) none;
            count = refl;
            goes_on = goes_on 64 0 ws r;
            stuck = λ w tail i. absurd cc;
            unfinished = λ i p f. no_formula (sym (ap (formula_way 64) all ∙ way_of_all 64 r.front p f) ∙ e);
          };
        }
      where
        zero : (t : Bool) → cond t (done 0) (halted 0) ≡ halted left → 0 ≡ left
        zero true e = absurd cc
        zero false e = halted_is 0 left e

        no_formula : done 0 ≡ halted left → ⊥
        no_formula e = absurd cc

    at_word : (r : Reach 1 true (formula_needs 64) ws) (several : Bool) (w : List ℕ) (tail : Words) → r.rest ≡ w ∷ tail → Left ws left (IsStuckAt several ws)
    at_word r several w tail some =
        let i = step_of_way no_word (step r.flag r.later w (starts_operand tail)) (suc (length tail)) left (λ g later. way g later tail) (subst (StopsAt r.flag r.later) some r.stops) (sym (r.comes ∙ ap (way r.flag r.later) some) ∙ e) in
        let parts : ws ≡ r.front ++ w ∷ tail = r.parts ∙ ap (λ (t : Words). r.front ++ t) some in
        let long = length-append r.front (w ∷ tail) in
        record {
          words = length r.front;
          sum_is = omega (arith, ap length parts, long, i.0);
          is = record {
            front = r.front;
            rest = w ∷ tail;
            parts = parts;
            count = refl;
            goes_on = goes_on 64 0 ws r;
            stuck = λ v behind same more c.
                stuck_there ws r.front v behind no_word (parts ∙ ap (λ (t : Words). r.front ++ t) same) (inr refl) (e ∙ ap halted (sym i.0 ∙ ap length same)) more c;
            unfinished = λ ends p f. unfinished several ends p f parts;
          };
        }
      where
        unfinished : (several : Bool) → ends_formula several (w ∷ tail) ≡ true → (p : Phrase) → IsFormula 64 r.front p → ws ≡ r.front ++ w ∷ tail → ⊥
        unfinished false ends p f parts = absurd cc
        unfinished true ends p f parts =
            let semicolon : w ≡ codes ";" = eq_bytes w (codes ";") ends in
            let whole : formula_way 64 ws ≡ done (suc (length tail)) =
            ap (formula_way 64) (parts ∙ ap (λ (v : List ℕ). r.front ++ v ∷ tail) semicolon) ∙ way_of_formula 64 r.front (codes ";" ∷ tail) p f (no_entry_end tail) in
            let both : halted left ≡ done (suc (length tail)) = sym e ∙ whole in
            absurd cc

    go : (r : Reach 1 true (formula_needs 64) ws) (several : Bool) → Left ws left (IsStuckAt several ws)
    go r several = by_rest r.rest refl
      where
        by_rest : (rest : Words) → r.rest ≡ rest → Left ws left (IsStuckAt several ws)
        by_rest [] i = at_end r several i
        by_rest (w ∷ tail) i = at_word r several w tail i

pub deep_at : (ws : Words) (left : ℕ) → formula_way 64 ws ≡ too_deep left → Left ws left (IsTooDeepIn ws)
deep_at ws left e = by_rest (formula_reach 64 0 ws) (formula_reach 64 0 ws).rest refl
  where
    end_not_deep : (t : Bool) → cond t (done 0) (halted 0) ≡ too_deep left → ⊥
    end_not_deep true e = absurd cc
    end_not_deep false e = absurd cc

    by_rest : (r : Reach 1 true (formula_needs 64) ws) (rest : Words) → r.rest ≡ rest → Left ws left (IsTooDeepIn ws)
    by_rest r [] none = absurd (end_not_deep (all_may_end r.later) (sym (r.comes ∙ ap (way r.flag r.later) none) ∙ e))
    by_rest r (w ∷ tail) some =
        let i = step_of_way no_room (step r.flag r.later w (starts_operand tail)) (suc (length tail)) left (λ g later. way g later tail) (subst (StopsAt r.flag r.later) some r.stops) (sym (r.comes ∙ ap (way r.flag r.later) some) ∙ e) in
        let parts : ws ≡ r.front ++ w ∷ tail = r.parts ∙ ap (λ (t : Words). r.front ++ t) some in
        let long = length-append r.front (w ∷ tail) in
        record {
          words = length r.front;
          sum_is = omega (arith, ap length parts, long, i.0);
          is = record {
            front = r.front;
            word = w;
            behind = tail;
            parts = parts;
            count = refl;
            goes_on = goes_on 64 0 ws r;
            stuck = none_there 64 0 ws r w tail some no_room i.1 tt;
            deeper = one_deeper 64 0 ws r w tail some i.1;
          };
        }

-- behind a whole formula comes what ends none
pub behind_formula : (several : Bool) (ws rest : Words) (p : Phrase) → phrase_at a_formula 64 ws ≡ Some (p, rest) → ends_formula several rest ≡ false → Left ws (length rest) (IsStuckAt several ws)
behind_formula several ws rest p e no_end =
    let i = phrase_found a_formula 64 ws (p, rest) e in
    let long = length-append i.0 rest in
    let says : formula_way 64 ws ≡ done (length rest) = (subst (λ (o : Option (Phrase × Words)). Sim plainly Whole (formula_way 64 ws) o (λ g rest. way g [] rest)) e (sim_of 64 ws)).0 ∙ nothing_left true rest in
    record {
      words = length i.0;
      sum_is = omega (arith, ap length i.2, long);
      is = record {
        front = i.0;
        rest = rest;
        parts = i.2;
        count = refl;
        goes_on = record { more = []; phrase = p; formula = subst (λ (us : Words). IsFormula 64 us p) (sym (append-nil i.0)) i.1 };
        stuck = λ w behind same more c. stuck_there ws i.0 w behind over (i.2 ∙ ap (λ (t : Words). i.0 ++ t) same) (inl refl) (says ∙ ap (λ (t : Words). done (length t)) same) more c;
        unfinished = λ ends q f. let both : false ≡ true = sym no_end ∙ ends in absurd cc;
      };
    }

-- where nothing is read, the way does not come to the end of a formula
pub never_done : (ws : Words) (left : ℕ) → phrase_at a_formula 64 ws ≡ None → formula_way 64 ws ≡ done left → ⊥
never_done ws left e f =
    let s = subst (λ (o : Option (Phrase × Words)). Sim plainly Whole (formula_way 64 ws) o (λ g rest. way g [] rest)) e (sim_of 64 ws) in
    let both : true ≡ false = sym s ∙ ap is_halted f in
    absurd cc
