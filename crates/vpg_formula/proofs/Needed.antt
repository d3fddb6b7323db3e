-- What is still to come of a formula, word by word.
use Rattle.std.proofs.Common.{◌≡◌, ℕ, zero, suc, ◌⊎◌, inl, inr, Bool, true, false, cond, List, [], ◌∷◌, ◌++◌, length, refl, sym, ap, subst, ◌∙◌}
use Rattle.std.specs.Prelude.{codes, bytes_eq, not, ◌&&◌, ◌||◌, is_some}
use Rattle.vpg_features.proofs.Held.{eq_bytes, same_bytes, both_true}
use Rattle.vpg_formula.specs.Regular.{word_formula}
use Rattle.vpg_formula.specs.Written.{diamond, box, is_variable, Head, leaf, deadlock, of_action, parenthesis, in_front, modality, again, after_action, binder, other, head_of}
use Rattle.vpg_formula.specs.Reading.{starts_operand}
use Rattle.vpg_formula.specs.Needs.{Closer, shut, bracket, closer, Need, part, ands, ors, implied, variable, exactly, closes, operand, acting, alls, anys, stars, dots, pluses, unacting, formula_needs, Turn, goes, skips, stuck, deep, if_open, front_needs, act_needs, enclosed_needs, modal_needs, again_needs, after_needs, binder_needs, path_needs, group_needs, part_turn, word_turn, operand_turn, if_acting, is_star, turn_of, may_end, Step, on, over, no_word, no_room, step_by, step, done, halted, way_by, all_may_end, way}

abbrev Words : Type 0
Words = List (List ℕ)

-- ---- lists of needs that come to be

-- what closes a part comes next, but for what need not come
abbrev is_shut : List Need → Bool
is_shut [] = true
is_shut (part d ∷ ns) = false
is_shut (variable ∷ ns) = false
is_shut (exactly v ∷ ns) = false
is_shut (operand d ∷ ns) = false
is_shut (acting d ∷ ns) = false
is_shut (closes c ∷ ns) = true
is_shut (ands d ∷ ns) = is_shut ns
is_shut (ors d ∷ ns) = is_shut ns
is_shut (implied d ∷ ns) = is_shut ns
is_shut (alls d ∷ ns) = is_shut ns
is_shut (anys d ∷ ns) = is_shut ns
is_shut (stars ∷ ns) = is_shut ns
is_shut (dots d ∷ ns) = is_shut ns
is_shut (pluses d ∷ ns) = is_shut ns
is_shut (unacting ∷ ns) = is_shut ns

-- `*`, `.` and `+` may come in this order alone; the flag says whether they are begun
abbrev pub fit : Bool → List Need → Bool
fit true [] = false
fit false [] = true
fit true (dots d ∷ ns) = fit true ns
fit true (unacting ∷ ns) = fit true ns
fit true (pluses d ∷ ns) = is_shut ns && fit false ns
fit true (n ∷ ns) = false
fit false (part d ∷ ns) = is_shut ns && fit false ns
fit false (ands d ∷ ns) = is_shut ns && fit false ns
fit false (ors d ∷ ns) = is_shut ns && fit false ns
fit false (implied d ∷ ns) = is_shut ns && fit false ns
fit false (alls d ∷ ns) = is_shut ns && fit false ns
fit false (anys d ∷ ns) = is_shut ns && fit false ns
fit false (variable ∷ ns) = fit false ns
fit false (exactly v ∷ ns) = not (bytes_eq v (codes "+")) && fit false ns
fit false (closes c ∷ ns) = fit false ns
fit false (operand d ∷ ns) = fit false ns
fit false (acting d ∷ ns) = fit false ns
fit false (stars ∷ ns) = fit true ns
fit false (dots d ∷ ns) = false
fit false (pluses d ∷ ns) = false
fit false (unacting ∷ ns) = false

both : (a b : Bool) → a ≡ true → b ≡ true → (a && b) ≡ true
both true b e f = f
both false b e f = absurd cc

-- ---- a step keeps that

-- which flag a list has behind this need
abbrev next : Need → Bool
next stars = true
next (dots d) = true
next (unacting) = true
next (part d) = false
next (ands d) = false
next (ors d) = false
next (implied d) = false
next variable = false
next (exactly v) = false
next (closes c) = false
next (operand d) = false
next (acting d) = false
next (alls d) = false
next (anys d) = false
next (pluses d) = false

abbrev Fits : Need → List Need → Turn → Type 0
Fits n ns (goes g more) = fit false (more ++ ns) ≡ true
Fits n ns (skips g) = fit (next n) ns ≡ true
Fits n ns stuck = Unit {0}
Fits n ns deep = Unit {0}

picked : (n : Need) (ns : List Need) (t : Bool) (a b : Turn) → Fits n ns a → Fits n ns b → Fits n ns (cond t a b)
picked n ns true a b p q = p
picked n ns false a b p q = q

opened : (n : Need) (ns : List Need) (d : ℕ) (needs : ℕ → List Need) → ((e : ℕ) → fit false (needs e ++ ns) ≡ true) → Fits n ns (if_open d needs)
opened n ns zero needs h = tt
opened n ns (suc d) needs h = h d

formula_fits : (k : ℕ) (ns : List Need) → is_shut ns ≡ true → fit false ns ≡ true → fit false (formula_needs k ++ ns) ≡ true
formula_fits k ns s e = let all = both (is_shut ns) (fit false ns) s e in both (is_shut ns) _ s (both (is_shut ns) _ s (both (is_shut ns) _ s all))

part_fits : (d : ℕ) (n : Need) (ns : List Need) (h : Head) → is_shut ns ≡ true → fit false ns ≡ true → Fits n ns (part_turn d h)
part_fits d n ns (leaf f) s e = e
part_fits d n ns deadlock s e = e
part_fits d n ns (of_action make) s e = opened n ns d act_needs (λ k. e)
part_fits d n ns parenthesis s e = opened n ns d enclosed_needs (λ k. e)
part_fits d n ns (in_front prefix) s e = opened n ns d front_needs (λ k. both (is_shut ns) (fit false ns) s e)
part_fits d n ns (modality m) s e = opened n ns d (modal_needs m) (λ k. both (is_shut ns) (fit false ns) s e)
part_fits d n ns again s e = opened n ns d again_needs (λ k. both (is_shut ns) (fit false ns) s e)
part_fits d n ns after_action s e = opened n ns d after_needs (λ k. both (is_shut ns) (fit false ns) s e)
part_fits d n ns (binder kind) s e = opened n ns d binder_needs (λ k. formula_fits k ns s e)
part_fits d n ns other s e = tt

word_fits : (n : Need) (ns : List Need) (w : List ℕ) → fit false ns ≡ true → Fits n ns (word_turn w)
word_fits n ns w e = picked n ns (is_some (word_formula w)) _ _ e tt

operand_fits : (d : ℕ) (n : Need) (ns : List Need) (inside : ℕ → List Need) (w : List ℕ) → fit false ns ≡ true → ((k : ℕ) → fit false (inside k ++ ns) ≡ true) → Fits n ns (operand_turn d inside w)
operand_fits d n ns inside w e h =
    picked n ns (bytes_eq w (codes "!")) _ _ (opened n ns d act_needs (λ k. e))
    (picked n ns (bytes_eq w (codes "(")) _ _ (opened n ns d inside h) (word_fits n ns w e))

acting_fits : (n : Need) (ns more : List Need) (f : Bool) → fit false (more ++ ns) ≡ true → Fits n ns (if_acting f more)
acting_fits n ns more true e = e
acting_fits n ns more false e = tt

-- what comes behind `*`, `.` and `+` closes a part
chain_shut : (ns : List Need) → fit true ns ≡ true → is_shut ns ≡ true
chain_shut [] e = absurd cc
chain_shut (dots d ∷ ns) e = chain_shut ns e
chain_shut (unacting ∷ ns) e = chain_shut ns e
chain_shut (pluses d ∷ ns) e = (both_true (is_shut ns) (fit false ns) e).0
chain_shut (part d ∷ ns) e = absurd cc
chain_shut (ands d ∷ ns) e = absurd cc
chain_shut (ors d ∷ ns) e = absurd cc
chain_shut (implied d ∷ ns) e = absurd cc
chain_shut (variable ∷ ns) e = absurd cc
chain_shut (exactly v ∷ ns) e = absurd cc
chain_shut (closes c ∷ ns) e = absurd cc
chain_shut (operand d ∷ ns) e = absurd cc
chain_shut (acting d ∷ ns) e = absurd cc
chain_shut (alls d ∷ ns) e = absurd cc
chain_shut (anys d ∷ ns) e = absurd cc
chain_shut (stars ∷ ns) e = absurd cc

turn_fits : (n : Need) (ns : List Need) (b f : Bool) (w : List ℕ) (s : Bool) → fit b (n ∷ ns) ≡ true → Fits n ns (turn_of n f w s)
turn_fits (part d) ns false f w s e = let h = both_true (is_shut ns) (fit false ns) e in part_fits d (part d) ns (head_of w) h.0 h.1
turn_fits (ands d) ns false f w s e = let h = both_true (is_shut ns) (fit false ns) e in picked (ands d) ns (bytes_eq w (codes "&&")) _ _ (both (is_shut ns) _ h.0 e) h.1
turn_fits (ors d) ns false f w s e = let h = both_true (is_shut ns) (fit false ns) e in picked (ors d) ns (bytes_eq w (codes "||")) _ _ (both (is_shut ns) _ h.0 (both (is_shut ns) _ h.0 e)) h.1
turn_fits (implied d) ns false f w s e = let h = both_true (is_shut ns) (fit false ns) e in picked (implied d) ns (bytes_eq w (codes "=>")) _ _ (opened (implied d) ns d formula_needs (λ k. formula_fits k ns h.0 h.1)) h.1
turn_fits variable ns false f w s e = picked variable ns (is_variable w) _ _ e tt
turn_fits (exactly v) ns false f w s e = let h = both_true (not (bytes_eq v (codes "+"))) (fit false ns) e in picked (exactly v) ns (bytes_eq w v) _ _ h.1 tt
turn_fits (closes c) ns false f w s e = picked (closes c) ns (bytes_eq w (closer c)) _ _ e tt
turn_fits (operand d) ns false f w s e = operand_fits d (operand d) ns path_needs w e (λ k. e)
turn_fits (acting d) ns false f w s e = operand_fits d (acting d) ns group_needs w e (λ k. e)
turn_fits (alls d) ns false f w s e = let h = both_true (is_shut ns) (fit false ns) e in picked (alls d) ns (bytes_eq w (codes "&&")) _ _ (acting_fits (alls d) ns _ f e) h.1
turn_fits (anys d) ns false f w s e = let h = both_true (is_shut ns) (fit false ns) e in picked (anys d) ns (bytes_eq w (codes "||")) _ _ (acting_fits (anys d) ns _ f (both (is_shut ns) _ h.0 e)) h.1
turn_fits stars ns false f w s e = picked stars ns (is_star w s) _ _ e e
turn_fits (dots d) ns true f w s e = picked (dots d) ns (bytes_eq w (codes ".")) _ _ (let h = chain_shut ns e in both (is_shut ns) _ h (both (is_shut ns) _ h e)) e
turn_fits (pluses d) ns true f w s e = let h = both_true (is_shut ns) (fit false ns) e in picked (pluses d) ns (bytes_eq w (codes "+") && s) _ _ (both (is_shut ns) _ h.0 (both (is_shut ns) _ h.0 e)) h.1
turn_fits unacting ns true f w s e = e
turn_fits (dots d) ns false f w s e = absurd cc
turn_fits (pluses d) ns false f w s e = absurd cc
turn_fits unacting ns false f w s e = absurd cc
turn_fits (part d) ns true f w s e = absurd cc
turn_fits (ands d) ns true f w s e = absurd cc
turn_fits (ors d) ns true f w s e = absurd cc
turn_fits (implied d) ns true f w s e = absurd cc
turn_fits variable ns true f w s e = absurd cc
turn_fits (exactly v) ns true f w s e = absurd cc
turn_fits (closes c) ns true f w s e = absurd cc
turn_fits (operand d) ns true f w s e = absurd cc
turn_fits (acting d) ns true f w s e = absurd cc
turn_fits (alls d) ns true f w s e = absurd cc
turn_fits (anys d) ns true f w s e = absurd cc
turn_fits stars ns true f w s e = absurd cc

on_is : (a b : Bool) (xs ys : List Need) → on a xs ≡ on b ys → (a ≡ b) × (xs ≡ ys)
on_is a b xs ys e = (cc, cc)

pub step_fits : (b : Bool) (ns : List Need) (f : Bool) (w : List ℕ) (s g : Bool) (later : List Need) → fit b ns ≡ true → step f ns w s ≡ on g later → fit false later ≡ true
step_fits b [] f w s g later h e = absurd cc
step_fits b (n ∷ ns) f w s g later h e = go (turn_of n f w s) (turn_fits n ns b f w s h) e (λ k c i. step_fits c ns k w s g later i)
  where
    go : (t : Turn) → Fits n ns t → step_by t ns (λ k. step k ns w s) ≡ on g later → ((k c : Bool) → fit c ns ≡ true → step k ns w s ≡ on g later → fit false later ≡ true) → fit false later ≡ true
    go (goes k more) p e so = subst (λ (x : List Need). fit false x ≡ true) (on_is k g (more ++ ns) later e).1 p
    go (skips k) p e so = so k (next n) p e
    go stuck p e so = absurd cc
    go deep p e so = absurd cc

-- ---- what is left can come

-- words that are all that is still to come
abbrev pub fill : List Need → Words
fill [] = []
fill (part d ∷ ns) = codes "true" ∷ fill ns
fill (variable ∷ ns) = codes "x" ∷ fill ns
fill (exactly v ∷ ns) = v ∷ fill ns
fill (closes c ∷ ns) = closer c ∷ fill ns
fill (operand d ∷ ns) = codes "true" ∷ fill ns
fill (acting d ∷ ns) = codes "true" ∷ fill ns
fill (ands d ∷ ns) = fill ns
fill (ors d ∷ ns) = fill ns
fill (implied d ∷ ns) = fill ns
fill (alls d ∷ ns) = fill ns
fill (anys d ∷ ns) = fill ns
fill (stars ∷ ns) = fill ns
fill (dots d ∷ ns) = fill ns
fill (pluses d ∷ ns) = fill ns
fill (unacting ∷ ns) = fill ns

-- words begin with what closes a part, or there are none
abbrev Shut : Words → Type 0
Shut ws = (ws ≡ []) ⊎ ((c : Closer) × (rest : Words) × (ws ≡ closer c ∷ rest))

shut_fill : (ns : List Need) → is_shut ns ≡ true → Shut (fill ns)
shut_fill [] e = inl refl
shut_fill (closes c ∷ ns) e = inr (c, fill ns, refl)
shut_fill (ands d ∷ ns) e = shut_fill ns e
shut_fill (ors d ∷ ns) e = shut_fill ns e
shut_fill (implied d ∷ ns) e = shut_fill ns e
shut_fill (alls d ∷ ns) e = shut_fill ns e
shut_fill (anys d ∷ ns) e = shut_fill ns e
shut_fill (stars ∷ ns) e = shut_fill ns e
shut_fill (dots d ∷ ns) e = shut_fill ns e
shut_fill (pluses d ∷ ns) e = shut_fill ns e
shut_fill (unacting ∷ ns) e = shut_fill ns e
shut_fill (part d ∷ ns) e = absurd cc
shut_fill (variable ∷ ns) e = absurd cc
shut_fill (exactly v ∷ ns) e = absurd cc
shut_fill (operand d ∷ ns) e = absurd cc
shut_fill (acting d ∷ ns) e = absurd cc

abbrev kept : Need → Bool → Bool
kept unacting f = false
kept (part d) f = f
kept (ands d) f = f
kept (ors d) f = f
kept (implied d) f = f
kept variable f = f
kept (exactly v) f = f
kept (closes c) f = f
kept (operand d) f = f
kept (acting d) f = f
kept (alls d) f = f
kept (anys d) f = f
kept stars f = f
kept (dots d) f = f
kept (pluses d) f = f

-- what need not come does not come in front of what closes a part
pops : (n : Need) (ns : List Need) (f : Bool) (c : Closer) (s : Bool) → may_end n ≡ true → step f (n ∷ ns) (closer c) s ≡ step (kept n f) ns (closer c) s
pops (ands d) ns f shut s e = refl
pops (ands d) ns f (bracket diamond) s e = refl
pops (ands d) ns f (bracket box) s e = refl
pops (ors d) ns f shut s e = refl
pops (ors d) ns f (bracket diamond) s e = refl
pops (ors d) ns f (bracket box) s e = refl
pops (implied d) ns f shut s e = refl
pops (implied d) ns f (bracket diamond) s e = refl
pops (implied d) ns f (bracket box) s e = refl
pops (alls d) ns f shut s e = refl
pops (alls d) ns f (bracket diamond) s e = refl
pops (alls d) ns f (bracket box) s e = refl
pops (anys d) ns f shut s e = refl
pops (anys d) ns f (bracket diamond) s e = refl
pops (anys d) ns f (bracket box) s e = refl
pops stars ns f shut s e = refl
pops stars ns f (bracket diamond) s e = refl
pops stars ns f (bracket box) s e = refl
pops (dots d) ns f shut s e = refl
pops (dots d) ns f (bracket diamond) s e = refl
pops (dots d) ns f (bracket box) s e = refl
pops (pluses d) ns f shut s e = refl
pops (pluses d) ns f (bracket diamond) s e = refl
pops (pluses d) ns f (bracket box) s e = refl
pops unacting ns f shut s e = refl
pops unacting ns f (bracket diamond) s e = refl
pops unacting ns f (bracket box) s e = refl
pops (part d) ns f c s e = absurd cc
pops variable ns f c s e = absurd cc
pops (exactly v) ns f c s e = absurd cc
pops (closes k) ns f c s e = absurd cc
pops (operand d) ns f c s e = absurd cc
pops (acting d) ns f c s e = absurd cc

way_pops : (n : Need) (ns : List Need) (f : Bool) (ws : Words) → may_end n ≡ true → Shut ws → way f (n ∷ ns) ws ≡ way (kept n f) ns ws
way_pops n ns f ws e (inl none) =
    ap (way f (n ∷ ns)) none ∙ ap (λ (t : Bool). cond (t && all_may_end ns) (done 0) (halted 0)) e ∙ sym (ap (way (kept n f) ns) none)
way_pops n ns f ws e (inr (c, rest, is)) =
    ap (way f (n ∷ ns)) is
    ∙ ap (λ (t : Step). way_by t (suc (length rest)) (λ g later. way g later rest)) (pops n ns f c (starts_operand rest) e)
    ∙ sym (ap (way (kept n f) ns) is)

exactly_taken : (v : List ℕ) (ns : List Need) (f : Bool) (ws : Words) → way f (exactly v ∷ ns) (v ∷ ws) ≡ way f ns ws
exactly_taken v ns f ws =
    ap (λ (t : Bool). way_by (step_by (cond t (goes f []) stuck) ns (λ g. step g ns v (starts_operand ws))) (suc (length ws)) (λ g later. way g later ws)) (same_bytes v v refl)

closes_taken : (c : Closer) (ns : List Need) (f : Bool) (ws : Words) → way f (closes c ∷ ns) (closer c ∷ ws) ≡ way f ns ws
closes_taken shut ns f ws = refl
closes_taken (bracket diamond) ns f ws = refl
closes_taken (bracket box) ns f ws = refl

pub filled : (b : Bool) (ns : List Need) (f : Bool) → fit b ns ≡ true → way f ns (fill ns) ≡ done 0
filled true [] f e = absurd cc
filled false [] f e = refl
filled false (part d ∷ ns) f e = filled false ns true (both_true (is_shut ns) (fit false ns) e).1
filled false (variable ∷ ns) f e = filled false ns f e
filled false (exactly v ∷ ns) f e = exactly_taken v ns f (fill ns) ∙ filled false ns f (both_true (not (bytes_eq v (codes "+"))) (fit false ns) e).1
filled false (closes c ∷ ns) f e = closes_taken c ns f (fill ns) ∙ filled false ns f e
filled false (operand d ∷ ns) f e = filled false ns true e
filled false (acting d ∷ ns) f e = filled false ns true e
filled false (ands d ∷ ns) f e = let h = both_true (is_shut ns) (fit false ns) e in way_pops (ands d) ns f (fill ns) refl (shut_fill ns h.0) ∙ filled false ns f h.1
filled false (ors d ∷ ns) f e = let h = both_true (is_shut ns) (fit false ns) e in way_pops (ors d) ns f (fill ns) refl (shut_fill ns h.0) ∙ filled false ns f h.1
filled false (implied d ∷ ns) f e = let h = both_true (is_shut ns) (fit false ns) e in way_pops (implied d) ns f (fill ns) refl (shut_fill ns h.0) ∙ filled false ns f h.1
filled false (alls d ∷ ns) f e = let h = both_true (is_shut ns) (fit false ns) e in way_pops (alls d) ns f (fill ns) refl (shut_fill ns h.0) ∙ filled false ns f h.1
filled false (anys d ∷ ns) f e = let h = both_true (is_shut ns) (fit false ns) e in way_pops (anys d) ns f (fill ns) refl (shut_fill ns h.0) ∙ filled false ns f h.1
filled false (stars ∷ ns) f e = way_pops stars ns f (fill ns) refl (shut_fill ns (chain_shut ns e)) ∙ filled true ns f e
filled true (dots d ∷ ns) f e = way_pops (dots d) ns f (fill ns) refl (shut_fill ns (chain_shut ns e)) ∙ filled true ns f e
filled true (unacting ∷ ns) f e = way_pops unacting ns f (fill ns) refl (shut_fill ns (chain_shut ns e)) ∙ filled true ns false e
filled true (pluses d ∷ ns) f e = let h = both_true (is_shut ns) (fit false ns) e in way_pops (pluses d) ns f (fill ns) refl (shut_fill ns h.0) ∙ filled false ns f h.1
filled false (dots d ∷ ns) f e = absurd cc
filled false (pluses d ∷ ns) f e = absurd cc
filled false (unacting ∷ ns) f e = absurd cc
filled true (part d ∷ ns) f e = absurd cc
filled true (ands d ∷ ns) f e = absurd cc
filled true (ors d ∷ ns) f e = absurd cc
filled true (implied d ∷ ns) f e = absurd cc
filled true (variable ∷ ns) f e = absurd cc
filled true (exactly v ∷ ns) f e = absurd cc
filled true (closes c ∷ ns) f e = absurd cc
filled true (operand d ∷ ns) f e = absurd cc
filled true (acting d ∷ ns) f e = absurd cc
filled true (alls d ∷ ns) f e = absurd cc
filled true (anys d ∷ ns) f e = absurd cc
filled true (stars ∷ ns) f e = absurd cc

-- ---- what stands behind a word

-- only `+` is read by what stands behind it
no_plus : (ns : List Need) (f : Bool) (w : List ℕ) (s t : Bool) → bytes_eq w (codes "+") ≡ false → step f ns w s ≡ step f ns w t
no_plus [] f w s t e = refl
no_plus (n ∷ ns) f w s t e = ap (λ (x : Turn). step_by x ns (λ g. step g ns w s)) (same n) ∙ go (turn_of n f w t) (λ g. no_plus ns g w s t e)
  where
    same : (n : Need) → turn_of n f w s ≡ turn_of n f w t
    same stars = ap (λ (p : Bool). cond (bytes_eq w (codes "*") || (p && not s)) (goes false (stars ∷ [])) (skips f)) e ∙ sym (ap (λ (p : Bool). cond (bytes_eq w (codes "*") || (p && not t)) (goes false (stars ∷ [])) (skips f)) e)
    same (pluses d) =
        ap (λ (p : Bool). cond (p && s) (goes f (operand d ∷ alls d ∷ anys d ∷ stars ∷ dots d ∷ unacting ∷ pluses d ∷ [])) (skips f)) e
        ∙ sym (ap (λ (p : Bool). cond (p && t) (goes f (operand d ∷ alls d ∷ anys d ∷ stars ∷ dots d ∷ unacting ∷ pluses d ∷ [])) (skips f)) e)
    same (part d) = refl
    same (ands d) = refl
    same (ors d) = refl
    same (implied d) = refl
    same variable = refl
    same (exactly v) = refl
    same (closes c) = refl
    same (operand d) = refl
    same (acting d) = refl
    same (alls d) = refl
    same (anys d) = refl
    same (dots d) = refl
    same unacting = refl

    go : (x : Turn) → ((g : Bool) → step g ns w s ≡ step g ns w t) → step_by x ns (λ g. step g ns w s) ≡ step_by x ns (λ g. step g ns w t)
    go (goes g more) so = refl
    go (skips g) so = so g
    go stuck so = refl
    go deep so = refl

abbrev pub IsHalt : Step → Type 0
IsHalt (on g later) = ⊥
IsHalt over = Unit {0}
IsHalt no_word = Unit {0}
IsHalt no_room = Unit {0}

-- a `+` in front of an operand goes on, and an operand comes
record GoesOn (s : Step) : Type 0 where
  flag : Bool
  later : List Need
  is : s ≡ on flag later
  starts : starts_operand (fill later) ≡ true

plus_on : (ns : List Need) (f : Bool) → fit true ns ≡ true → GoesOn (step f ns (codes "+") true)
plus_on [] f e = absurd cc
plus_on (dots d ∷ ns) f e = plus_on ns f e
plus_on (unacting ∷ ns) f e = plus_on ns false e
plus_on (pluses d ∷ ns) f e = record { flag = f; later = operand d ∷ alls d ∷ anys d ∷ stars ∷ dots d ∷ unacting ∷ pluses d ∷ ns; is = refl; starts = refl }
plus_on (part d ∷ ns) f e = absurd cc
plus_on (ands d ∷ ns) f e = absurd cc
plus_on (ors d ∷ ns) f e = absurd cc
plus_on (implied d ∷ ns) f e = absurd cc
plus_on (variable ∷ ns) f e = absurd cc
plus_on (exactly v ∷ ns) f e = absurd cc
plus_on (closes c ∷ ns) f e = absurd cc
plus_on (operand d ∷ ns) f e = absurd cc
plus_on (acting d ∷ ns) f e = absurd cc
plus_on (alls d ∷ ns) f e = absurd cc
plus_on (anys d ∷ ns) f e = absurd cc
plus_on (stars ∷ ns) f e = absurd cc

no_start : (ws : Words) → Shut ws → starts_operand ws ≡ false
no_start ws (inl none) = ap starts_operand none
no_start ws (inr (shut, rest, is)) = ap starts_operand is
no_start ws (inr (bracket diamond, rest, is)) = ap starts_operand is
no_start ws (inr (bracket box, rest, is)) = ap starts_operand is

go_local : (n : Need) (ns : List Need) (f s t : Bool) (x : Turn) → Fits n ns x → IsHalt (step_by x ns (λ g. step g ns (codes "+") s))
    → ((g : Bool) → fit (next n) ns ≡ true → IsHalt (step g ns (codes "+") s) → step g ns (codes "+") t ≡ step g ns (codes "+") s)
    → step_by x ns (λ g. step g ns (codes "+") t) ≡ step_by x ns (λ g. step g ns (codes "+") s)
go_local n ns f s t (goes g more) p h so = absurd h
go_local n ns f s t (skips g) p h so = so g p h
go_local n ns f s t stuck p h so = refl
go_local n ns f s t deep p h so = refl

-- where `+` stops reading it does so whatever stands behind it
plus_local : (ns : List Need) (f s t : Bool) → fit false ns ≡ true → IsHalt (step f ns (codes "+") s) → step f ns (codes "+") t ≡ step f ns (codes "+") s
plus_local [] f s t e h = refl
plus_local (stars ∷ ns) f false t e h = absurd h
plus_local (stars ∷ ns) f true t e h = let p = plus_on ns f e in absurd (subst IsHalt p.is h)
plus_local (part d ∷ ns) f s t e h = go_local (part d) ns f s t (turn_of (part d) f (codes "+") s) (turn_fits (part d) ns false f (codes "+") s e) h (λ g i. plus_local ns g s t i)
plus_local (ands d ∷ ns) f s t e h = go_local (ands d) ns f s t (turn_of (ands d) f (codes "+") s) (turn_fits (ands d) ns false f (codes "+") s e) h (λ g i. plus_local ns g s t i)
plus_local (ors d ∷ ns) f s t e h = go_local (ors d) ns f s t (turn_of (ors d) f (codes "+") s) (turn_fits (ors d) ns false f (codes "+") s e) h (λ g i. plus_local ns g s t i)
plus_local (implied d ∷ ns) f s t e h = go_local (implied d) ns f s t (turn_of (implied d) f (codes "+") s) (turn_fits (implied d) ns false f (codes "+") s e) h (λ g i. plus_local ns g s t i)
plus_local (variable ∷ ns) f s t e h = go_local variable ns f s t (turn_of variable f (codes "+") s) (turn_fits variable ns false f (codes "+") s e) h (λ g i. plus_local ns g s t i)
plus_local (exactly v ∷ ns) f s t e h = go_local (exactly v) ns f s t (turn_of (exactly v) f (codes "+") s) (turn_fits (exactly v) ns false f (codes "+") s e) h (λ g i. plus_local ns g s t i)
plus_local (closes c ∷ ns) f s t e h = go_local (closes c) ns f s t (turn_of (closes c) f (codes "+") s) (turn_fits (closes c) ns false f (codes "+") s e) h (λ g i. plus_local ns g s t i)
plus_local (operand d ∷ ns) f s t e h = go_local (operand d) ns f s t (turn_of (operand d) f (codes "+") s) (turn_fits (operand d) ns false f (codes "+") s e) h (λ g i. plus_local ns g s t i)
plus_local (acting d ∷ ns) f s t e h = go_local (acting d) ns f s t (turn_of (acting d) f (codes "+") s) (turn_fits (acting d) ns false f (codes "+") s e) h (λ g i. plus_local ns g s t i)
plus_local (alls d ∷ ns) f s t e h = go_local (alls d) ns f s t (turn_of (alls d) f (codes "+") s) (turn_fits (alls d) ns false f (codes "+") s e) h (λ g i. plus_local ns g s t i)
plus_local (anys d ∷ ns) f s t e h = go_local (anys d) ns f s t (turn_of (anys d) f (codes "+") s) (turn_fits (anys d) ns false f (codes "+") s e) h (λ g i. plus_local ns g s t i)
plus_local (dots d ∷ ns) f s t e h = absurd cc
plus_local (pluses d ∷ ns) f s t e h = absurd cc
plus_local (unacting ∷ ns) f s t e h = absurd cc

-- where a word stops reading it does so whatever stands behind it
pub local : (ns : List Need) (f : Bool) (w : List ℕ) (s t : Bool) → fit false ns ≡ true → IsHalt (step f ns w s) → step f ns w t ≡ step f ns w s
local ns f w s t e h = go (bytes_eq w (codes "+")) refl (eq_bytes w (codes "+"))
  where
    go : (b : Bool) → bytes_eq w (codes "+") ≡ b → (b ≡ true → w ≡ codes "+") → step f ns w t ≡ step f ns w s
    go false p is = no_plus ns f w t s p
    go true p is =
        let here : w ≡ codes "+" = is refl in
        ap (λ (v : List ℕ). step f ns v t) here ∙ plus_local ns f s t e (subst (λ (v : List ℕ). IsHalt (step f ns v s)) here h) ∙ sym (ap (λ (v : List ℕ). step f ns v s) here)

go_taken : (n : Need) (ns : List Need) (s g : Bool) (later : List Need) (t : Turn) → Fits n ns t → step_by t ns (λ k. step k ns (codes "+") s) ≡ on g later
    → ((k : Bool) → fit (next n) ns ≡ true → step k ns (codes "+") s ≡ on g later → step k ns (codes "+") (starts_operand (fill later)) ≡ on g later)
    → step_by t ns (λ k. step k ns (codes "+") (starts_operand (fill later))) ≡ on g later
go_taken n ns s g later (goes k more) p h so = h
go_taken n ns s g later (skips k) p h so = so k p h
go_taken n ns s g later stuck p h so = h
go_taken n ns s g later deep p h so = h

-- what is taken is taken too where what is left comes behind it
plus_taken : (ns : List Need) (f s g : Bool) (later : List Need) → fit false ns ≡ true → step f ns (codes "+") s ≡ on g later → step f ns (codes "+") (starts_operand (fill later)) ≡ on g later
plus_taken [] f s g later e h = absurd cc
plus_taken (stars ∷ ns) f false g later e h =
    let i = on_is false g (stars ∷ ns) later h in
    ap (λ (t : Bool). step f (stars ∷ ns) (codes "+") t) (ap (λ (x : List Need). starts_operand (fill x)) (sym i.1) ∙ no_start (fill ns) (shut_fill ns (chain_shut ns e))) ∙ h
plus_taken (stars ∷ ns) f true g later e h =
    let p = plus_on ns f e in
    let i = on_is p.flag g p.later later (sym p.is ∙ h) in
    ap (λ (t : Bool). step f (stars ∷ ns) (codes "+") t) (ap (λ (x : List Need). starts_operand (fill x)) (sym i.1) ∙ p.starts) ∙ h
plus_taken (part d ∷ ns) f s g later e h = go_taken (part d) ns s g later (turn_of (part d) f (codes "+") s) (turn_fits (part d) ns false f (codes "+") s e) h (λ k i. plus_taken ns k s g later i)
plus_taken (ands d ∷ ns) f s g later e h = go_taken (ands d) ns s g later (turn_of (ands d) f (codes "+") s) (turn_fits (ands d) ns false f (codes "+") s e) h (λ k i. plus_taken ns k s g later i)
plus_taken (ors d ∷ ns) f s g later e h = go_taken (ors d) ns s g later (turn_of (ors d) f (codes "+") s) (turn_fits (ors d) ns false f (codes "+") s e) h (λ k i. plus_taken ns k s g later i)
plus_taken (implied d ∷ ns) f s g later e h = go_taken (implied d) ns s g later (turn_of (implied d) f (codes "+") s) (turn_fits (implied d) ns false f (codes "+") s e) h (λ k i. plus_taken ns k s g later i)
plus_taken (variable ∷ ns) f s g later e h = go_taken variable ns s g later (turn_of variable f (codes "+") s) (turn_fits variable ns false f (codes "+") s e) h (λ k i. plus_taken ns k s g later i)
plus_taken (exactly v ∷ ns) f s g later e h = go_taken (exactly v) ns s g later (turn_of (exactly v) f (codes "+") s) (turn_fits (exactly v) ns false f (codes "+") s e) h (λ k i. plus_taken ns k s g later i)
plus_taken (closes c ∷ ns) f s g later e h = go_taken (closes c) ns s g later (turn_of (closes c) f (codes "+") s) (turn_fits (closes c) ns false f (codes "+") s e) h (λ k i. plus_taken ns k s g later i)
plus_taken (operand d ∷ ns) f s g later e h = go_taken (operand d) ns s g later (turn_of (operand d) f (codes "+") s) (turn_fits (operand d) ns false f (codes "+") s e) h (λ k i. plus_taken ns k s g later i)
plus_taken (acting d ∷ ns) f s g later e h = go_taken (acting d) ns s g later (turn_of (acting d) f (codes "+") s) (turn_fits (acting d) ns false f (codes "+") s e) h (λ k i. plus_taken ns k s g later i)
plus_taken (alls d ∷ ns) f s g later e h = go_taken (alls d) ns s g later (turn_of (alls d) f (codes "+") s) (turn_fits (alls d) ns false f (codes "+") s e) h (λ k i. plus_taken ns k s g later i)
plus_taken (anys d ∷ ns) f s g later e h = go_taken (anys d) ns s g later (turn_of (anys d) f (codes "+") s) (turn_fits (anys d) ns false f (codes "+") s e) h (λ k i. plus_taken ns k s g later i)
plus_taken (dots d ∷ ns) f s g later e h = absurd cc
plus_taken (pluses d ∷ ns) f s g later e h = absurd cc
plus_taken (unacting ∷ ns) f s g later e h = absurd cc

pub taken : (ns : List Need) (f : Bool) (w : List ℕ) (s g : Bool) (later : List Need) → fit false ns ≡ true → step f ns w s ≡ on g later → step f ns w (starts_operand (fill later)) ≡ on g later
taken ns f w s g later e h = go (bytes_eq w (codes "+")) refl (eq_bytes w (codes "+"))
  where
    go : (b : Bool) → bytes_eq w (codes "+") ≡ b → (b ≡ true → w ≡ codes "+") → step f ns w (starts_operand (fill later)) ≡ on g later
    go false p is = no_plus ns f w (starts_operand (fill later)) s p ∙ h
    go true p is =
        let here : w ≡ codes "+" = is refl in
        ap (λ (v : List ℕ). step f ns v (starts_operand (fill later))) here ∙ plus_taken ns f s g later e (sym (ap (λ (v : List ℕ). step f ns v s) here) ∙ h)

-- ---- more parts may be open

-- a sum that computes by its first number
abbrev pub sum : ℕ → ℕ → ℕ
sum zero m = m
sum (suc d) m = suc (sum d m)

-- so many more
abbrev pub deeper : ℕ → Need → Need
deeper m (part d) = part (sum d m)
deeper m (ands d) = ands (sum d m)
deeper m (ors d) = ors (sum d m)
deeper m (implied d) = implied (sum d m)
deeper m variable = variable
deeper m (exactly v) = exactly v
deeper m (closes c) = closes c
deeper m (operand d) = operand (sum d m)
deeper m (acting d) = acting (sum d m)
deeper m (alls d) = alls (sum d m)
deeper m (anys d) = anys (sum d m)
deeper m stars = stars
deeper m (dots d) = dots (sum d m)
deeper m (pluses d) = pluses (sum d m)
deeper m unacting = unacting

abbrev pub deeper_all : ℕ → List Need → List Need
deeper_all m [] = []
deeper_all m (n ∷ ns) = deeper m n ∷ deeper_all m ns

deeper_append : (m : ℕ) (xs ys : List Need) → deeper_all m (xs ++ ys) ≡ deeper_all m xs ++ deeper_all m ys
deeper_append m [] ys = refl
deeper_append m (x ∷ xs) ys = ap (λ (t : List Need). deeper m x ∷ t) (deeper_append m xs ys)

-- a turn where one part more may be open at least
abbrev Raised : ℕ → Turn → Turn → Type 0
Raised m (goes g more) t = t ≡ goes g (deeper_all m more)
Raised m (skips g) t = t ≡ skips g
Raised m stuck t = t ≡ stuck
Raised m deep t = (g : Bool) × (more : List Need) × (t ≡ goes g more)

raised_pick : (m : ℕ) (t : Bool) (a b c d : Turn) → Raised m a c → Raised m b d → Raised m (cond t a b) (cond t c d)
raised_pick m true a b c d p q = p
raised_pick m false a b c d p q = q

-- needs inside one more part are those inside more parts
abbrev Alike : ℕ → (ℕ → List Need) → Type 0
Alike m needs = (e : ℕ) → needs (sum e m) ≡ deeper_all m (needs e)

raised_open : (k d : ℕ) (needs : ℕ → List Need) → Alike (suc k) needs → Raised (suc k) (if_open d needs) (if_open (sum d (suc k)) needs)
raised_open k zero needs a = (true, needs k, refl)
raised_open k (suc e) needs a = ap (goes true) (a e)

raised_part : (k d : ℕ) (h : Head) → Raised (suc k) (part_turn d h) (part_turn (sum d (suc k)) h)
raised_part k d (leaf f) = refl
raised_part k d deadlock = refl
raised_part k d (of_action make) = raised_open k d act_needs (λ e. refl)
raised_part k d parenthesis = raised_open k d enclosed_needs (λ e. refl)
raised_part k d (in_front prefix) = raised_open k d front_needs (λ e. refl)
raised_part k d (modality m) = raised_open k d (modal_needs m) (λ e. refl)
raised_part k d again = raised_open k d again_needs (λ e. refl)
raised_part k d after_action = raised_open k d after_needs (λ e. refl)
raised_part k d (binder kind) = raised_open k d binder_needs (λ e. refl)
raised_part k d other = refl

raised_word : (m : ℕ) (w : List ℕ) → Raised m (word_turn w) (word_turn w)
raised_word m w = raised_pick m (is_some (word_formula w)) _ _ _ _ refl refl

raised_operand : (k d : ℕ) (inside : ℕ → List Need) (w : List ℕ) → Alike (suc k) inside → Raised (suc k) (operand_turn d inside w) (operand_turn (sum d (suc k)) inside w)
raised_operand k d inside w a =
    raised_pick (suc k) (bytes_eq w (codes "!")) _ _ _ _ (raised_open k d act_needs (λ e. refl))
    (raised_pick (suc k) (bytes_eq w (codes "(")) _ _ _ _ (raised_open k d inside a) (raised_word (suc k) w))

raised_acting : (m : ℕ) (f : Bool) (more : List Need) → Raised m (if_acting f more) (if_acting f (deeper_all m more))
raised_acting m true more = refl
raised_acting m false more = refl

raised_turn : (k : ℕ) (n : Need) (f : Bool) (w : List ℕ) (s : Bool) → Raised (suc k) (turn_of n f w s) (turn_of (deeper (suc k) n) f w s)
raised_turn k (part d) f w s = raised_part k d (head_of w)
raised_turn k (ands d) f w s = raised_pick (suc k) (bytes_eq w (codes "&&")) _ _ _ _ refl refl
raised_turn k (ors d) f w s = raised_pick (suc k) (bytes_eq w (codes "||")) _ _ _ _ refl refl
raised_turn k (implied d) f w s = raised_pick (suc k) (bytes_eq w (codes "=>")) _ _ _ _ (raised_open k d formula_needs (λ e. refl)) refl
raised_turn k variable f w s = raised_pick (suc k) (is_variable w) _ _ _ _ refl refl
raised_turn k (exactly v) f w s = raised_pick (suc k) (bytes_eq w v) _ _ _ _ refl refl
raised_turn k (closes c) f w s = raised_pick (suc k) (bytes_eq w (closer c)) _ _ _ _ refl refl
raised_turn k (operand d) f w s = raised_operand k d path_needs w (λ e. refl)
raised_turn k (acting d) f w s = raised_operand k d group_needs w (λ e. refl)
raised_turn k (alls d) f w s = raised_pick (suc k) (bytes_eq w (codes "&&")) _ _ _ _ (raised_acting (suc k) f (acting d ∷ alls d ∷ [])) refl
raised_turn k (anys d) f w s = raised_pick (suc k) (bytes_eq w (codes "||")) _ _ _ _ (raised_acting (suc k) f (acting d ∷ alls d ∷ anys d ∷ [])) refl
raised_turn k stars f w s = raised_pick (suc k) (is_star w s) _ _ _ _ refl refl
raised_turn k (dots d) f w s = raised_pick (suc k) (bytes_eq w (codes ".")) _ _ _ _ refl refl
raised_turn k (pluses d) f w s = raised_pick (suc k) (bytes_eq w (codes "+") && s) _ _ _ _ refl refl
raised_turn k unacting f w s = refl

abbrev pub RaisedStep : ℕ → Step → Step → Type 0
RaisedStep m (on g later) t = t ≡ on g (deeper_all m later)
RaisedStep m over t = t ≡ over
RaisedStep m no_word t = t ≡ no_word
RaisedStep m no_room t = (g : Bool) × (later : List Need) × (t ≡ on g later)

pub raised_step : (k : ℕ) (ns : List Need) (f : Bool) (w : List ℕ) (s : Bool) → RaisedStep (suc k) (step f ns w s) (step f (deeper_all (suc k) ns) w s)
raised_step k [] f w s = refl
raised_step k (n ∷ ns) f w s = go (turn_of n f w s) (turn_of (deeper (suc k) n) f w s) (raised_turn k n f w s) (λ g. raised_step k ns g w s)
  where
    go : (t u : Turn) → Raised (suc k) t u → ((g : Bool) → RaisedStep (suc k) (step g ns w s) (step g (deeper_all (suc k) ns) w s))
        → RaisedStep (suc k) (step_by t ns (λ g. step g ns w s)) (step_by u (deeper_all (suc k) ns) (λ g. step g (deeper_all (suc k) ns) w s))
    go (goes g more) u r so = ap (λ (x : Turn). step_by x (deeper_all (suc k) ns) (λ h. step h (deeper_all (suc k) ns) w s)) r ∙ ap (on g) (sym (deeper_append (suc k) more ns))
    go (skips g) u r so = subst (λ (x : Turn). RaisedStep (suc k) (step g ns w s) (step_by x (deeper_all (suc k) ns) (λ h. step h (deeper_all (suc k) ns) w s))) (sym r) (so g)
    go stuck u r so = ap (λ (x : Turn). step_by x (deeper_all (suc k) ns) (λ h. step h (deeper_all (suc k) ns) w s)) r
    go deep u (g, more, is) so = (g, more ++ deeper_all (suc k) ns, ap (λ (x : Turn). step_by x (deeper_all (suc k) ns) (λ h. step h (deeper_all (suc k) ns) w s)) is)

-- ---- how far reading comes

-- whether reading stops there
abbrev pub StopsAt : Bool → List Need → Words → Type 0
StopsAt f ns [] = Unit {0}
StopsAt f ns (w ∷ ws) = IsHalt (step f ns w (starts_operand ws))

-- Reading comes to these words, behind those in front, and stops there. It comes to any others too that begin with the
-- same word, and to those that are all that is left, also where so many more parts may be open.
pub record Reach (m : ℕ) (f : Bool) (ns : List Need) (ws : Words) : Type 0 where
  pub front : Words
  pub rest : Words
  pub flag : Bool
  pub later : List Need
  pub parts : ws ≡ front ++ rest
  pub fits : fit false later ≡ true
  pub fits_deeper : fit false (deeper_all m later) ≡ true
  pub stops : StopsAt flag later rest
  pub comes : way f ns ws ≡ way flag later rest
  pub goes_on : (w : List ℕ) (tail more : Words) → rest ≡ w ∷ tail → way f ns (front ++ w ∷ more) ≡ way flag later (w ∷ more)
  pub goes_deeper : (w : List ℕ) (tail more : Words) → rest ≡ w ∷ tail → way f (deeper_all m ns) (front ++ w ∷ more) ≡ way flag (deeper_all m later) (w ∷ more)
  pub fills : way f ns (front ++ fill later) ≡ way flag later (fill later)
  pub first : front ≡ [] → later ≡ ns

starts_alike : (front : Words) (w : List ℕ) (tail more : Words) → starts_operand (front ++ w ∷ more) ≡ starts_operand (front ++ w ∷ tail)
starts_alike [] w tail more = refl
starts_alike (x ∷ front) w tail more = refl

stopped : (m : ℕ) (f : Bool) (ns : List Need) (ws : Words) → fit false ns ≡ true → fit false (deeper_all m ns) ≡ true → StopsAt f ns ws → Reach m f ns ws
stopped m f ns ws e d h = record {
  front = [];
  rest = ws;
  flag = f;
  later = ns;
  parts = refl;
  fits = e;
  fits_deeper = d;
  stops = h;
  comes = refl;
  goes_on = λ w tail more i. refl;
  goes_deeper = λ w tail more i. refl;
  fills = refl;
  first = λ i. refl;
}

stepped : (k : ℕ) (f g : Bool) (ns later : List Need) (w : List ℕ) (ws : Words) → fit false ns ≡ true → step f ns w (starts_operand ws) ≡ on g later → Reach (suc k) g later ws → Reach (suc k) f ns (w ∷ ws)
stepped k f g ns later w ws e h r = record {
  front = w ∷ r.front;
  rest = r.rest;
  flag = r.flag;
  later = r.later;
  parts = ap (λ (t : Words). w ∷ t) r.parts;
  fits = r.fits;
  fits_deeper = r.fits_deeper;
  stops = r.stops;
  comes = taking f ns ws h ∙ r.comes;
  goes_on = λ v tail more i. taking f ns (r.front ++ v ∷ more) (ap (step f ns w) (alike v tail more i) ∙ h) ∙ r.goes_on v tail more i;
  goes_deeper = λ v tail more i. taking_deeper (r.front ++ v ∷ more) (ap (step f ns w) (alike v tail more i) ∙ h) ∙ r.goes_deeper v tail more i;
  fills = taking f ns (r.front ++ fill r.later) (filling r.front refl) ∙ r.fills;
  first = λ i. absurd cc;
}
  where
    taking : (f : Bool) (ns : List Need) (vs : Words) → step f ns w (starts_operand vs) ≡ on g later → way f ns (w ∷ vs) ≡ way g later vs
    taking f ns vs i = ap (λ (t : Step). way_by t (suc (length vs)) (λ g later. way g later vs)) i

    taking_deeper : (vs : Words) → step f ns w (starts_operand vs) ≡ on g later → way f (deeper_all (suc k) ns) (w ∷ vs) ≡ way g (deeper_all (suc k) later) vs
    taking_deeper vs i =
        let raised = subst (λ (t : Step). RaisedStep (suc k) t (step f (deeper_all (suc k) ns) w (starts_operand vs))) i (raised_step k ns f w (starts_operand vs)) in
        ap (λ (t : Step). way_by t (suc (length vs)) (λ g later. way g later vs)) raised

    alike : (v : List ℕ) (tail more : Words) → r.rest ≡ v ∷ tail → starts_operand (r.front ++ v ∷ more) ≡ starts_operand ws
    alike v tail more i = starts_alike r.front v tail more ∙ sym (ap starts_operand (r.parts ∙ ap (λ (t : Words). r.front ++ t) i))

    filling : (front : Words) → r.front ≡ front → step f ns w (starts_operand (r.front ++ fill r.later)) ≡ on g later
    filling [] i =
        ap (λ (t : Words). step f ns w (starts_operand (t ++ fill r.later))) i ∙ ap (λ (t : List Need). step f ns w (starts_operand (fill t))) (r.first i) ∙ taken ns f w (starts_operand ws) g later e h
    filling (x ∷ front) i =
        ap (λ (t : Words). step f ns w (starts_operand (t ++ fill r.later))) i
        ∙ sym (ap (λ (t : Words). step f ns w (starts_operand t)) (r.parts ∙ ap (λ (t : Words). t ++ r.rest) i)) ∙ h

reach_by : (k : ℕ) (w : List ℕ) (ws : Words) (f : Bool) (ns : List Need) → fit false ns ≡ true → fit false (deeper_all (suc k) ns) ≡ true → (t : Step) → step f ns w (starts_operand ws) ≡ t
    → ((g : Bool) (later : List Need) → fit false later ≡ true → fit false (deeper_all (suc k) later) ≡ true → Reach (suc k) g later ws) → Reach (suc k) f ns (w ∷ ws)
reach_by k w ws f ns e d (on g later) h so =
    let raised = subst (λ (t : Step). RaisedStep (suc k) t (step f (deeper_all (suc k) ns) w (starts_operand ws))) h (raised_step k ns f w (starts_operand ws)) in
    stepped k f g ns later w ws e h (so g later (step_fits false ns f w (starts_operand ws) g later e h) (step_fits false (deeper_all (suc k) ns) f w (starts_operand ws) g (deeper_all (suc k) later) d raised))
reach_by k w ws f ns e d over h so = stopped (suc k) f ns (w ∷ ws) e d (subst IsHalt (sym h) tt)
reach_by k w ws f ns e d no_word h so = stopped (suc k) f ns (w ∷ ws) e d (subst IsHalt (sym h) tt)
reach_by k w ws f ns e d no_room h so = stopped (suc k) f ns (w ∷ ws) e d (subst IsHalt (sym h) tt)

pub reach : (k : ℕ) (ws : Words) (f : Bool) (ns : List Need) → fit false ns ≡ true → fit false (deeper_all (suc k) ns) ≡ true → Reach (suc k) f ns ws
reach k [] f ns e d = stopped (suc k) f ns [] e d tt
reach k (w ∷ ws) f ns e d = reach_by k w ws f ns e d (step f ns w (starts_operand ws)) refl (λ g later. reach k ws g later)
