-- Lists that are cut, and terms that are split.
use Rattle.std.proofs.Common.{◌≡◌, ℕ, zero, suc, ◌+◌, ◌-◌, ◌≤◌, List, [], ◌∷◌, ◌++◌, length, take, drop, get_or, refl, sym, subst, ◌∙◌, ap, ap₂, arith, append_assoc, length-append}
use Rattle.std.proofs.lemmas.List.{take_all}
use Rattle.vpg_requirement.specs.Actions.{ActionFormula}
use Rattle.vpg_parts.specs.Sets.{actions_at}
use Rattle.vpg_written.specs.Trees.{Tree, nothing, node}
use Rattle.vpg_written.specs.Terms.{IsTerm, IsSplit, AreNode, ArePartsOf, set_at_end, length_at_end}
use Rattle.vpg_written.specs.declared.piece.Piece.{Piece}
use Rattle.vpg_written.specs.declared.piece.Parts.{Parts}

pub same_front : {A : Type 0} (xs zs ys ws : List A) → length xs ≡ length zs → xs ++ ys ≡ zs ++ ws → (xs ≡ zs) × (ys ≡ ws)
same_front [] [] ys ws l e = (refl, e)
same_front [] (z ∷ zs) ys ws l e = absurd (omega arith)
same_front (x ∷ xs) [] ys ws l e = absurd (omega arith)
same_front (x ∷ xs) (z ∷ zs) ys ws l e = next (same_front xs zs ys ws (omega arith) tail)
  where
    tail : xs ++ ys ≡ zs ++ ws
    tail = cc

    head : x ≡ z
    head = cc

    next : (xs ≡ zs) × (ys ≡ ws) → (x ∷ xs ≡ z ∷ zs) × (ys ≡ ws)
    next h = (ap₂ (λ a cs. a ∷ cs) head h.0, h.1)

pub same_back : {A : Type 0} (xs zs ys ws : List A) → length ys ≡ length ws → xs ++ ys ≡ zs ++ ws → (xs ≡ zs) × (ys ≡ ws)
same_back xs zs ys ws l e = same_front xs zs ys ws (omega (arith, l, length-append xs ys, length-append zs ws, ap length e)) e

-- the last one of a list
pub same_last : {A : Type 0} (xs zs : List A) (y w : A) → xs ++ y ∷ [] ≡ zs ++ w ∷ [] → (xs ≡ zs) × (y ≡ w)
same_last xs zs y w e = last (same_back xs zs (y ∷ []) (w ∷ []) refl e)
  where
    last : (xs ≡ zs) × (y ∷ [] ≡ w ∷ []) → (xs ≡ zs) × (y ≡ w)
    last h = (h.0, one h.1)
      where
        one : y ∷ [] ≡ w ∷ [] → y ≡ w
        one g = cc

pub take_front : {A : Type 0} (xs ys : List A) (n : ℕ) → n ≡ length xs → take n (xs ++ ys) ≡ xs
take_front [] ys n e = rw e refl
take_front (x ∷ xs) ys zero e = absurd (omega arith)
take_front (x ∷ xs) ys (suc n) e = ap (λ zs. x ∷ zs) (take_front xs ys n (omega arith))

pub drop_front : {A : Type 0} (xs ys : List A) (n : ℕ) → n ≡ length xs → drop n (xs ++ ys) ≡ ys
drop_front [] ys n e = rw e refl
drop_front (x ∷ xs) ys zero e = absurd (omega arith)
drop_front (x ∷ xs) ys (suc n) e = drop_front xs ys n (omega arith)

-- the parts of a term's tree are those that the term is split into
pub parts_are : (names : List (List ℕ)) (actions : List ActionFormula) (t : Tree) (ps : List Piece) (it : Parts) → IsSplit ps it → IsTerm names actions t ps → ArePartsOf names actions t it
parts_are names actions nothing ps it split e = absurd (omega (arith, ap length (sym split.whole ∙ e), length-append it.first.now (it.second.now ++ it.piece ∷ []), length-append it.second.now (it.piece ∷ [])))
parts_are names actions (node m s t) ps it split (us, vs, p, whole, first, second, piece) = made (same_last (us ++ vs) (it.first.now ++ it.second.now) p it.piece
    (append_assoc us vs (p ∷ []) ∙ sym whole ∙ split.whole ∙ sym (append_assoc it.first.now it.second.now (it.piece ∷ []))))
  where
    made : (us ++ vs ≡ it.first.now ++ it.second.now) × (p ≡ it.piece) → AreNode names actions m s t it
    made h = record {
      mark = ap (λ (q : Piece). q.mark.now) (sym h.1) ∙ piece.mark;
      set = ap (λ (q : Piece). actions_at actions q.set) (sym h.1) ∙ piece.set;
      first = subst (IsTerm names actions s) parts.0 first;
      second = subst (IsTerm names actions t) parts.1 second;
    }
      where
        last : it.piece.last ≡ length vs
        last = ap (λ (q : Piece). q.last) (sym h.1) ∙ piece.last

        total : length us + length vs ≡ length it.first.now + length it.second.now
        total = omega (arith, length-append us vs, length-append it.first.now it.second.now, ap length h.0)

        parts : (us ≡ it.first.now) × (vs ≡ it.second.now)
        parts = same_back us it.first.now vs it.second.now (sym last ∙ split.last (omega (arith, last, total))) h.0

-- ---- parts of parts

drop_none : {A : Type 0} (i : ℕ) → ◌≡◌ {A = List A} (drop i []) []
drop_none zero = refl
drop_none (suc i) = refl

drop_sum : {A : Type 0} (n k : ℕ) (xs : List A) → drop k (drop n xs) ≡ drop (n + k) xs
drop_sum zero k xs = ap (λ (i : ℕ). drop i xs) (omega arith)
drop_sum {A = A} (suc n) k [] = drop_none {A = A} k ∙ sym (drop_none {A = A} (suc n + k))
drop_sum (suc n) k (x ∷ xs) = drop_sum n k xs ∙ ap (λ (i : ℕ). drop i (x ∷ xs)) more
  where
    more : suc (n + k) ≡ suc n + k
    more = omega arith

drop_take : {A : Type 0} (k n : ℕ) (xs : List A) → drop k (take (k + n) xs) ≡ take n (drop k xs)
drop_take zero n xs = ap (λ (i : ℕ). take i xs) (omega arith)
drop_take {A = A} (suc k) n [] = ap (drop (suc k)) (nothing_taken (suc k + n)) ∙ sym (nothing_taken n)
  where
    nothing_taken : (i : ℕ) → take {A = A} i [] ≡ []
    nothing_taken zero = refl
    nothing_taken (suc i) = refl
drop_take (suc k) n (x ∷ xs) = ap (λ (i : ℕ). drop (suc k) (take i (x ∷ xs))) more ∙ drop_take k n xs
  where
    more : suc k + n ≡ suc (k + n)
    more = omega arith

take_less : {A : Type 0} (m n : ℕ) (xs : List A) → m ≤ n → take m (take n xs) ≡ take m xs
take_less zero n xs l = refl
take_less (suc m) zero xs l = absurd (omega arith)
take_less (suc m) (suc n) [] l = refl
take_less (suc m) (suc n) (x ∷ xs) l = ap (λ ys. x ∷ ys) (take_less m n xs (omega arith))

-- a part of a part is a part of the whole
pub inner_part : {A : Type 0} (from to start end from_now to_now : ℕ) (xs : List A) → start ≤ end → end ≤ to - from → to_now ≡ from + end → from_now ≡ from + start →
    take (end - start) (drop start (take (to - from) (drop from xs))) ≡ take (to_now - from_now) (drop from_now xs)
inner_part from to start end from_now to_now xs l h e k =
    ap (λ (n : ℕ). take (end - start) (drop start (take n (drop from xs)))) (sum (to - from) (omega arith))
    ∙ ap (take (end - start)) (drop_take start (to - from - start) (drop from xs))
    ∙ take_less (end - start) (to - from - start) (drop start (drop from xs)) (omega arith)
    ∙ ap (take (end - start)) (drop_sum from start xs)
    ∙ ap₂ (λ (n m : ℕ). take n (drop m xs)) (omega (arith, e, k)) (sym k)
  where
    sum : (n : ℕ) → start ≤ n → n ≡ start + (n - start)
    sum n less = omega arith

-- the operands of a term as parts of it
pub first_operand : (ps : List Piece) (it : Parts) → IsSplit ps it → take (length it.first.now - 0) (drop 0 ps) ≡ it.first.now
first_operand ps it split = ap₂ (λ (n : ℕ) (xs : List Piece). take n xs) (omega arith) split.whole ∙ take_front it.first.now (it.second.now ++ it.piece ∷ []) (length it.first.now) refl

pub second_operand : (ps : List Piece) (it : Parts) → IsSplit ps it → take (length it.first.now + length it.second.now - length it.first.now) (drop (length it.first.now) ps) ≡ it.second.now
second_operand ps it split = ap₂ (λ (n : ℕ) (xs : List Piece). take n xs) (omega arith) (ap (drop (length it.first.now)) split.whole ∙ drop_front it.first.now (it.second.now ++ it.piece ∷ []) (length it.first.now) refl)
    ∙ take_front it.second.now (it.piece ∷ []) (length it.second.now) refl

-- the last piece, by what is read of it
pub end_set : (ps : List Piece) (d : Piece) (n : ℕ) → n + 1 ≡ length ps → set_at_end ps ≡ (get_or ps n d).set
end_set [] d n e = absurd (omega arith)
end_set (p ∷ []) d zero e = refl
end_set (p ∷ []) d (suc n) e = absurd (omega arith)
end_set (p ∷ q ∷ ps) d zero e = absurd (omega arith)
end_set (p ∷ q ∷ ps) d (suc n) e = end_set (q ∷ ps) d n (omega arith)

pub end_length : (ps : List Piece) (d : Piece) (n : ℕ) → n + 1 ≡ length ps → length_at_end ps ≡ (get_or ps n d).length
end_length [] d n e = absurd (omega arith)
end_length (p ∷ []) d zero e = refl
end_length (p ∷ []) d (suc n) e = absurd (omega arith)
end_length (p ∷ q ∷ ps) d zero e = absurd (omega arith)
end_length (p ∷ q ∷ ps) d (suc n) e = end_length (q ∷ ps) d n (omega arith)

pub whole_part : {A : Type 0} (n : ℕ) (xs : List A) → n ≡ length xs → take (n - 0) (drop 0 xs) ≡ xs
whole_part n xs e = take_all (n - 0) xs (omega (arith, e))
