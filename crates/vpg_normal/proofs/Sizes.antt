-- An operand has as many symbols as its spelling.
use Rattle.std.proofs.Common.{◌≡◌, ℕ, zero, suc, ◌+◌, ◌-◌, ◌≤◌, List, [], ◌∷◌, ◌++◌, length, drop, take, get_or, refl, sym, ap, ◌∙◌, arith, append_assoc, length-append}
use Rattle.std.proofs.lemmas.List.{get_or-drop, take_rest}
use Rattle.vpg_requirement.specs.Actions.{ActionFormula}
use Rattle.vpg_requirement.specs.NormalForms.{NormalForm, met, unmet, both, either, some_step, every_step, fixpoint, variable}
use Rattle.vpg_parts.specs.declared.symbol.Symbol.{Symbol}
use Rattle.vpg_parts.specs.declared.symbol.Symbol.TheVariants.{True, False, And, Or, SomeStep, EveryStep, Fixpoint, Variable}
use Rattle.vpg_parts.specs.Symbols.{IsSpelled}
use Rattle.vpg_normal.specs.Sizes.{size_of, sizes_of}

pub sizes_length : (ss : List Symbol) → length (sizes_of ss) ≡ length ss
sizes_length [] = refl
sizes_length (s ∷ ss) = ap suc (sizes_length ss)

-- ---- no operand passes the end

size_within : (s : Symbol) (sizes : List ℕ) (n : ℕ) → ((k : ℕ) → get_or sizes k 0 ≤ n - k) → size_of s sizes ≤ suc n
size_within True sizes n h = omega arith
size_within False sizes n h = omega arith
size_within And sizes n h = omega (arith, h 0, h (get_or sizes 0 0))
size_within Or sizes n h = omega (arith, h 0, h (get_or sizes 0 0))
size_within (SomeStep x) sizes n h = omega (arith, h 0)
size_within (EveryStep x) sizes n h = omega (arith, h 0)
size_within (Fixpoint kind) sizes n h = omega (arith, h 0)
size_within (Variable i) sizes n h = omega arith

pub sizes_within : (ss : List Symbol) (k : ℕ) → get_or (sizes_of ss) k 0 ≤ length ss - k
sizes_within [] k = omega arith
sizes_within (s ∷ ss) zero = omega (arith, size_within s (sizes_of ss) (length ss) (sizes_within ss))
sizes_within (s ∷ ss) (suc k) = omega (arith, sizes_within ss k)

pub size_fits : (symbols : List Symbol) (sizes : List ℕ) (k : ℕ) → sizes ≡ sizes_of symbols → get_or sizes k 0 ≤ length symbols - k
size_fits symbols sizes k is = rw is (sizes_within symbols k)

-- no operand passes the end of what stands behind a place
pub behind_within : (symbols : List Symbol) (sizes xs : List ℕ) (at i : ℕ) → xs ≡ sizes → i ≡ at → drop at sizes ≡ sizes_of (drop at symbols) → (k : ℕ) →
    get_or (take (length xs - i) (drop i xs)) k 0 ≤ length (take (length xs - i) (drop i xs)) - k
behind_within symbols sizes xs at i same is h k = rw (same, is, take_rest sizes at, h) (omega (arith, sizes_within (drop at symbols) k, sizes_length (drop at symbols)))

pub sizes_drop : (k : ℕ) (ss : List Symbol) → drop k (sizes_of ss) ≡ sizes_of (drop k ss)
sizes_drop zero ss = refl
sizes_drop (suc k) [] = refl
sizes_drop (suc k) (s ∷ ss) = sizes_drop k ss

-- ---- spellings

sizes_behind : (us vs : List Symbol) → get_or (sizes_of (us ++ vs)) (length us) 0 ≡ get_or (sizes_of vs) 0 0
sizes_behind [] vs = refl
sizes_behind (u ∷ us) vs = sizes_behind us vs

size_of_two : (us vs ws : List Symbol) → get_or (sizes_of (us ++ (vs ++ ws))) 0 0 ≡ length us → get_or (sizes_of (vs ++ ws)) 0 0 ≡ length vs →
    get_or (sizes_of ((us ++ vs) ++ ws)) 0 0 + get_or (sizes_of ((us ++ vs) ++ ws)) (get_or (sizes_of ((us ++ vs) ++ ws)) 0 0) 0 ≡ length (us ++ vs)
size_of_two us vs ws p q = rw (append_assoc us vs ws, p, sizes_behind us (vs ++ ws), q, length-append us vs) refl

pub size_spelled : (actions : List ActionFormula) (f : NormalForm) (ss ws : List Symbol) → IsSpelled actions f ss → get_or (sizes_of (ss ++ ws)) 0 0 ≡ length ss
size_spelled actions met ss ws h = rw h refl
size_spelled actions unmet ss ws h = rw h refl
size_spelled actions (both f g) ss ws h = rw h.2 (ap suc (size_of_two h.0 h.1 ws (size_spelled actions f h.0 (h.1 ++ ws) h.3) (size_spelled actions g h.1 ws h.4)))
size_spelled actions (either f g) ss ws h = rw h.2 (ap suc (size_of_two h.0 h.1 ws (size_spelled actions f h.0 (h.1 ++ ws) h.3) (size_spelled actions g h.1 ws h.4)))
size_spelled actions (some_step x f) ss ws h = rw h.2 (ap suc (size_spelled actions f h.1 ws h.4))
size_spelled actions (every_step x f) ss ws h = rw h.2 (ap suc (size_spelled actions f h.1 ws h.4))
size_spelled actions (fixpoint kind p f) ss ws h = rw h.2 (ap suc (size_spelled actions f h.1 ws h.4))
size_spelled actions (variable i) ss ws h = rw h refl

-- the size at a place from which on a spelling stands
pub size_there : (actions : List ActionFormula) (f : NormalForm) (symbols : List Symbol) (k : ℕ) (us vs : List Symbol) → IsSpelled actions f us → drop k symbols ≡ us ++ vs →
    get_or (sizes_of symbols) k 0 ≡ length us
size_there actions f symbols k us vs h e = at_place ∙ ap (λ (xs : List ℕ). get_or xs 0 0) (sizes_drop k symbols ∙ ap sizes_of e) ∙ size_spelled actions f us vs h
  where
    at_place : get_or (sizes_of symbols) k 0 ≡ get_or (drop k (sizes_of symbols)) 0 0
    at_place = sym (get_or-drop k (sizes_of symbols) 0 0 ∙ ap (λ (n : ℕ). get_or (sizes_of symbols) n 0) (omega arith))
