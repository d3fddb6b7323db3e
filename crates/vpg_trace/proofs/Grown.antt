-- A text that grows step by step.
use Rattle.std.proofs.Common.{◌≡◌, ℕ, suc, ◌+◌, List, ◌++◌, sym, ap, ◌∙◌, append_assoc, add-one}

-- a text by recursion over the numbers below n, and one more of them
pub grown_by : (text : ℕ → List ℕ) (piece : List ℕ) (n : ℕ) (a b c : List ℕ) → text (suc n) ≡ text n ++ piece → b ≡ a ++ text n → c ≡ b ++ piece → c ≡ a ++ text (n + 1)
grown_by text piece n a b c s e f =
    rw add-one
    (f ∙ (ap (λ (t : List ℕ). t ++ piece) e ∙ (append_assoc a (text n) piece ∙ ap (λ (t : List ℕ). a ++ t) (sym s))))
