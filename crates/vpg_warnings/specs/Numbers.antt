-- Marks, and the numbers of those that are marked. This project's own.
use Rattle.std.specs.Prelude.{ℕ, suc, ◌≤◌, Bool, true, false, List, [], ◌∷◌, ⊤}

-- the numbers of the marks that are true, which are numbered from here on
abbrev pub numbers_from : ℕ → List Bool → List ℕ
numbers_from n [] = []
numbers_from n (true ∷ marks) = n ∷ numbers_from (suc n) marks
numbers_from n (false ∷ marks) = numbers_from (suc n) marks

-- each number is at least this, and greater than those in front of it
abbrev pub AreInOrder : ℕ → List ℕ → Type 0
AreInOrder n [] = ⊤
AreInOrder n (k ∷ ks) = (n ≤ k) × AreInOrder (suc k) ks
