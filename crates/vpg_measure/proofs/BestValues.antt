-- The best value, one more value at a time.
use Rattle.std.proofs.Common.{◌≡◌, ℕ, min, max, List, [], ◌∷◌, ◌++◌, arith}
use Rattle.vpg_measure.specs.Lifts.{least_of, greatest_of}

pub least_more : (top n : ℕ) (ns : List ℕ) → least_of top (ns ++ n ∷ []) ≡ min (least_of top ns) n
least_more top n [] = omega arith
least_more top n (m ∷ ns) = let h = least_more top n ns in omega arith

pub greatest_more : (n : ℕ) (ns : List ℕ) → greatest_of (ns ++ n ∷ []) ≡ max (greatest_of ns) n
greatest_more n [] = omega arith
greatest_more n (m ∷ ns) = let h = greatest_more n ns in omega arith
