-- Each move of a lifter's hints keeps every one inside the game.
use Rattle.std.proofs.Common.{ℕ, zero, suc, All, List, [], ◌∷◌, ◌++◌, length, subst, Option, Some, None, arith}
use Rattle.std.specs.Prelude.{MatchOption, IfSome}
use lib.Seq.{take-append_seam, drop-append_seam}
use Rattle.std.proofs.lemmas.List.Elements.{All-append, All-take, All-drop}
use Rattle.crossbeam_deque.specs.Tasks.{Pushes, Takes, Pops}
use Rattle.vpg_sides.specs.declared.which.Which.{Which}
use Rattle.vpg_board.specs.Hints.{IsHint}

module _ (n : ℕ) where
  abbrev Hint : Type 0
  Hint = Which × ℕ

  abbrev Holds : List Hint → List (Unit {0}) → Type 0
  Holds items _ = All (IsHint n) items

  left : (xs ys : List Hint) → All (IsHint n) (xs ++ ys) → All (IsHint n) xs
  left xs ys h = subst (All (IsHint n)) (take-append_seam xs ys) (All-take (IsHint n) (length xs) (xs ++ ys) h)

  right : (xs ys : List Hint) → All (IsHint n) (xs ++ ys) → All (IsHint n) ys
  right xs ys h = subst (All (IsHint n)) (drop-append_seam xs ys) (All-drop (IsHint n) (length xs) (xs ++ ys) h)

  one : (x : Hint) → IsHint n x → All (IsHint n) (x ∷ [])
  one x h zero d lt = h
  one x h (suc k) d lt = absurd (omega arith)

  pub pushes : (port : ℕ) (v : Unit {0}) (x : Hint) → IsHint n x → Pushes Holds port v (x ∷ []) (λ _. All (IsHint n) (x ∷ []))
  pushes port v x new items views h _ = (tt, All-append (IsHint n) items (x ∷ []) h (one x new), one x new)

  pub takes : (port : ℕ) (v : Unit {0}) (most : ℕ) → Takes Holds port v most (λ xs _. All (IsHint n) xs)
  takes port v most xs items views _ _ h _ = (tt, right xs items h, left xs items h)

  pub pops : (port : ℕ) (v : Unit {0}) → Pops Holds port v (λ xs _. All (IsHint n) xs)
  pops port v x items views h _ = (tt, left items (x ∷ []) h, right items (x ∷ []) h)

  -- what came out, where something did
  pub head : (found : Option Hint) (P : Type 0) → MatchOption found P (λ x. All (IsHint n) (x ∷ [])) → IfSome found (IsHint n)
  head None P h = tt
  head (Some x) P h = h 0 x (omega arith)
