-- Reasons of a search that finds nothing: some of its decisions that alone leave nothing to be found. This project's
-- own. Half of a split is skipped if the reason of the other half does not name the split's feature, as in
-- conflict-directed backjumping (Prosser 1993).
use Rattle.std.specs.Prelude.{◌≡◌, ℕ, ◌<◌, ◌≤◌, ◌||◌, ⊤, Bool, true, false, List, [], ◌∷◌, ◌++◌, length, IfSome, IsSome, IsTrue}
use Rattle.vpg_diagram.specs.DiagramText.{NamedDiagram}
use Rattle.vpg_diagram.specs.declared.clause.Literal.{Literal}
use Rattle.vpg_game.specs.Game.{NamedGame}
use Rattle.vpg_why.specs.declared.question.Aim.{Aim}
use Rattle.vpg_why.specs.declared.searching.Reasoned.{Reasoned}
use Rattle.vpg_why.specs.declared.searching.Reasoned.TheVariants as reasons
use Rattle.vpg_why.specs.declared.searching.Half.{Half}
use Rattle.vpg_why.specs.declared.searching.Half.TheVariants as halves
use Rattle.vpg_why.specs.Found.{IsFoundProduct}
use Rattle.vpg_why.specs.Products.{NoneMeets}
use Rattle.vpg_why.specs.Suffices.{choice}

-- the items of a list with true marks
abbrev pub marked : {X : Type 0} → List Bool → List X → List X
marked [] xs = []
marked (m ∷ ms) [] = []
marked (true ∷ ms) (x ∷ xs) = x ∷ marked ms xs
marked (false ∷ ms) (x ∷ xs) = marked ms xs

-- the marks of either list; one that is too short marks nothing more
abbrev pub either_of : List Bool → List Bool → List Bool
either_of [] ms = []
either_of (n ∷ ns) [] = n ∷ ns
either_of (n ∷ ns) (m ∷ ms) = (n || m) ∷ either_of ns ms

-- There is a mark for each of the choices. No product that agrees with the marked choices and with these others meets
-- the aim.
pub record IsReason (game : NamedGame) (diagram : NamedDiagram) (aim : Aim) (choices more : List Literal)
    (marks : List Bool) : Type 0 where
  pub count : length marks ≡ length choices
  pub lost : NoneMeets game diagram aim (marked marks choices ++ more)

-- a product that agrees with the choices and meets the aim; or there is none, for this reason
abbrev pub IsReasoned : NamedGame → NamedDiagram → Aim → List Literal → Reasoned → Type 0
IsReasoned game diagram aim choices (reasons.Product example) =
    IsFoundProduct game diagram aim choices example.features.items example.first
IsReasoned game diagram aim choices (reasons.Nothing marks) = IsReason game diagram aim choices [] marks.items
IsReasoned game diagram aim choices reasons.Unsettled = ⊤

-- a reason has this many marks
abbrev pub HasMarks : Reasoned → ℕ → Type 0
HasMarks (reasons.Product example) count = ⊤
HasMarks (reasons.Nothing marks) count = length marks.items ≡ count
HasMarks reasons.Unsettled count = ⊤

-- no limit was met; a product is the first, if no product is to be avoided
abbrev pub IsReasonedExact : (avoided : List Bool) → Reasoned → Type 0
IsReasonedExact avoided (reasons.Product example) = avoided ≡ [] → IsTrue example.first
IsReasonedExact avoided (reasons.Nothing marks) = ⊤
IsReasonedExact avoided reasons.Unsettled = ⊥

-- a result that met no limit took at least one of the trials, and none was given back
abbrev pub IsTaken : (before after : ℕ) → Reasoned → Type 0
IsTaken before after reasons.Unsettled = after ≤ before
IsTaken before after (reasons.Product example) = after < before
IsTaken before after (reasons.Nothing marks) = after < before

-- What the first half of a split on a value says of the whole: its result, or the reason of this half beside the value,
-- if there is one.
abbrev pub IsHalf : NamedGame → NamedDiagram → Aim → List Literal → (feature : ℕ) → (value : Bool) → Half → Type 0
IsHalf game diagram aim choices feature value (halves.Ends found) = IsReasoned game diagram aim choices found
IsHalf game diagram aim choices feature value (halves.GoesOn reason) =
    IfSome reason (λ marks. IsReason game diagram aim choices (choice feature value ∷ []) marks.items)

-- its reason has this many marks
abbrev pub IsHalfMarked : ℕ → Half → Type 0
IsHalfMarked count (halves.Ends found) = HasMarks found count
IsHalfMarked count (halves.GoesOn reason) = IfSome reason (λ marks. length marks.items ≡ count)

-- it met no limit
abbrev pub IsHalfExact : (avoided : List Bool) → Half → Type 0
IsHalfExact avoided (halves.Ends found) = IsReasonedExact avoided found
IsHalfExact avoided (halves.GoesOn reason) = IsSome reason
