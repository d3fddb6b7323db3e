-- The decisions of a page that are given up so that the others no longer make it so. This project's own.
use Rattle.std.specs.Prelude.{Bool, List, [], ◌∷◌, ◌++◌, IsTrue}
use Rattle.vpg_diagram.specs.declared.clause.Literal.{Literal}
use Rattle.vpg_partial.specs.declared.decision.Decision.{Decision}
use Rattle.vpg_why.specs.Explained.{choices}

-- Going through decisions from the first, after those kept `before`: one is kept, or it is given up, since those kept
-- before it suffice with it (if that is shown).
pub data KeepsOldest (Suffices : List Literal → Type 0) (exact : Bool) : (before rest kept given : List Decision) → Type 0 where
  ends : {before : List Decision} → KeepsOldest Suffices exact before [] [] []
  keeps : {d : Decision} {before rest kept given : List Decision} → KeepsOldest Suffices exact (before ++ d ∷ []) rest kept given → KeepsOldest Suffices exact before (d ∷ rest) (d ∷ kept) given
  gives_up : {d : Decision} {before rest kept given : List Decision} → (IsTrue exact → Suffices (choices (before ++ d ∷ []))) → KeepsOldest Suffices exact before rest kept given → KeepsOldest Suffices exact before (d ∷ rest) kept (d ∷ given)

-- The kept decisions do not suffice, and each one given up has to be, beside those kept before it.
pub record IsRepair (Suffices : List Literal → Type 0) (decisions kept given : List Decision) (exact : Bool) : Type 0 where
  pub split : KeepsOldest Suffices exact [] decisions kept given
  pub possible : Suffices (choices kept) → ⊥
