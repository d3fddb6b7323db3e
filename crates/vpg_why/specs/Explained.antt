-- Explanations: choices that suffice, none of which can be left out. This project's own. The list is the one that
-- QuickXplain (Junker 2004) returns when it prefers older decisions.
use Rattle.std.specs.Prelude.{ℕ, ◌<◌, ◌+◌, Bool, List, [], ◌∷◌, ◌++◌, map, take, Contains, IsTrue}
use Rattle.vpg_diagram.specs.declared.clause.Literal.{Literal}
use Rattle.vpg_partial.specs.TableLaws.{AreAmong}
use Rattle.vpg_partial.specs.Known.{literal_of}
use Rattle.vpg_partial.specs.declared.decision.Decision.{Decision}

-- Choices that suffice still suffice with more choices.
abbrev pub IsMonotone : (List Literal → Type 0) → Type 0
IsMonotone Suffices = (few many : List Literal) → AreAmong few many → Suffices few → Suffices many

-- No choices of the pool suffice if they lack one of those listed.
abbrev pub AreNeeded : (List Literal → Type 0) → (pool listed : List Literal) → Type 0
AreNeeded Suffices pool listed = (c : Literal) → Contains listed c → (fewer : List Literal) → AreAmong fewer pool → ¬ (Contains fewer c) → Suffices fewer → ⊥

-- the first decisions of a list, and others after them
abbrev pub front_with : ℕ → List Decision → List Decision → List Decision
front_with most decisions kept = take most decisions ++ kept

-- the literals that decisions choose
abbrev pub choices : List Decision → List Literal
choices decisions = map literal_of decisions

-- it holds of the choices of each number of first decisions, with the others after them
abbrev pub OfFronts : (List Literal → Type 0) → (decisions kept : List Decision) → Type 0
OfFronts Holds decisions kept = (most : ℕ) → Holds (choices (front_with most decisions kept))

-- The last of the first decisions that is needed beside others. With it the front suffices, and without it the front
-- does not, if that is shown.
pub record IsLast (Suffices : List Literal → Type 0) (decisions kept : List Decision) (most place : ℕ) (exact : Bool) : Type 0 where
  pub within : place < most
  pub enough : Suffices (choices (front_with (place + 1) decisions kept))
  pub short : IsTrue exact → Suffices (choices (front_with place decisions kept)) → ⊥

-- Going through the decisions `rest`, which come after those `before`: one is left out, or it is listed, since it is
-- needed (if that is shown). All that come before it and those listed after it do not suffice without it.
pub data AreNeededInTurn (Suffices : List Literal → Type 0) (exact : Bool) : (before rest listed : List Decision) → Type 0 where
  done : {before : List Decision} → AreNeededInTurn Suffices exact before [] []
  skipped : {d : Decision} {before rest listed : List Decision} → AreNeededInTurn Suffices exact (before ++ d ∷ []) rest listed → AreNeededInTurn Suffices exact before (d ∷ rest) listed
  taken : {d : Decision} {before rest listed : List Decision} → (IsTrue exact → Suffices (choices (before ++ listed)) → ⊥) → AreNeededInTurn Suffices exact (before ++ d ∷ []) rest listed → AreNeededInTurn Suffices exact before (d ∷ rest) (d ∷ listed)

-- Decisions that are among others, in their order, and suffice, none of which can be left out, if that is shown. Of all
-- such lists it is then the one with the earliest last decision, before that the earliest next to last, and so on. Only
-- one list suffices and is needed in turn.
pub record Explains (Suffices : List Literal → Type 0) (decisions listed : List Decision) (exact : Bool) : Type 0 where
  pub among : AreAmong (choices listed) (choices decisions)
  pub enough : Suffices (choices listed)
  pub needed : IsTrue exact → AreNeeded Suffices (choices listed) (choices listed)
  pub in_turn : AreNeededInTurn Suffices exact [] decisions listed
