-- The normal form of each part of a list in which parts come after those that they are parts of. This project's own.
use Rattle.std.specs.Prelude.{◌≡◌, ℕ, zero, suc, ◌<◌, ◌⊎◌, List, [], ◌∷◌, length, map, drop, ◌==◌, if◌then◌else◌}
use Rattle.vpg_requirement.specs.Actions.{ActionFormula}
use Rattle.vpg_requirement.specs.NormalForms.{NormalForm, met, unmet, both, either, some_step, every_step, fixpoint, variable}
use Rattle.vpg_requirement.specs.Situations.{Binder}
use Rattle.vpg_parts.specs.declared.part.Kind.{Kind as PartKind}
use Rattle.vpg_parts.specs.declared.part.Kind.TheVariants.{Least}
use Rattle.vpg_parts.specs.declared.part.Part.{Part}
use Rattle.vpg_parts.specs.declared.part.Part.TheVariants.{True, False, And, Or, SomeStep, EveryStep, Fixpoint, Variable}
use Rattle.vpg_parts.specs.Parts.{part_at, kind_of, binder_of}
use Rattle.vpg_parts.specs.Sets.{actions_at}

-- the first place of a number in a chain
abbrev pub place_in : ℕ → List ℕ → ℕ
place_in m [] = 0
place_in m (n ∷ chain) = if n == m then 0 else suc (place_in m chain)

-- The normal form of a part, from those of its parts. The chain has the places of the fixpoints around it, innermost
-- first; a variable counts along it to its own.
abbrev pub form_step : List ActionFormula → List ℕ → (ℕ → NormalForm) → Part → NormalForm
form_step actions chain f True = met
form_step actions chain f False = unmet
form_step actions chain f (And a b) = both (f a) (f b)
form_step actions chain f (Or a b) = either (f a) (f b)
form_step actions chain f (SomeStep x a) = some_step (actions_at actions x) (f a)
form_step actions chain f (EveryStep x a) = every_step (actions_at actions x) (f a)
form_step actions chain f (Fixpoint kind p b) = fixpoint (kind_of kind) p (f b)
form_step actions chain f (Variable m) = variable (place_in m chain)

-- the normal form with this many levels of parts, and `false` below
abbrev pub form_with : List Part → List ActionFormula → (ℕ → List ℕ) → ℕ → ℕ → NormalForm
form_with parts actions chain zero k = unmet
form_with parts actions chain (suc n) k =
    form_step actions (chain k) (form_with parts actions chain n) (part_at parts k)

-- The normal form of the part at a place. No part has more levels than there are parts.
abbrev pub form_of : List Part → List ActionFormula → (ℕ → List ℕ) → ℕ → NormalForm
form_of parts actions chain k = form_with parts actions chain (length parts) k

-- the fixpoint that a part is, from the normal forms of its parts
abbrev pub binder_by : (ℕ → NormalForm) → Part → Binder
binder_by f (Fixpoint kind p b) = binder_of kind p (f b)
binder_by f True = binder_of Least 0 unmet
binder_by f False = binder_of Least 0 unmet
binder_by f (And a b) = binder_of Least 0 unmet
binder_by f (Or a b) = binder_of Least 0 unmet
binder_by f (SomeStep x a) = binder_of Least 0 unmet
binder_by f (EveryStep x a) = binder_of Least 0 unmet
binder_by f (Variable m) = binder_of Least 0 unmet

-- the fixpoint at a place
abbrev pub binder_at : List Part → List ActionFormula → (ℕ → List ℕ) → ℕ → Binder
binder_at parts actions chain j = binder_by (form_of parts actions chain) (part_at parts j)

-- the fixpoints that the part at a place stands in, innermost first
abbrev pub scope_of : List Part → List ActionFormula → (ℕ → List ℕ) → ℕ → List Binder
scope_of parts actions chain k = map (binder_at parts actions chain) (chain k)

-- the part at a place is `true` or `false`
abbrev pub IsLeaf : List Part → ℕ → Type 0
IsLeaf parts a = (part_at parts a ≡ True) ⊎ (part_at parts a ≡ False)

-- a part of the one at place k: it comes after it, in these fixpoints; or it is `true` or `false`, which all share
abbrev pub IsPartOf : List Part → (ℕ → List ℕ) → ℕ → List ℕ → ℕ → Type 0
IsPartOf parts chain k inner a = IsLeaf parts a ⊎ ((k < a) × (chain a ≡ inner))

-- The parts of this one come after it, in the same fixpoints, and the body of a fixpoint in this one too. A variable
-- names a fixpoint around it.
abbrev pub IsChainedAt : List Part → (ℕ → List ℕ) → ℕ → Part → Type 0
IsChainedAt parts chain k True = Unit {0}
IsChainedAt parts chain k False = Unit {0}
IsChainedAt parts chain k (And a b) = IsPartOf parts chain k (chain k) a × IsPartOf parts chain k (chain k) b
IsChainedAt parts chain k (Or a b) = IsPartOf parts chain k (chain k) a × IsPartOf parts chain k (chain k) b
IsChainedAt parts chain k (SomeStep x a) = IsPartOf parts chain k (chain k) a
IsChainedAt parts chain k (EveryStep x a) = IsPartOf parts chain k (chain k) a
IsChainedAt parts chain k (Fixpoint kind p b) = IsPartOf parts chain k (k ∷ chain k) b
IsChainedAt parts chain k (Variable m) = (drop (place_in m (chain k)) (chain k) ≡ m ∷ chain m) ×
    (kind : PartKind) × (p : ℕ) × (b : ℕ) × (part_at parts m ≡ Fixpoint kind p b)

-- The chains have the places of the fixpoints around each part, and each part comes after those that it is a part of.
abbrev pub IsChained : List Part → (ℕ → List ℕ) → Type 0
IsChained parts chain = (k : ℕ) → IsChainedAt parts chain k (part_at parts k)
