-- Lists of parts, and look-ups in them. This project's own.
use Rattle.std.specs.Prelude.{◌≡◌, ℕ, List, slice_index_or}
use Rattle.vpg_requirement.specs.Fixpoints.{Kind, least, greatest}
use Rattle.vpg_requirement.specs.NormalForms.{NormalForm}
use Rattle.vpg_requirement.specs.Situations.{Binder}
use Rattle.vpg_parts.specs.declared.part.Kind.{Kind as PartKind}
use Rattle.vpg_parts.specs.declared.part.Kind.TheVariants.{Least, Greatest}
use Rattle.vpg_parts.specs.declared.part.Part.{Part}
use Rattle.vpg_parts.specs.declared.part.Part.TheVariants.{True, False, And, Or, SomeStep, EveryStep, Fixpoint, Variable}

-- the part at a place; if there is none, it is `false`
abbrev pub part_at : List Part → ℕ → Part
part_at parts k = slice_index_or parts k False

-- places 0 and 1 are `true` and `false`, which all requirements share
pub record HasConstants (parts : List Part) : Type 0 where
  pub truth : part_at parts 0 ≡ True
  pub falsehood : part_at parts 1 ≡ False

-- the part itself, or for a variable its fixpoint
abbrev pub resolved_from : List Part → Part → Part
resolved_from parts True = True
resolved_from parts False = False
resolved_from parts (And a b) = And a b
resolved_from parts (Or a b) = Or a b
resolved_from parts (SomeStep x a) = SomeStep x a
resolved_from parts (EveryStep x a) = EveryStep x a
resolved_from parts (Fixpoint kind p b) = Fixpoint kind p b
resolved_from parts (Variable m) = part_at parts m

-- the part that decides at a place: for a variable it is the fixpoint
abbrev pub resolved_part : List Part → ℕ → Part
resolved_part parts k = resolved_from parts (part_at parts k)

-- the kind of a fixpoint
abbrev pub kind_of : PartKind → Kind
kind_of Least = least
kind_of Greatest = greatest

-- a fixpoint that a part stands in
abbrev pub binder_of : PartKind → ℕ → NormalForm → Binder
binder_of kind p body = record { kind = kind_of kind; priority = p; body = body }
