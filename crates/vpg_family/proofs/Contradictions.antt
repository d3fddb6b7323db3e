-- What is told of a diagram that contradicts itself.
use Rattle.std.proofs.Common.{◌≡◌, ℕ, [], Some, slice_get, subst}
use Rattle.std.specs.String.{string_bytes}
use Rattle.vpg_diagram.specs.DiagramText.{NamedDiagram}
use Rattle.vpg_partial.specs.KnownLaws.{HasConflictOf}
use Rattle.vpg_family.specs.Pictures.{TellsContradiction}
use Rattle.vpg_family.specs.Families.{TellsConflict}
use Rattle.vpg_family.specs.declared.fault.Fault.{Fault}
use Rattle.vpg_family.specs.declared.fault.Fault.TheVariants as told

pub contradiction : (diagram : NamedDiagram) (root : ℕ) (fault : Fault) → HasConflictOf diagram.lines [] → root ≡ 0 → TellsConflict diagram.names root fault → TellsContradiction diagram fault
contradiction diagram root (told.Conflict name) conflict zero h = (conflict, subst (λ (f : ℕ). slice_get diagram.names f ≡ Some (string_bytes name)) zero h)
contradiction diagram root told.Memory conflict zero h = tt
contradiction diagram root _ conflict zero h = absurd h
