-- How a stop of the propagation is reported.
use Rattle.std.specs.Prelude.{ℕ, List, ⊤}
use Rattle.vpg_diagram.specs.Tally.{Tally}
use Rattle.vpg_diagram.specs.declared.clause.Literal.{Literal}
use Rattle.vpg_partial.specs.Known.{NamesConflict}
use Rattle.vpg_partial.specs.declared.fault.PartialFault.{PartialFault}
use Rattle.vpg_partial.specs.declared.fault.PartialFault.TheVariants.{Conflict, Memory}
use Rattle.vpg_partial.specs.declared.propagation.Stop.{Stop}
use Rattle.vpg_partial.specs.declared.propagation.Stop.TheVariants.{Contradiction, Memory as NoMemory}

abbrev pub fault_named : Stop → ℕ → PartialFault
fault_named Contradiction feature = Conflict feature
fault_named NoMemory feature = Memory

-- the fault names a conflict of the choices, or reports that memory ran out
abbrev pub IsFaultOf : List (List Literal) → List Tally → List Literal → PartialFault → Type 0
IsFaultOf clauses counts choices (Conflict feature) = NamesConflict clauses counts choices feature
IsFaultOf clauses counts choices Memory = ⊤
