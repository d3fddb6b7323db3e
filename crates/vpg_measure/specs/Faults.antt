-- Why there is no order, if the decisions give no table of known features.
use Rattle.vpg_partial.specs.declared.fault.PartialFault.{PartialFault}
use Rattle.vpg_partial.specs.declared.fault.PartialFault.TheVariants.{Conflict as PartialConflict, Memory as PartialMemory}
use Rattle.vpg_measure.specs.declared.fault.OrderFault.{OrderFault}
use Rattle.vpg_measure.specs.declared.fault.OrderFault.TheVariants.{Conflict, Memory}

-- the fault of an order for a fault of closing its decisions
abbrev pub order_fault : PartialFault → OrderFault
order_fault (PartialConflict f) = Conflict f
order_fault PartialMemory = Memory
