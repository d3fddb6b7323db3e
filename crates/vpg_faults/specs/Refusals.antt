-- The desk's refusals for the faults of its calls; a fault for want of memory stands for none.
use Rattle.std.specs.Prelude.{Option, Some, None}
use Rattle.vpg_faults.specs.declared.refusal.Refusal.{Refusal}
use Rattle.vpg_faults.specs.declared.refusal.Refusal.TheVariants.{UnknownFeature, AlreadyDecided, Conflict, TooManyChanges, NotDecided, Sealed, NotNewest, Overtaken, NotNext, OtherGame, Outdated}
use Rattle.vpg_faults.specs.declared.fault.DecideFault.{DecideFault}
use Rattle.vpg_faults.specs.declared.fault.DecideFault.TheVariants.{UnknownFeature as IsUnknown, AlreadyDecided as IsDecided, Conflict as HasConflict, TooManyChanges as IsTooMany, Memory}
use Rattle.vpg_faults.specs.declared.fault.RetractFault.{RetractFault}
use Rattle.vpg_faults.specs.declared.fault.RetractFault.TheVariants.{UnknownFeature as RetractUnknown, NotDecided as IsUndecided, TooManyChanges as RetractTooMany, Memory as RetractMemory}
use Rattle.vpg_faults.specs.declared.fault.ResetFault.{ResetFault}
use Rattle.vpg_faults.specs.declared.fault.ResetFault.TheVariants.{NotDecided as IsNoneDecided, TooManyChanges as ResetTooMany, Memory as ResetMemory}
use Rattle.vpg_faults.specs.declared.fault.UndoFault.{UndoFault}
use Rattle.vpg_faults.specs.declared.fault.UndoFault.TheVariants.{Sealed as IsSealed, NotNewest as IsNotNewest, Memory as UndoMemory}
use Rattle.vpg_faults.specs.declared.fault.RedoFault.{RedoFault}
use Rattle.vpg_faults.specs.declared.fault.RedoFault.TheVariants.{Overtaken as IsOvertaken, NotNext as IsNotNext, Memory as RedoMemory}
use Rattle.vpg_faults.specs.declared.fault.CommitFault.{CommitFault}
use Rattle.vpg_faults.specs.declared.fault.CommitFault.TheVariants.{OtherGame as IsOther, Outdated as IsOutdated, Memory as CommitMemory}

-- of a fault of decide
abbrev pub decide_refusal : DecideFault → Option Refusal
decide_refusal IsUnknown = Some UnknownFeature
decide_refusal (IsDecided serial) = Some (AlreadyDecided serial)
decide_refusal (HasConflict feature) = Some (Conflict feature)
decide_refusal IsTooMany = Some TooManyChanges
decide_refusal Memory = None

-- of a fault of retract
abbrev pub retract_refusal : RetractFault → Option Refusal
retract_refusal RetractUnknown = Some UnknownFeature
retract_refusal IsUndecided = Some NotDecided
retract_refusal RetractTooMany = Some TooManyChanges
retract_refusal RetractMemory = None

-- of a fault of reset
abbrev pub reset_refusal : ResetFault → Option Refusal
reset_refusal IsNoneDecided = Some NotDecided
reset_refusal ResetTooMany = Some TooManyChanges
reset_refusal ResetMemory = None

-- of a fault of undo
abbrev pub undo_refusal : UndoFault → Option Refusal
undo_refusal IsSealed = Some Sealed
undo_refusal (IsNotNewest newest) = Some (NotNewest newest)
undo_refusal UndoMemory = None

-- of a fault of redo
abbrev pub redo_refusal : RedoFault → Option Refusal
redo_refusal IsOvertaken = Some Overtaken
redo_refusal (IsNotNext next) = Some (NotNext next)
redo_refusal RedoMemory = None

-- of a fault of commit
abbrev pub commit_refusal : CommitFault → Option Refusal
commit_refusal IsOther = Some OtherGame
commit_refusal (IsOutdated feature) = Some (Outdated feature)
commit_refusal CommitMemory = None

-- of a call that a desk never refuses: none
abbrev pub never_refused : {F : Type 0} → F → Option Refusal
never_refused fault = None

-- the refusal that a fault stands for, if there is a fault
abbrev pub told_by : {F : Type 0} → (F → Option Refusal) → Option F → Option Refusal
told_by refusal_of None = None
told_by refusal_of (Some fault) = refusal_of fault
