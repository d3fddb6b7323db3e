use Rattle.std.proofs.Common.{◌≡◌, false, take}
use Rattle.std.specs.List.{list_any}
use Rattle.vpg_desk.specs.Desk.{family_of}
use Rattle.vpg_desk.specs.State.{setting_of}
use Rattle.vpg_trail.specs.Shown.{entry_of}
use Rattle.vpg_office.specs.Told.{raises_to_top}
use Rattle.vpg_office.proofs.replay.one_raises_to_top.Given as goal

abbrev pub invariant-loop-entry : goal.invariant-loop-entry
invariant-loop-entry l = list_any (λ e. raises_to_top (family_of (setting_of l.desk)) (entry_of e)) (take l.entry-index l.entries) ≡ false
