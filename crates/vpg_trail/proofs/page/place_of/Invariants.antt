use Rattle.std.proofs.Common.{◌≡◌, false, map, take}
use Rattle.vpg_trail.specs.Page.{has_decided}
use Rattle.vpg_trail.specs.Shown.{entry_of}
use Rattle.vpg_trail.proofs.page.place_of.Given as goal

abbrev pub invariant-loop-place : goal.invariant-loop-place
invariant-loop-place l = has_decided l.feature (map entry_of (take l.place l.entries)) ≡ false
