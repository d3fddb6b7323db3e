use Rattle.std.proofs.Common.{◌≡◌, drop}
use Rattle.vpg_uvl.specs.Items.{last_visible}
use Rattle.vpg_uvl.proofs.item.last_visible.Given as goal

abbrev pub invariant-loop-b : goal.invariant-loop-b
invariant-loop-b l = last_visible l.last (drop l.b-index l.text) ≡ last_visible 0 l.text
