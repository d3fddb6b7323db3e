use Rattle.std.proofs.Common.{◌≡◌, take}
use Rattle.vpg_open.specs.SettledGames.{settled_entries}
use Rattle.vpg_open.proofs.cutting.entries.Given as goal

abbrev pub invariant-loop-v : goal.invariant-loop-v
invariant-loop-v l = l.entries.items ≡ take l.v (settled_entries l.game l.winners)
