use Rattle.std.proofs.Common.{◌≡◌, max, drop}
use Rattle.vpg_game.specs.Writing.{greatest}
use Rattle.vpg_hope.proofs.plain.greatest_of.Given as goal

abbrev pub invariant-loop-id : goal.invariant-loop-id
invariant-loop-id l = max l.most (greatest (drop l.id-index l.ids)) ≡ greatest l.ids
