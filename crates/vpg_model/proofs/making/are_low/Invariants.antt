use Rattle.std.proofs.Common.{◌<◌, take, All}
use Rattle.vpg_game.specs.Game.{entry_priorities}
use Rattle.vpg_model.proofs.making.are_low.Given as goal

abbrev pub invariant-loop-entry : goal.invariant-loop-entry
invariant-loop-entry l = All (λ p. p < 65536) (entry_priorities (take l.entry-index l.entries))
