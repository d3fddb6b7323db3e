use Rattle.std.proofs.Common.{◌≡◌, take, drop}
use Rattle.std.specs.Mem.Slots.{slots_items}
use Rattle.vpg_board.proofs.board.copy_words.Given as goal

abbrev pub invariant-loop-k : goal.invariant-loop-k
invariant-loop-k l = l.copy.items ≡ take l.k (drop l.from (slots_items l.closed.words))
