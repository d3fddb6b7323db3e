use Rattle.std.proofs.Common.{◌≡◌, ◌++◌}
use Rattle.vpg_zielonka.specs.Winners.{players}
use Rattle.vpg_zielonka.proofs.each.push_players.Given as goal

abbrev pub invariant-loop-place : goal.invariant-loop-place
invariant-loop-place l = l.found.items ≡ l.fn.found.items ++ players l.word l.place
