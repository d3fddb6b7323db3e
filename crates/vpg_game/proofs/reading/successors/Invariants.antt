use Rattle.std.proofs.Common.{◌≡◌, ◌-◌, ◌≤◌, length, vec_len}
use Rattle.vpg_game.specs.Reading.{more_successors, successors_at}
use Rattle.vpg_game.proofs.reading.successors.Given as goal

-- what is read in all is what is read from here on, behind what is read
abbrev pub invariant-loop-behind : goal.invariant-loop-behind
invariant-loop-behind l =
    (vec_len l.items ≤ l.left) × (length l.rest ≤ length l.text) × (successors_at l.names l.left l.text ≡ more_successors l.names (l.left - vec_len l.items) l.items.items l.rest)

abbrev pub decreases-loop-behind : goal.decreases-loop-behind
decreases-loop-behind l = length l.rest
