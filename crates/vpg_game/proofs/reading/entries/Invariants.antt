use Rattle.std.proofs.Common.{◌≡◌, ◌-◌, ◌≤◌, length, vec_len}
use Rattle.vpg_game.specs.Reading.{more_entries, all_entries}
use Rattle.vpg_game.proofs.reading.entries.Given as goal

-- what is read in all is what is read from here on, behind what is read
abbrev pub invariant-loop-rest : goal.invariant-loop-rest
invariant-loop-rest l =
    (vec_len l.items ≤ 65536) × (length l.rest ≤ length l.text) × (all_entries l.names l.text ≡ more_entries l.names (65536 - vec_len l.items) l.left l.items.items l.rest)

abbrev pub decreases-loop-rest : goal.decreases-loop-rest
decreases-loop-rest l = length l.rest
