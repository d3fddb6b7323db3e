-- The two players and the parity with which each wins. FASE 2020, read as max-parity.
use Rattle.std.specs.Prelude.{◌≡◌, ℕ, ◌%◌}
use Rattle.vpg_sides.specs.declared.player.Player.{Player}
use Rattle.vpg_sides.specs.declared.player.Player.TheVariants.{Even, Odd}

-- the other player
abbrev pub opponent : Player → Player
opponent Even = Odd
opponent Odd = Even

abbrev pub IsOdd : ℕ → Type 0
IsOdd n = n % 2 ≡ 1

-- the player wins a play whose greatest recurring priority is this number
abbrev pub WinsAt : Player → ℕ → Type 0
WinsAt Even n = n % 2 ≡ 0
WinsAt Odd n = n % 2 ≡ 1
