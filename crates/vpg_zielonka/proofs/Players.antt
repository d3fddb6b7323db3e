-- Whether two players are the same.
use denote.Enum.Bare.{sameb}
use Rattle.std.proofs.Common.{◌≡◌, true, false, refl}
use Rattle.vpg_sides.specs.contracts.player.Player.{the_type}
use Rattle.vpg_sides.specs.declared.player.Player.{Player}
use Rattle.vpg_sides.specs.declared.player.Player.TheVariants.{Even, Odd}

pub player_same : (a b : Player) → true ≡ sameb the_type a b → a ≡ b
player_same Even Even e = refl
player_same Even Odd e = cc
player_same Odd Even e = cc
player_same Odd Odd e = refl

pub player_other : (a b : Player) → false ≡ sameb the_type a b → a ≡ b → ⊥
player_other Even Even e f = cc
player_other Even Odd e f = cc
player_other Odd Even e f = cc
player_other Odd Odd e f = cc
