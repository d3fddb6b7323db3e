-- The game of a product, and the hopeful game. The game of a product is that of FASE 2020; the hopeful and the cautious
-- game are this project's own.
use Rattle.vpg_game.specs.Guarded.{GuardedGame, AllGuards}
use Rattle.std.specs.Prelude.{◌≡◌, Bool, true, false, map, filter, if◌then◌else◌}
use Rattle.vpg_sides.specs.declared.player.Player.{Player}
use Rattle.vpg_guards.specs.declared.tri.Tri.{Tri}
use Rattle.vpg_guards.specs.declared.tri.Tri.TheVariants.{No, Yes}
use Rattle.vpg_sides.specs.Players.{opponent}
pub use Rattle.vpg_hope.specs.Kept.{keeps_in_hope}
use Rattle.vpg_hope.specs.Games.{Game}

-- the plain game with the edges of guards that a test keeps; the test may depend on who moves
abbrev pub restrict : {Guard : Type 0} → (Player → Guard → Bool) → GuardedGame Guard → Game
restrict keeps game = map (λ vertex. record {
  owner = vertex.owner;
  priority = vertex.priority;
  successors = map (λ edge. edge.to) (filter (λ edge. keeps vertex.owner edge.guard) vertex.edges);
}) game

-- the game of a product: the edges with guards that are true in it
abbrev pub product_game : {Guard : Type 0} → (Guard → Bool) → GuardedGame Guard → Game
product_game truth game = restrict (λ mover guard. truth guard) game

-- Even's vertices keep the edges with a value other than `No`, Odd's those with the value `Yes`
abbrev pub hopeful_game : {Guard : Type 0} → (Guard → Tri) → GuardedGame Guard → Game
hopeful_game value game = restrict (λ mover guard. keeps_in_hope mover (value guard)) game

-- The cautious game: each player keeps what the opponent would keep in the hopeful one. Even keeps the edges that must
-- be there, Odd those that may.
abbrev pub cautious_game : {Guard : Type 0} → (Guard → Tri) → GuardedGame Guard → Game
cautious_game value game = restrict (λ mover guard. keeps_in_hope (opponent mover) (value guard)) game

-- the known value of each guard of the game is its truth
abbrev pub AgreesWithTruth : {Guard : Type 0} → (Guard → Tri) → (Guard → Bool) → GuardedGame Guard → Type 0
AgreesWithTruth value truth game =
    AllGuards (λ guard. (value guard ≡ Yes → truth guard ≡ true) × (value guard ≡ No → truth guard ≡ false)) game

-- known values stay as they are
abbrev pub Extends : {Guard : Type 0} → (Guard → Tri) → (Guard → Tri) → GuardedGame Guard → Type 0
Extends later earlier game =
    AllGuards (λ guard. (earlier guard ≡ Yes → later guard ≡ Yes) × (earlier guard ≡ No → later guard ≡ No)) game

-- the truth of each guard is known
abbrev pub IsFullOf : {Guard : Type 0} → (Guard → Tri) → (Guard → Bool) → GuardedGame Guard → Type 0
IsFullOf value truth game = AllGuards (λ guard. value guard ≡ (if truth guard then Yes else No)) game
