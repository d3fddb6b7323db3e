-- Codes for entries and games, by which models hold them.
use Rattle.std.specs.Prelude.{◌≡◌, ℕ, List, refl}
use Rattle.std.specs.Coded.{Coded, code_by, coded×, coded_ℕ, coded_list}
use Rattle.vpg_guards.specs.Formula.{Formula}
use Rattle.vpg_guards.specs.Coding.{formula_code}
use Rattle.vpg_sides.specs.declared.player.Player.{Player}
use Rattle.vpg_sides.specs.declared.player.Player.TheVariants.{Even, Odd}
use Rattle.vpg_game.specs.Spelled.{SpelledSuccessor, SpelledEntry}
use Rattle.vpg_game.specs.Grammar.{player_of}
use Rattle.vpg_game.specs.Edges.{GuardedEdge}
use Rattle.vpg_game.specs.EdgeCoding.{edge_code}
use Rattle.vpg_game.specs.Game.{NamedVertex, NamedGame}

abbrev pub player_number : Player → ℕ
player_number Even = 0
player_number Odd = 1

pub player_back : (p : Player) → player_of (player_number p) ≡ p
player_back Even = refl
player_back Odd = refl

abbrev pub player_code : Coded Player
player_code = code_by ℕ coded_ℕ player_number player_of player_back

abbrev pub successor_code : Coded SpelledSuccessor
successor_code =
    code_by (ℕ × Formula) (coded× coded_ℕ formula_code) (λ s. (s.id, s.guard)) (λ p. record { id = p.0; guard = p.1 })
    (λ _. refl)

abbrev pub entry_code : Coded SpelledEntry
entry_code =
    code_by ((ℕ × ℕ) × (Player × List SpelledSuccessor))
    (coded× (coded× coded_ℕ coded_ℕ) (coded× player_code (coded_list successor_code)))
    (λ e. ((e.id, e.priority), (e.owner, e.successors)))
    (λ p. record { id = p.0.0; priority = p.0.1; owner = p.1.0; successors = p.1.1 }) (λ _. refl)

abbrev pub vertex_code : Coded NamedVertex
vertex_code =
    code_by ((ℕ × ℕ) × (Player × List (GuardedEdge Formula)))
    (coded× (coded× coded_ℕ coded_ℕ) (coded× player_code (coded_list edge_code)))
    (λ e. ((e.id, e.priority), (e.owner, e.edges)))
    (λ p. record { id = p.0.0; priority = p.0.1; owner = p.1.0; edges = p.1.1 }) (λ _. refl)

abbrev pub game_code : Coded NamedGame
game_code = code_by (List NamedVertex × ℕ) (coded× (coded_list vertex_code) coded_ℕ) (λ g. (g.vertices, g.features))
    (λ p. record { vertices = p.0; features = p.1 }) (λ _. refl)
