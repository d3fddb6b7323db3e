-- The one writing of a guarded game. PGSolver's format; brackets are this project's own.
use Rattle.std.specs.Prelude.{ℕ, max, List, [], ◌∷◌, ◌++◌, codes, decimal, slice_index_or}
use Rattle.vpg_sides.specs.declared.player.Player.{Player}
use Rattle.vpg_sides.specs.declared.player.Player.TheVariants.{Even, Odd}
use Rattle.vpg_guards.specs.Formula.{Formula, always}
use Rattle.vpg_guards.specs.Writing.{guard_text}
use Rattle.vpg_game.specs.Edges.{GuardedEdge}
use Rattle.vpg_game.specs.Game.{NamedVertex, NamedGame, vertex_ids, no_vertex}

-- brackets round a guard other than `true`
abbrev pub guard_part : List (List ℕ) → Formula → List ℕ
guard_part names always = []
guard_part names g = 91 ∷ (guard_text names g ++ 93 ∷ [])

abbrev pub target_id : List NamedVertex → GuardedEdge Formula → ℕ
target_id vs e = (slice_index_or vs e.to no_vertex).id

abbrev pub edge_text : List (List ℕ) → List NamedVertex → GuardedEdge Formula → List ℕ
edge_text names vs e = decimal (target_id vs e) ++ guard_part names e.guard

-- edges joined by `,`, after a first byte; nothing if there are none
abbrev pub edges_behind : List (List ℕ) → List NamedVertex → ℕ → List (GuardedEdge Formula) → List ℕ
edges_behind names vs sign [] = []
edges_behind names vs sign (e ∷ es) = sign ∷ (edge_text names vs e ++ edges_behind names vs 44 es)

abbrev pub owner_digit : Player → ℕ
owner_digit Even = 48
owner_digit Odd = 49

-- `identifier priority owner`, a blank and the edges if there are any, and `;`
abbrev pub vertex_text : List (List ℕ) → List NamedVertex → NamedVertex → List ℕ
vertex_text names vs v =
    decimal v.id ++ 32 ∷ (decimal v.priority
    ++ 32 ∷ (owner_digit v.owner ∷ (edges_behind names vs 32 v.edges ++ codes ";\n")))

abbrev pub vertices_text : List (List ℕ) → List NamedVertex → List NamedVertex → List ℕ
vertices_text names vs [] = []
vertices_text names vs (w ∷ ws) = vertex_text names vs w ++ vertices_text names vs ws

abbrev pub greatest : List ℕ → ℕ
greatest [] = 0
greatest (n ∷ ns) = max n (greatest ns)

-- `parity`, the greatest identifier, and a line for each vertex
abbrev pub game_text : List (List ℕ) → NamedGame → List ℕ
game_text names game =
    codes "parity " ++ (decimal (greatest (vertex_ids game.vertices))
    ++ (codes ";\n" ++ vertices_text names game.vertices game.vertices))
