-- The picture of a part of a game on a page, in Graphviz's language (DOT). This project's own.
use Rattle.std.specs.Prelude.{ℕ, zero, suc, Bool, true, false, if◌then◌else◌, ◌==◌, Option, Some, None, List, [], ◌∷◌, ◌++◌, length, codes, flat_map, slice_index_or}
use Rattle.vpg_guards.specs.declared.tri.Tri.{Tri}
use Rattle.vpg_guards.specs.declared.tri.Tri.TheVariants.{No, Unknown, Yes}
use Rattle.vpg_guards.specs.Formula.{Formula}
use Rattle.vpg_guards.specs.Known.{kleene}
use Rattle.vpg_diagram.specs.declared.clause.Literal.{Literal}
use Rattle.vpg_sides.specs.declared.player.Player.{Player}
use Rattle.vpg_sides.specs.declared.player.Player.TheVariants.{Even, Odd}
use Rattle.vpg_game.specs.Guarded.{GuardedEdge}
use Rattle.vpg_game.specs.Game.{NamedVertex, NamedGame, no_vertex}
use Rattle.vpg_sides.specs.declared.verdict.Verdict.{Verdict}
use Rattle.vpg_draw.specs.Labels.{choices_text}
use Rattle.vpg_draw.specs.GameDrawing.{vertex_start, colours_text, no_verdict, style_text, edge_start, defaults_text}

-- ---- vertices

-- the vertex from which the others are reached
abbrev pub first_text : Bool → List ℕ
first_text true = codes ", penwidth=3"
first_text false = []

abbrev pub part_vertex_text : NamedVertex → List ℕ → Verdict → (is_first : Bool) → List ℕ
part_vertex_text v name verdict is_first =
    vertex_start v name ++ first_text is_first ++ colours_text verdict.hopeless verdict.sure

-- the lines of the marked vertices below n
abbrev pub part_vertices_text : List NamedVertex → List (List ℕ) → List Verdict → (first : ℕ) → (marks : List Bool) →
    ℕ → List ℕ
part_vertices_text vertices labels verdicts first marks zero = []
part_vertices_text vertices labels verdicts first marks (suc n) =
    part_vertices_text vertices labels verdicts first marks n
    ++ (if slice_index_or marks n false
    then part_vertex_text (slice_index_or vertices n no_vertex) (slice_index_or labels n [])
    (slice_index_or verdicts n no_verdict) (n == first)
    else [])

-- ---- edges

-- whether listed moves are those of this player
abbrev pub is_mover : (mover : Option Player) → Player → Bool
is_mover (Some Even) Even = true
is_mover (Some Odd) Odd = true
is_mover _ owner = false

-- whether a move leads to this vertex
abbrev pub leads_to : Option ℕ → ℕ → Bool
leads_to None w = false
leads_to (Some m) w = m == w

-- Whether an edge is drawn. It isn't if its guard is known false; of a vertex with a listed move only that move is
-- drawn.
abbrev pub is_drawn : (is_listed is_move : Bool) → Tri → Bool
is_drawn is_listed is_move No = false
is_drawn false is_move Unknown = true
is_drawn false is_move Yes = true
is_drawn true is_move Unknown = is_move
is_drawn true is_move Yes = is_move

-- a listed move of this player
abbrev pub move_style : Player → List ℕ
move_style Even = codes "style=solid, color=\"#3f7d2c\", penwidth=2.6];\n"
move_style Odd = codes "style=solid, color=\"#b03a1e\", penwidth=2.6];\n"

-- a listed move, or an edge as in the picture of the whole game
abbrev pub part_style : (is_listed : Bool) → Player → Tri → List ℕ
part_style true owner value = move_style owner
part_style false owner value = style_text value

-- an edge of a vertex with this move
abbrev pub part_edge_text : List (List ℕ) → List Tri → List NamedVertex → NamedVertex → (mover : Option Player) →
    (move : Option ℕ) → GuardedEdge Formula → List ℕ
part_edge_text names known vertices v mover move e =
    if is_drawn (is_mover mover v.owner) (leads_to move e.to) (kleene known e.guard)
    then edge_start names vertices v.id e ++ part_style (is_mover mover v.owner) v.owner (kleene known e.guard)
    else []

abbrev pub part_edges_text : List (List ℕ) → List Tri → List NamedVertex → NamedVertex → (mover : Option Player) →
    (move : Option ℕ) → List ℕ
part_edges_text names known vertices v mover move =
    flat_map (part_edge_text names known vertices v mover move) v.edges

-- the edges of the marked vertices below n
abbrev pub all_part_edges_text : List (List ℕ) → List Tri → List NamedVertex → (marks : List Bool) →
    (mover : Option Player) → (moves : List (Option ℕ)) → ℕ → List ℕ
all_part_edges_text names known vertices marks mover moves zero = []
all_part_edges_text names known vertices marks mover moves (suc n) =
    all_part_edges_text names known vertices marks mover moves n
    ++ (if slice_index_or marks n false
    then part_edges_text names known vertices (slice_index_or vertices n no_vertex) mover (slice_index_or moves n None)
    else [])

-- ---- the picture

-- its name differs from that of the whole game's picture
unfoldable pub part_opening_text : List ℕ
part_opening_text = codes "digraph part {\n  graph [label=\"decisions"

abbrev pub part_heading_text : List (List ℕ) → List Literal → List ℕ
part_heading_text names choices = part_opening_text ++ choices_text names choices ++ defaults_text

-- The decisions, a line for each marked vertex in file order, and then one for each edge of theirs that is drawn. The
-- moves are those of the mover; without one, no moves are listed.
abbrev pub part_drawing : List (List ℕ) → List Tri → List Literal → List (List ℕ) → List Verdict → NamedGame →
    (first : ℕ) → (marks : List Bool) → (mover : Option Player) → (moves : List (Option ℕ)) → List ℕ
part_drawing names known choices labels verdicts game first marks mover moves =
    part_heading_text names choices
    ++ part_vertices_text game.vertices labels verdicts first marks (length game.vertices)
    ++ all_part_edges_text names known game.vertices marks mover moves (length game.vertices)
    ++ codes "}\n"
