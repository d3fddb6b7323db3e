-- The picture of a game on a page, in Graphviz's language (DOT). As in PGSolver's pictures, Even's vertices are
-- diamonds and Odd's boxes.
use Rattle.std.specs.Prelude.{ℕ, zero, suc, Bool, true, false, if◌then◌else◌, List, [], ◌∷◌, ◌++◌, length, codes, decimal, flat_map, slice_index, slice_index_or}
use Rattle.vpg_guards.specs.declared.tri.Tri.{Tri}
use Rattle.vpg_guards.specs.declared.tri.Tri.TheVariants.{No, Unknown, Yes}
use Rattle.vpg_guards.specs.Formula.{Formula, always}
use Rattle.vpg_guards.specs.Known.{kleene}
use Rattle.vpg_guards.specs.Writing.{guard_text}
use Rattle.vpg_diagram.specs.declared.clause.Literal.{Literal}
use Rattle.vpg_sides.specs.declared.player.Player.{Player}
use Rattle.vpg_sides.specs.declared.player.Player.TheVariants.{Even, Odd}
use Rattle.vpg_game.specs.Guarded.{GuardedEdge}
use Rattle.vpg_game.specs.Game.{NamedVertex, NamedGame, vertex_ids, no_vertex}
use Rattle.vpg_sides.specs.declared.verdict.Verdict.{Verdict}
use Rattle.vpg_draw.specs.Labels.{wrapped, choices_text}

-- ---- vertices

abbrev pub shape_text : Player → List ℕ
shape_text Even = codes "diamond"
shape_text Odd = codes "box"

-- hopeless, sure, and neither; no vertex of a page is both
abbrev pub colours_text : (hopeless sure : Bool) → List ℕ
colours_text true sure = codes ", fillcolor=mistyrose, color=firebrick];\n"
colours_text false true = codes ", fillcolor=honeydew, color=darkgreen];\n"
colours_text false false = codes ", fillcolor=white, color=gray40];\n"

-- its name below its identifier and its priority
abbrev pub name_line : List ℕ → List ℕ
name_line [] = []
name_line (b ∷ name) = codes "\\n" ++ wrapped 0 (b ∷ name)

-- its line, up to the colours
abbrev pub vertex_start : NamedVertex → List ℕ → List ℕ
vertex_start v name =
    codes "  " ++ decimal v.id ++ codes " [shape=" ++ shape_text v.owner
    ++ codes ", label=\"" ++ decimal v.id ++ codes " : " ++ decimal v.priority ++ name_line name ++ codes "\""

abbrev pub vertex_text : NamedVertex → List ℕ → Verdict → List ℕ
vertex_text v name verdict = vertex_start v name ++ colours_text verdict.hopeless verdict.sure

-- the verdict for a look-up past the end
abbrev pub no_verdict : Verdict
no_verdict = record { hopeless = false; sure = false }

-- the lines of the vertices below n
abbrev pub vertices_text : List NamedVertex → List (List ℕ) → List Verdict → ℕ → List ℕ
vertices_text vertices labels verdicts zero = []
vertices_text vertices labels verdicts (suc n) =
    vertices_text vertices labels verdicts n
    ++ vertex_text (slice_index_or vertices n no_vertex) (slice_index_or labels n [])
    (slice_index_or verdicts n no_verdict)

-- ---- edges

-- kept, perhaps kept, left out
abbrev pub style_text : Tri → List ℕ
style_text Yes = codes "style=solid];\n"
style_text Unknown = codes "style=dashed, color=steelblue, fontcolor=steelblue];\n"
style_text No = codes "style=dotted, color=gray70, fontcolor=gray50];\n"

-- a guard, unless it is `true`
abbrev pub guard_label : List (List ℕ) → Formula → List ℕ
guard_label names always = []
guard_label names g = codes "label=\"" ++ guard_text names g ++ codes "\", "

-- its line, up to the style
abbrev pub edge_start : List (List ℕ) → List NamedVertex → ℕ → GuardedEdge Formula → List ℕ
edge_start names vertices id e =
    codes "  " ++ decimal id ++ codes " -> " ++ decimal (slice_index (vertex_ids vertices) e.to) ++ codes " ["
    ++ guard_label names e.guard

abbrev pub edge_text : List (List ℕ) → List Tri → List NamedVertex → ℕ → GuardedEdge Formula → List ℕ
edge_text names known vertices id e = edge_start names vertices id e ++ style_text (kleene known e.guard)

abbrev pub edges_text : List (List ℕ) → List Tri → List NamedVertex → NamedVertex → List ℕ
edges_text names known vertices v = flat_map (edge_text names known vertices v.id) v.edges

-- the edges of the vertices below n
abbrev pub all_edges_text : List (List ℕ) → List Tri → List NamedVertex → ℕ → List ℕ
all_edges_text names known vertices zero = []
all_edges_text names known vertices (suc n) =
    all_edges_text names known vertices n ++ edges_text names known vertices (slice_index_or vertices n no_vertex)

-- ---- the picture

unfoldable pub opening_text : List ℕ
opening_text = codes "digraph game {\n  graph [label=\"decisions"

unfoldable pub defaults_text : List ℕ
defaults_text = codes "\", labelloc=t, rankdir=LR];\n  node [style=filled];\n"

abbrev pub heading_text : List (List ℕ) → List Literal → List ℕ
heading_text names choices = opening_text ++ choices_text names choices ++ defaults_text

-- the decisions, a line for each vertex in file order, and then one for each edge
abbrev pub game_drawing : List (List ℕ) → List Tri → List Literal → List (List ℕ) → List Verdict → NamedGame → List ℕ
game_drawing names known choices labels verdicts game =
    heading_text names choices
    ++ vertices_text game.vertices labels verdicts (length game.vertices)
    ++ all_edges_text names known game.vertices (length game.vertices)
    ++ codes "}\n"
