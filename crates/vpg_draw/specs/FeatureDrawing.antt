-- The picture of a feature diagram, in Graphviz's language (DOT). A filled dot ends a mandatory edge and an empty one
-- an optional edge, as in FODA (Kang et al. 1990). Graphviz has no arcs between edges, so a triangle stands for the arc
-- of a group: filled for or, empty for alternative, and with its range for a cardinality.
use Rattle.std.specs.Prelude.{ℕ, zero, suc, Bool, if◌then◌else◌, ◌==◌, ◌||◌, List, [], ◌∷◌, ◌++◌, length, filter, Option, Some, None, codes, bytes_eq, flat_map, slice_index_or}
use Rattle.std.specs.List.{slice_split}
use Rattle.vpg_guards.specs.declared.tri.Tri.{Tri}
use Rattle.vpg_guards.specs.declared.tri.Tri.TheVariants.{No, Unknown, Yes}
use Rattle.vpg_diagram.specs.DiagramText.{is_nonempty}
use Rattle.vpg_diagram.specs.declared.clause.Literal.{Literal}
use Rattle.vpg_draw.specs.declared.features.Kind.{Kind}
use Rattle.vpg_draw.specs.declared.features.Kind.TheVariants as kinds
use Rattle.vpg_draw.specs.Labels.{label_byte, feature_name, choices_text}

-- ---- words

-- a space, a tab, a carriage return or a colon
abbrev pub is_break : ℕ → Bool
is_break b = (b == 32) || (b == 9) || (b == 13) || (b == 58)

-- the words of a line, which these bytes separate
abbrev pub pieces : List ℕ → List (List ℕ)
pieces line = filter is_nonempty (slice_split is_break line)

abbrev pub is_line_end : ℕ → Bool
is_line_end b = b == 10

-- in quotes
abbrev pub quoted : List ℕ → List ℕ
quoted word = 34 ∷ (flat_map label_byte word ++ 34 ∷ [])

-- the kind of line that a word begins
abbrev pub kind_of : List ℕ → Option Kind
kind_of w =
    if bytes_eq w (codes "mandatory") then Some kinds.Mandatory
    else if bytes_eq w (codes "optional") then Some kinds.Optional
    else if bytes_eq w (codes "alternative") then Some kinds.Alternative
    else if bytes_eq w (codes "or") then Some kinds.Or
    else if bytes_eq w (codes "group") then Some kinds.Group
    else if bytes_eq w (codes "requires") then Some kinds.Requires
    else if bytes_eq w (codes "excludes") then Some kinds.Excludes
    else None

-- ---- features

-- a feature known in is green, an open one white, one known out grey
abbrev pub value_look : Tri → List ℕ
value_look Yes = codes " [fillcolor=honeydew, color=darkgreen];\n"
value_look Unknown = codes " [fillcolor=white, style=\"filled,dashed\"];\n"
value_look No = codes " [fillcolor=gray92, fontcolor=gray60];\n"

abbrev pub feature_text : List ℕ → Tri → List ℕ
feature_text name value = codes "  " ++ quoted name ++ value_look value

-- the lines of the features below n
abbrev pub features_text : List (List ℕ) → List Tri → ℕ → List ℕ
features_text names known zero = []
features_text names known (suc n) =
    features_text names known n ++ feature_text (feature_name names n) (slice_index_or known n Unknown)

-- ---- lines

-- from one to the other
unfoldable pub arrow_text : List ℕ → List ℕ → List ℕ → List ℕ
arrow_text from look to = codes "  " ++ quoted from ++ codes " -> " ++ quoted to ++ look

abbrev pub arrows_text : List ℕ → List ℕ → List (List ℕ) → List ℕ
arrows_text from look words = flat_map (arrow_text from look) words

-- the node that stands for the arc of a group, named by its first member
unfoldable pub arc_name : List ℕ → List ℕ
arc_name first = codes "group " ++ first

-- the arc, and the way to it
unfoldable pub arc_text : List ℕ → List ℕ → List ℕ → List ℕ
arc_text parent look arc =
    codes "  " ++ quoted arc ++ codes " [shape=triangle, height=0.2, width=0.3, " ++ look
    ++ arrow_text parent (codes " [arrowhead=none];\n") arc

-- if there are members: the arc, and the ways from it
abbrev pub group_text : List ℕ → List ℕ → List (List ℕ) → List ℕ
group_text parent look [] = []
group_text parent look (first ∷ more) =
    arc_text parent look (arc_name first) ++ arrow_text (arc_name first) (codes " [arrowhead=none];\n") first
    ++ arrows_text (arc_name first) (codes " [arrowhead=none];\n") more

abbrev pub range_look : List ℕ → List ℕ → List ℕ
range_look low high =
    codes "fillcolor=white, label=\"\", xlabel=\"" ++ flat_map label_byte low ++ codes ".." ++ flat_map label_byte high
    ++ codes "\"];\n"

-- the picture of a line of this kind, by its parent and the words after that
abbrev pub kind_text : Kind → List ℕ → List (List ℕ) → List ℕ
kind_text kinds.Mandatory parent words = arrows_text parent (codes " [arrowhead=dot];\n") words
kind_text kinds.Optional parent words = arrows_text parent (codes " [arrowhead=odot];\n") words
kind_text kinds.Requires parent words =
    arrows_text parent (codes " [label=requires, style=dashed, constraint=false];\n") words
kind_text kinds.Excludes parent words =
    arrows_text parent (codes " [label=excludes, style=dashed, constraint=false, dir=both];\n") words
kind_text kinds.Alternative parent words = group_text parent (codes "fillcolor=white, label=\"\"];\n") words
kind_text kinds.Or parent words = group_text parent (codes "fillcolor=black, label=\"\"];\n") words
kind_text kinds.Group parent (low ∷ high ∷ words) = group_text parent (range_look low high) words
kind_text kinds.Group parent words = []

abbrev pub known_kind_text : Option Kind → List ℕ → List (List ℕ) → List ℕ
known_kind_text None parent words = []
known_kind_text (Some kind) parent words = kind_text kind parent words

abbrev pub words_text : List (List ℕ) → List ℕ
words_text (word ∷ parent ∷ words) = known_kind_text (kind_of word) parent words
words_text _ = []

abbrev pub line_text : List ℕ → List ℕ
line_text line = words_text (pieces line)

-- ---- the picture

unfoldable pub features_opening : List ℕ
features_opening = codes "digraph features {\n  graph [label=\"decisions"

unfoldable pub features_defaults : List ℕ
features_defaults = codes "\", labelloc=t];\n  node [shape=box, style=filled, height=0.3];\n"

-- the decisions, a line for each feature in the diagram's order, and then the picture of each line of the text
abbrev pub feature_drawing : List (List ℕ) → List Tri → List Literal → List ℕ → List ℕ
feature_drawing names known choices text =
    features_opening ++ choices_text names choices ++ features_defaults
    ++ features_text names known (length names)
    ++ flat_map line_text (slice_split is_line_end text)
    ++ codes "}\n"
