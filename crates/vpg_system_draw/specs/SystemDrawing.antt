-- The picture of a featured transition system (Classen et al. 2010) on a page, in Graphviz's language (DOT). It has a
-- circle for each state and arrows for the transitions, solid, dashed or dotted as edges in pictures of games are.
use Rattle.std.specs.Prelude.{ℕ, zero, suc, Bool, true, false, ◌==◌, List, [], ◌++◌, length, codes, decimal, flat_map, slice_index_or}
use Rattle.vpg_guards.specs.declared.tri.Tri.{Tri}
use Rattle.vpg_guards.specs.declared.tri.Tri.TheVariants.{No, Unknown, Yes}
use Rattle.vpg_diagram.specs.declared.clause.Literal.{Literal}
use Rattle.vpg_system.specs.SystemText.{NamedSystem}
use Rattle.vpg_draw.specs.Labels.{choices_text}
use Rattle.vpg_draw.specs.GameDrawing.{style_text}
use Rattle.vpg_system_draw.specs.Arrows.{Arrow, arrows_below}
use Rattle.vpg_system_draw.specs.Traced.{Marking, is_in}
use Rattle.vpg_system_draw.specs.declared.arrows.Look.{Look}

-- ---- states

-- the first state has a thick border
abbrev pub border_text : (is_first : Bool) → List ℕ
border_text true = codes "penwidth=3, "
border_text false = []

-- a state that a trace comes back to has two borders
abbrev pub loop_text : (is_loop : Bool) → List ℕ
loop_text true = codes "peripheries=2, "
loop_text false = []

-- a state where it stands is an octagon
abbrev pub stand_text : (is_stand : Bool) → List ℕ
stand_text true = codes "shape=octagon, "
stand_text false = []

-- a state that a trace passes is yellow, and another one that cannot be reached grey
abbrev pub reached_text : (is_reached is_passed : Bool) → List ℕ
reached_text true true = codes "fillcolor=khaki, color=gray40];\n"
reached_text true false = codes "fillcolor=white, color=gray40];\n"
reached_text false true = codes "fillcolor=khaki, color=gray70, fontcolor=gray60];\n"
reached_text false false = codes "fillcolor=gray92, color=gray70, fontcolor=gray60];\n"

abbrev pub state_text : ℕ → (is_first is_reached : Bool) → Marking → List ℕ
state_text s is_first is_reached marking =
    codes "  " ++ decimal s ++ codes " [" ++ border_text is_first ++ loop_text (is_in marking.loops s)
    ++ stand_text (is_in marking.stands s) ++ reached_text is_reached (is_in marking.passed s)

-- the lines of the states below n
abbrev pub states_text : (first : ℕ) → (reached : List Bool) → Marking → (n : ℕ) → List ℕ
states_text first reached marking zero = []
states_text first reached marking (suc n) =
    states_text first reached marking n ++ state_text n (n == first) (slice_index_or reached n false) marking

-- ---- arrows

-- a marked one is thick
abbrev pub mark_text : (is_marked : Bool) → List ℕ
mark_text true = codes "penwidth=2.6, "
mark_text false = []

abbrev pub arrow_text : Look → Arrow → List ℕ
arrow_text look a =
    codes "  " ++ decimal a.source ++ codes " -> " ++ decimal a.target ++ codes " [label=\"" ++ a.label ++ codes "\", "
    ++ mark_text look.is_marked ++ style_text look.value

-- the arrows of this look
abbrev pub arrows_text : (names : List (List ℕ)) → (known : List Tri) → NamedSystem → (marks : List Bool) → Look →
    List ℕ
arrows_text names known system marks look =
    flat_map (arrow_text look) (arrows_below names known system marks look (length system.transitions))

abbrev pub look_of : Tri → (is_marked : Bool) → Look
look_of value is_marked = record { value = value; is_marked = is_marked }

-- the arrows of marked transitions, or of the others: in each product, in some, in none
abbrev pub all_arrows_text : (names : List (List ℕ)) → (known : List Tri) → NamedSystem → (marks : List Bool) →
    (is_marked : Bool) → List ℕ
all_arrows_text names known system marks is_marked =
    arrows_text names known system marks (look_of Yes is_marked)
    ++ arrows_text names known system marks (look_of Unknown is_marked)
    ++ arrows_text names known system marks (look_of No is_marked)

-- ---- the picture

unfoldable pub system_opening : List ℕ
system_opening = codes "digraph system {\n  graph [label=\"decisions"

unfoldable pub system_defaults : List ℕ
system_defaults = codes "\", labelloc=t, rankdir=LR];\n  node [shape=circle, style=filled];\n"

abbrev pub system_heading : List (List ℕ) → List Literal → List ℕ
system_heading names choices = system_opening ++ choices_text names choices ++ system_defaults

-- The decisions, a line for each state, and then one for each arrow. Two states have at most one arrow for transitions
-- with true guards, one for open and one for false guards; and as many for the marked transitions.
abbrev pub system_drawing : (names : List (List ℕ)) → (known : List Tri) → List Literal → NamedSystem →
    (reached : List Bool) → Marking → List ℕ
system_drawing names known choices system reached marking =
    system_heading names choices
    ++ states_text system.first reached marking system.states
    ++ all_arrows_text names known system marking.transitions false
    ++ all_arrows_text names known system marking.transitions true
    ++ codes "}\n"
