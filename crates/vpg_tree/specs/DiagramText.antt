-- The text of the feature diagram that a tree stands for. This project's own.
use Rattle.std.specs.Prelude.{ℕ, List, [], ◌∷◌, ◌++◌, codes, decimal, slice_index_or}
use Rattle.vpg_tree.specs.Tree.{Tree}
use Rattle.vpg_tree.specs.RuleText.{rule_text}
use Rattle.vpg_tree.specs.Lines.{Line, mandatory, optional, alternative, or, group, requires_line, excludes_line, rule, lines_of}

abbrev pub name_of : List (List ℕ) → ℕ → List ℕ
name_of names f = slice_index_or names f []

-- each name after a blank
abbrev pub members_text : List (List ℕ) → List ℕ → List ℕ
members_text names [] = []
members_text names (f ∷ fs) = codes " " ++ name_of names f ++ members_text names fs

-- a word and two names
abbrev pub pair_text : List (List ℕ) → List ℕ → ℕ → ℕ → List ℕ
pair_text names word a b = word ++ name_of names a ++ codes " " ++ name_of names b

-- for each child of a parent, a word, the parent and the child, and the line's end
abbrev pub pairs_text : List (List ℕ) → List ℕ → ℕ → List ℕ → List ℕ
pairs_text names word parent [] = []
pairs_text names word parent (child ∷ children) =
    pair_text names word parent child ++ codes "\n" ++ pairs_text names word parent children

abbrev pub line_text : List (List ℕ) → Line → List ℕ
line_text names (mandatory p c) = pair_text names (codes "mandatory ") p c
line_text names (optional p c) = pair_text names (codes "optional ") p c
line_text names (alternative p cs) = codes "alternative " ++ name_of names p ++ codes ":" ++ members_text names cs
line_text names (or p cs) = codes "or " ++ name_of names p ++ codes ":" ++ members_text names cs
line_text names (group p low high cs) =
    codes "group " ++ name_of names p ++ codes " " ++ decimal low ++ codes " " ++ decimal high ++ codes ":"
    ++ members_text names cs
line_text names (requires_line a b) = pair_text names (codes "requires ") a b
line_text names (excludes_line a b) = pair_text names (codes "excludes ") a b
line_text names (rule c) = codes "rule " ++ rule_text names c

-- each line, with a line feed at its end
abbrev pub lines_text : List (List ℕ) → List Line → List ℕ
lines_text names [] = []
lines_text names (line ∷ lines) = line_text names line ++ codes "\n" ++ lines_text names lines

-- the root line, and a line for each line of the diagram
abbrev pub diagram_text : Tree → List ℕ
diagram_text tree = codes "root " ++ name_of tree.names 0 ++ codes "\n" ++ lines_text tree.names (lines_of tree)
