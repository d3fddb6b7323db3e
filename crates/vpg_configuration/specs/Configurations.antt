-- Configurations: texts with one selected feature a line, as FeatureIDE (Thüm et al., 2014) and tools for UVL exchange
-- them. Comments are this project's own.
use Rattle.std.specs.Prelude.{ℕ, ◌-◌, Bool, true, ◌==◌, ◌||◌, if◌then◌else◌, List, [], ◌∷◌, ◌++◌, length, take, drop, flat_map, slice_index_or, codes}
use Rattle.std.specs.List.{prefix_len, slice_split}

-- ---- a configuration before a script

abbrev pub is_line_end : ℕ → Bool
is_line_end b = b == 10

abbrev pub is_blank : ℕ → Bool
is_blank b = (b == 32 || b == 9) || b == 13

-- whether a text is empty or begins with `#`
abbrev pub begins_nothing : List ℕ → Bool
begins_nothing [] = true
begins_nothing (b ∷ text) = b == 35

-- whether a line names no feature: it is blank, or a comment
abbrev pub says_nothing : List ℕ → Bool
says_nothing line = begins_nothing (drop (prefix_len is_blank line) line)

-- the line of a script for a line of a configuration
abbrev pub selection : List ℕ → List ℕ
selection line = (if says_nothing line then [] else codes "select ") ++ (line ++ 10 ∷ [])

-- the selection of the text after the last line feed: nothing if it is empty
abbrev pub last_selection : List ℕ → List ℕ
last_selection [] = []
last_selection (b ∷ line) = selection (b ∷ line)

-- The selections of pieces between line feeds.
abbrev pub selections : List (List ℕ) → List ℕ
selections pieces =
    flat_map selection (take (length pieces - 1) pieces) ++
    last_selection (slice_index_or pieces (length pieces - 1) [])

-- the lines of a script that select what a configuration names
abbrev pub selecting : List ℕ → List ℕ
selecting text = selections (slice_split is_line_end text)

-- ---- a configuration that is written

-- a feature's line
abbrev pub name_line : List ℕ → List ℕ
name_line name = name ++ 10 ∷ []
