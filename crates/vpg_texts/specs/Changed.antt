-- Verdicts that differ from earlier ones. This project's own.
use Rattle.std.specs.Prelude.{ℕ, zero, suc, ◌+◌, Bool, false, ◌&&◌, ◌==◌, if◌then◌else◌, List, [], ◌∷◌, ◌++◌, length, slice_index, slice_index_or, codes, decimal}
use Rattle.std.specs.Bool.{beq}
use Rattle.vpg_guards.specs.Formula.{Formula}
use Rattle.vpg_game.specs.Guarded.{GuardedGame}
use Rattle.vpg_measure.specs.TwoGames.{top_for}
use Rattle.vpg_sides.specs.declared.verdict.Verdict.{Verdict}
use Rattle.vpg_trail.specs.Page.{Hopeful, Dual}
use Rattle.vpg_texts.specs.Labels.{label_of, beside}
use Rattle.vpg_texts.specs.Text.{count_line, hopeless_text, sure_text}

-- ---- the verdicts of a page

-- the verdict of a vertex by its two measures
abbrev pub verdict_of : (hopeful_top dual_top hopeful dual : ℕ) → Verdict
verdict_of hopeful_top dual_top hopeful dual =
    record { hopeless = hopeful == hopeful_top; sure = dual == dual_top }

-- the verdicts of the vertices below n
abbrev pub verdicts_below : (hopeful_top dual_top : ℕ) → (hopeful dual : List ℕ) → ℕ → List Verdict
verdicts_below hopeful_top dual_top hopeful dual zero = []
verdicts_below hopeful_top dual_top hopeful dual (suc n) =
    verdicts_below hopeful_top dual_top hopeful dual n
    ++ verdict_of hopeful_top dual_top (slice_index hopeful n) (slice_index dual n) ∷ []

-- the verdict of each vertex by these tables
abbrev pub verdicts_by : GuardedGame Formula → (hopeful dual : List ℕ) → List Verdict
verdicts_by game hopeful dual =
    verdicts_below (top_for Hopeful game) (top_for Dual game) hopeful dual (length game)

-- ---- what was seen

-- possible and unsure, as each vertex of the opening page is
abbrev pub unseen : Verdict
unseen = record { hopeless = false; sure = false }

-- the verdict seen of a vertex; if none was seen, that of the opening page
abbrev pub seen_at : List Verdict → ℕ → Verdict
seen_at seen v = slice_index_or seen v unseen

abbrev pub same_verdicts : Verdict → Verdict → Bool
same_verdicts before now = beq before.hopeless now.hopeless && beq before.sure now.sure

-- ---- the text

abbrev pub verdict_words : Verdict → List ℕ
verdict_words verdict = hopeless_text verdict.hopeless ++ sure_text verdict.sure

-- a vertex's identifier, the verdict seen of it, its verdict now, and its name
abbrev pub change_line : ℕ → (label : List ℕ) → (before now : Verdict) → List ℕ
change_line identifier label before now =
    decimal identifier ++ verdict_words before ++ verdict_words now ++ beside label ++ 10 ∷ []

-- the line if the verdicts differ
abbrev pub change_text : ℕ → (label : List ℕ) → (before now : Verdict) → List ℕ
change_text identifier label before now =
    if same_verdicts before now then [] else change_line identifier label before now

-- the lines of the vertices below n
abbrev pub change_lines : List ℕ → (labels : List (List ℕ)) → (seen now : List Verdict) → ℕ → List ℕ
change_lines identifiers labels seen now zero = []
change_lines identifiers labels seen now (suc n) =
    change_lines identifiers labels seen now n
    ++ change_text (slice_index identifiers n) (label_of labels n) (seen_at seen n) (seen_at now n)

-- the number of these lines
abbrev pub change_count : (seen now : List Verdict) → ℕ → ℕ
change_count seen now zero = 0
change_count seen now (suc n) =
    change_count seen now n + (if same_verdicts (seen_at seen n) (seen_at now n) then 0 else 1)

-- a line for each vertex with another verdict than was seen, and their number
abbrev pub changed_text : List ℕ → (labels : List (List ℕ)) → (seen now : List Verdict) → List ℕ
changed_text identifiers labels seen now =
    change_lines identifiers labels seen now (length identifiers)
    ++ count_line (codes "changed") (change_count seen now (length identifiers))
