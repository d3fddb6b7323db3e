use Rattle.std.proofs.Common.{[], ◌++◌, map, take}
use Rattle.vpg_features.specs.Index.{NotesAlso}
use Rattle.vpg_diagram.proofs.index.note_clause.Given as goal

-- the features so far are noted
abbrev pub invariant-loop-literal : goal.invariant-loop-literal
invariant-loop-literal l = NotesAlso l.fn.index l.number ([] ++ take l.literal-index (map (λ x. x.feature) l.literal-items)) l.index
