use Rattle.std.proofs.Common.{[], ◌∷◌, ◌++◌, take}
use Rattle.vpg_features.specs.Index.{NotesAlso}
use Rattle.vpg_diagram.proofs.index.note_count.Given as goal

-- the parent and the members so far are noted
abbrev pub invariant-loop-member : goal.invariant-loop-member
invariant-loop-member l = NotesAlso l.fn.index l.number ((l.count.parent ∷ []) ++ take l.member-index l.member-items) l.index
