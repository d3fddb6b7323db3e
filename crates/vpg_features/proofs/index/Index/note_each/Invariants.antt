use Rattle.std.proofs.Common.{[], ◌++◌, take}
use Rattle.vpg_features.specs.Index.{NotesAlso}
use Rattle.vpg_features.proofs.index.Index.note_each.Given as goal

-- the features so far are noted
abbrev pub invariant-loop-feature : goal.invariant-loop-feature
invariant-loop-feature l = NotesAlso l.fn.self l.number ([] ++ take l.feature-index l.features) l.self
