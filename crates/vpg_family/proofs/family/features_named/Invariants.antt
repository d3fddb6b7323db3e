use Rattle.std.proofs.Common.{take}
use Rattle.vpg_family.specs.Families.{IsNamedSet}
use Rattle.vpg_family.proofs.Naming.{texts}
use Rattle.vpg_family.proofs.family.features_named.Given as goal

abbrev pub invariant-loop-word : goal.invariant-loop-word
invariant-loop-word l = IsNamedSet l.names (take l.word-index (texts l.words)) l.set.items
