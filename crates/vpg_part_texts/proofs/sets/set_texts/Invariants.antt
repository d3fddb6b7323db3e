use Rattle.std.proofs.Common.{◌≡◌, map, take}
use Rattle.vpg_part_texts.specs.SetTexts.{set_text}
use Rattle.vpg_part_texts.proofs.sets.set_texts.Given as goal

abbrev pub invariant-loop-set : goal.invariant-loop-set
invariant-loop-set l = l.texts.items ≡ map (set_text l.system.actions) (take l.set-index l.sets)
