use Rattle.std.proofs.Common.{◌≡◌, ◌++◌, drop}
use Rattle.vpg_part_texts.specs.SetTexts.{listed}
use Rattle.vpg_part_texts.proofs.sets.listed.Given as goal

-- what is written and what is still to be written is the whole
abbrev pub invariant-loop-action : goal.invariant-loop-action
invariant-loop-action l = l.text.items ++ listed l.is_in l.set l.action (drop l.action l.system.actions) ≡ listed l.is_in l.set 0 l.system.actions
