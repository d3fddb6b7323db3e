use Rattle.std.proofs.Common.{◌≡◌, ◌≤◌, ◌++◌, drop}
use Rattle.vpg_part_texts.specs.PartTexts.{numbers_from}
use Rattle.vpg_part_texts.proofs.wording.numbers.Given as goal

-- the numbers that are there and those still to come are all
abbrev pub invariant-loop-part : goal.invariant-loop-part
invariant-loop-part l = record {
  all : l.numbers.items ++ numbers_from l.count (drop l.part-index l.parts) ≡ numbers_from 0 l.parts;
  few : l.count ≤ l.part-index;
}
