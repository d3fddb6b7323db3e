use Rattle.std.proofs.Common.{◌≡◌, ◌≤◌, ℕ, [], length, map}
use Rattle.vpg_xml.specs.Tokens.{attributes_with}
use Rattle.vpg_xml.specs.View.{attribute_of}
use Rattle.vpg_xml.proofs.tags.attributes.Given as goal

abbrev pub invariant-loop-alloc : goal.invariant-loop-alloc
invariant-loop-alloc l = record {
  turns : ℕ;
  enough : length l.rest ≤ turns;
  reads : attributes_with (length l.text) l.size [] l.text ≡ attributes_with turns l.size (map attribute_of l.found.items) l.rest;
  within : length l.rest ≤ length l.text;
}

abbrev pub decreases-loop-alloc : goal.decreases-loop-alloc
decreases-loop-alloc l = length l.rest
