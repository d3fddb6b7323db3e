use Rattle.std.proofs.Common.{◌≡◌, ◌≤◌, ℕ, [], length}
use Rattle.vpg_xml.specs.Tokens.{value_with}
use Rattle.vpg_xml.proofs.tags.value.Given as goal

abbrev pub invariant-loop-rest : goal.invariant-loop-rest
invariant-loop-rest l = record {
  turns : ℕ;
  enough : length l.rest ≤ turns;
  reads : value_with (length l.text) l.quote [] l.text ≡ value_with turns l.quote l.said.items l.rest;
  within : length l.rest ≤ length l.text;
}

abbrev pub decreases-loop-rest : goal.decreases-loop-rest
decreases-loop-rest l = length l.rest
