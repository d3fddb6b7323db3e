use Rattle.std.proofs.Common.{◌≡◌, ◌≤◌, length}
use Rattle.vpg_xml.specs.Tokens.{comment_end}
use Rattle.vpg_xml.proofs.tags.comment_end.Given as goal

abbrev pub invariant-loop-rest : goal.invariant-loop-rest
invariant-loop-rest l = record {
  reads : comment_end l.text ≡ comment_end l.rest;
  within : length l.rest ≤ length l.text;
}

abbrev pub decreases-loop-rest : goal.decreases-loop-rest
decreases-loop-rest l = length l.rest
