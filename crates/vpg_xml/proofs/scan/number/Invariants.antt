use Rattle.std.proofs.Common.{◌≡◌, ◌≤◌, drop}
use Rattle.vpg_xml.specs.Tokens.{number_after}
use Rattle.vpg_xml.proofs.scan.number.Given as goal

abbrev pub invariant-loop-b : goal.invariant-loop-b
invariant-loop-b l = record {
  small : l.value ≤ 1000;
  reads : number_after 0 l.digits ≡ number_after l.value (drop l.b-index l.digits);
}
