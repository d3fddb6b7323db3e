use Rattle.std.proofs.Common.{◌≡◌, length, map, take}
use Rattle.vpg_partial.specs.Known.{literal_of}
use Rattle.vpg_products.proofs.Growth.{GrewWith}
use Rattle.vpg_products.proofs.growing.is_refuted.Given as goal

abbrev pub invariant-loop-decision : goal.invariant-loop-decision
invariant-loop-decision l = record {
  same : length l.more.items ≡ length l.known;
  grew : GrewWith l.diagram.lines (map literal_of (take l.decision-index l.decisions)) l.known l.more.items;
}
