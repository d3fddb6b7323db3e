use Rattle.std.proofs.Common.{◌≡◌, ◌-◌, ◌≤◌, vec_len}
use Rattle.std.specs.Io.KnownBytes.{prepend_known, Keeps}
use Rattle.vpg_script.specs.Lines.{lines_left}
use Rattle.vpg_script.proofs.lines.next_line.Given as goal

abbrev pub invariant-fill : goal.invariant-fill
invariant-fill g l = record {
  kept : Keeps (prepend_known l.fn.held.items (g.R.Source.remaining l.fn.reader)) (prepend_known l.held.items (g.R.Source.remaining l.reader));
  few : l.reads ≤ 16777216;
  readable : g.R.Source.has_failed l.reader ≡ g.R.Source.has_failed l.fn.reader;
  calls : g.R.Source.calls l.reader ≡ l.reads;
  left : lines_left l.reads (vec_len l.held) ≤ lines_left l.fn.reads (vec_len l.fn.held);
}

abbrev pub decreases-fill : goal.decreases-fill
decreases-fill g l = 16777216 - l.reads
