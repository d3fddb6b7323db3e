use Rattle.std.proofs.Common.{◌≡◌, ◌-◌, ◌≤◌, ◌++◌, List, ℕ, vec_len}
use Rattle.std.specs.Io.KnownBytes.{prepend_known, Keeps}
use Rattle.vpg_script.specs.Lines.{IsUnended, lines_left}
use Rattle.vpg_script.proofs.lines.pass_line.Given as goal

abbrev pub invariant-pass : goal.invariant-pass
invariant-pass g l = record {
  passed : (front : List ℕ) × (IsUnended front × Keeps (prepend_known l.fn.held.items (g.R.Source.remaining l.fn.reader)) (prepend_known (front ++ l.held.items) (g.R.Source.remaining l.reader)));
  few : l.reads ≤ 16777216;
  readable : g.R.Source.has_failed l.reader ≡ g.R.Source.has_failed l.fn.reader;
  calls : g.R.Source.calls l.reader ≡ l.reads;
  left : lines_left l.reads (vec_len l.held) ≤ lines_left l.fn.reads (vec_len l.fn.held);
}

abbrev pub decreases-pass : goal.decreases-pass
decreases-pass g l = 16777216 - l.reads
