use Rattle.std.proofs.Common.{◌≡◌, ◌+◌, ◌≤◌, length}
use Rattle.std.specs.Str.Lines.{lines}
use Rattle.vpg_diagram.specs.DiagramReading.{read_lines}
use Rattle.vpg_diagram.specs.LineView.{lines_of}
use Rattle.vpg_diagram.specs.ReadCode.{behind_root}
use Rattle.vpg_diagram.proofs.ReadLoop.{continued}
use Rattle.vpg_diagram.proofs.reading.read_behind.Given as goal

abbrev pub invariant-loop-rest : goal.invariant-loop-rest
invariant-loop-rest l = record {
  reads : continued l.reader.names (lines_of l.reader.lines.items) (read_lines (l.number + 1) (lines l.rest) l.reader.names l.reader.rules) ≡ behind_root l.root.name.now l.root.number l.root.behind.now;
  rules : l.reader.rules ≤ 16384;
  count : l.number + length l.rest ≤ l.root.number + length l.root.behind.now;
}

abbrev pub decreases-loop-rest : goal.decreases-loop-rest
decreases-loop-rest l = length l.rest
