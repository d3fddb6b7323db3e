use Rattle.std.proofs.Common.{◌≡◌, drop}
use Rattle.vpg_diagram.specs.LineView.{lines_of}
use Rattle.vpg_diagram.proofs.diagram.same_lines.Given as goal

-- the lines from this place on are the same
abbrev pub invariant-loop-place : goal.invariant-loop-place
invariant-loop-place l = lines_of (drop l.place l.lines) ≡ lines_of (drop l.place l.others)
