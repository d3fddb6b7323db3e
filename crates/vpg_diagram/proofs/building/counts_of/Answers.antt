use Rattle.std.proofs.lemmas.Grind.{common_steps}
use Rattle.std.proofs.Common.{refl, arith}
use Rattle.vpg_diagram.specs.Clauses.{counts_of}
use Rattle.vpg_diagram.specs.LineView.{lines_of}
use Rattle.vpg_diagram.proofs.Pieces.{piece_end}
use Rattle.vpg_diagram.proofs.building.counts_of.Goals as goal

pub returns : goal.returns
returns c = piece_end (λ lines. counts_of (lines_of lines)) refl _ _ c.args.lines.now c.loop-line.line-index c.loop-line-test.false c.loop-line.invariant

pub loop-line-preserved : goal.loop-line-preserved
loop-line-preserved c = grind (arith, common_steps)
