use Rattle.std.proofs.Common.{◌-◌, length, sym, ◌∙◌, ap, arith}
use Rattle.vpg_written.specs.declared.piece.Piece.{Piece}
use Rattle.vpg_written.proofs.Cutting.{end_length}
use Rattle.vpg_written.proofs.terms.last_length.Goals as goal

pub returns-in-len1-up : goal.returns-in-len1-up
returns-in-len1-up c = ap (λ (p : Piece). p.length) c.piece-item.is ∙ sym (end_length c.args.pieces.now c.piece-item.result (length c.args.pieces.now - 1) (omega (arith, c.in-len1-up.len_at_least)))
