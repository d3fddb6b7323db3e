use Rattle.std.proofs.Common.{◌-◌, length, sym, ◌∙◌, ap, arith}
use Rattle.vpg_written.specs.declared.piece.Piece.{Piece}
use Rattle.vpg_written.proofs.Cutting.{end_set}
use Rattle.vpg_written.proofs.piece.set_of.Goals as goal

pub returns-in-len1-up : goal.returns-in-len1-up
returns-in-len1-up c = ap (λ (p : Piece). p.set) c.piece-item.is ∙ sym (end_set c.args.term.now c.piece-item.result (length c.args.term.now - 1) (omega (arith, c.in-len1-up.len_at_least)))
