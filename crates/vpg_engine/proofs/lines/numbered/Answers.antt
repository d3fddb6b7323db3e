use Rattle.std.proofs.Common.{◌∷◌, [], refl}
use Rattle.vpg_texts.specs.Text.{blank_number}
use Rattle.vpg_texts.proofs.Counted.{three_parts}
use Rattle.vpg_engine.proofs.lines.numbered.Goals as goal

pub returns-clause-told : goal.returns-clause-told
returns-clause-told c = (
  refl,
  three_parts c.args.out.now.items c.extend_from_slice.new.self.items c.blank_number.new.out.items c.extend_from_slice-2.new.self.items c.args.word.now (blank_number c.args.n) (10 ∷ [])
      c.in_ok-extend_from_slice.ensures.items c.in_ok-blank_number.ensures c.in_ok-extend_from_slice-2.ensures.items,
)
