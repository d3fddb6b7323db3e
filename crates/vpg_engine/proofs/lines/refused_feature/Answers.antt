use Rattle.std.proofs.Common.{refl}
use Rattle.vpg_texts.specs.Text.{blank_name}
use Rattle.vpg_engine.proofs.Written.{refused_words}
use Rattle.vpg_engine.proofs.lines.refused_feature.Goals as goal

pub returns-clause-told : goal.returns-clause-told
returns-clause-told c = (
  refl,
  refused_words c.args.out.now.items c.extend_from_slice.new.self.items c.extend_from_slice-2.new.self.items c.blank_name.new.out.items c.extend_from_slice-3.new.self.items c.args.why.now (blank_name c.args.names.now c.args.feature)
      c.in_ok-extend_from_slice.ensures.items c.in_ok-extend_from_slice-2.ensures.items c.in_ok-blank_name.ensures c.in_ok-extend_from_slice-3.ensures.items,
)
