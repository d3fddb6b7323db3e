use Rattle.std.proofs.Common.{refl}
use Rattle.vpg_engine.proofs.Written.{refused_word}
use Rattle.vpg_engine.proofs.lines.refused.Goals as goal

pub returns-clause-told : goal.returns-clause-told
returns-clause-told c = (
  refl,
  refused_word c.args.out.now.items c.extend_from_slice.new.self.items c.extend_from_slice-2.new.self.items c.extend_from_slice-3.new.self.items c.args.why.now
      c.in_ok-extend_from_slice.ensures.items c.in_ok-extend_from_slice-2.ensures.items c.in_ok-extend_from_slice-3.ensures.items,
)
