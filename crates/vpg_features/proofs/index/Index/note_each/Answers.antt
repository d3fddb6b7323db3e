use Rattle.std.proofs.lemmas.Grind.{common_steps}
use Rattle.std.proofs.Common.{[], arith}
use Rattle.vpg_features.proofs.Noted.{noted_none, noted_step}
use Rattle.vpg_features.proofs.index.Index.note_each.Goals as goal

pub loop-feature-init : goal.loop-feature-init
loop-feature-init c = noted_none c.args.self.now c.args.number

pub loop-feature-preserved : goal.loop-feature-preserved
loop-feature-preserved c =
    noted_step c.args.self.now c.loop-feature.self c.note.new.self c.args.number [] c.args.features.now c.loop-feature.feature-index 0 c.loop-feature-test.true c.loop-feature.invariant
    c.in_ok-note.ensures

pub returns : goal.returns
returns c = grind (arith, common_steps)

pub note-requires : goal.note-requires
note-requires c = grind (arith, common_steps)
