use Rattle.vpg_draw.proofs.Growing.{grown_by}
use Rattle.std.proofs.Common.{refl}
use Rattle.vpg_draw.specs.FeatureDrawing.{features_text}
use Rattle.vpg_draw.proofs.features.features.Goals as goal

pub loop-f-preserved : goal.loop-f-preserved
loop-f-preserved c =
    grown_by (features_text c.args.names.now c.args.known.now) _ c.loop-f.f c.args.out.now.items c.loop-f.out.items c.feature.new.out.items refl c.loop-f.invariant (rw (c.name_at.ensures, c.value.ensures) at c.in_ok-feature.ensures)
