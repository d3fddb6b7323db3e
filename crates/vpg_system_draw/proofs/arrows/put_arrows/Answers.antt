use Rattle.std.proofs.Common.{arith}
use Rattle.vpg_draw.proofs.Growing.{grown_each, grown_all}
use Rattle.vpg_system_draw.specs.Joining.{arrows_in, no_arrow}
use Rattle.vpg_system_draw.specs.SystemDrawing.{arrow_text}
use Rattle.vpg_system_draw.proofs.Joins.{arrows_count}
use Rattle.vpg_system_draw.proofs.arrows.put_arrows.Goals as goal

pub loop-at-preserved : goal.loop-at-preserved
loop-at-preserved c =
    grown_each (arrow_text c.args.look) (arrows_in c.args.ends.now.keys c.args.labels.now) c.loop-at.at no_arrow c.args.out.now.items c.loop-at.out.items c.put_at.new.out.items
    (omega (arith, c.loop-at-test.true, arrows_count c.args.ends.now.keys c.args.labels.now c.requires)) c.loop-at.invariant c.in_ok-put_at.ensures

pub returns : goal.returns
returns c =
    grown_all (arrow_text c.args.look) (arrows_in c.args.ends.now.keys c.args.labels.now) c.loop-at.at c.args.out.now.items c.loop-at.out.items
    (omega (arith, c.loop-at-test.false, arrows_count c.args.ends.now.keys c.args.labels.now c.requires)) c.loop-at.invariant
