use Rattle.vpg_measure.specs.Orders.{HarvestView}
use Rattle.vpg_board.specs.Alone.{Rises}
use Rattle.vpg_board.proofs.Lone.{rises_none, rises_one, rises_trans, less_still}
use Rattle.vpg_settle.proofs.sweeping.climb_at.Goals as goal

pub climbing-init : goal.climbing-init
climbing-init c = record { rises = rises_none c.args.harvest.now c.requires.harvest }

pub raise-requires : goal.raise-requires
raise-requires c = less_still c.args.harvest.now c.climbing.harvest c.args.v c.climbing.invariant.rises c.requires.vertex

pub returns-then-not-raise : goal.returns-then-not-raise
returns-then-not-raise c =
    let r = c.raise.ensures in
    rises_trans c.args.harvest.now c.climbing.harvest c.raise.new.self c.climbing.invariant.rises
    (rises_one c.climbing.harvest c.raise.new.self c.args.which c.args.v r.harvests.0 r.harvests.1 r.order r.raised r.other)

pub climbing-preserved : goal.climbing-preserved
climbing-preserved c =
    let r = c.raise.ensures in
    record {
      rises = rises_trans c.args.harvest.now c.climbing.harvest c.raise.new.self c.climbing.invariant.rises
          (rises_one c.climbing.harvest c.raise.new.self c.args.which c.args.v r.harvests.0 r.harvests.1 r.order r.raised r.other);
    }

pub returns : goal.returns
returns c = c.climbing.invariant.rises
