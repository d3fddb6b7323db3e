use Rattle.vpg_board.proofs.Working.{more_seen, same_stand}
use Rattle.vpg_board.proofs.sweeping.lift_hinted.Goals as goal

pub hinted-init : goal.hinted-init
hinted-init g c = record { works = c.requires.works; stand = same_stand c.args.seat.now.lifter }

pub hinted-preserved : goal.hinted-preserved
hinted-preserved g c =
    let i = c.hinted.invariant in
    let l = c.lift_and_hint.ensures in
    let more = more_seen c.args.board.now c.args.seat.now.lifter c.hinted.seat c.lift_and_hint.new.seat i.works i.stand l.board l.seen l.safe in
    record { works = more.0; stand = more.1 }
