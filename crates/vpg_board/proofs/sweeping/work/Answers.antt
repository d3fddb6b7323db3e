use Rattle.vpg_board.proofs.Working.{none_left, one_more, stand_trans}
use Rattle.std.proofs.Common.{◌∙◌}
use Rattle.vpg_board.proofs.sweeping.work.Goals as goal

pub returns-in_default : goal.returns-in_default
returns-in_default g c =
    let i = c.claims.invariant in
    let t = c.in_default.ensures in
    none_left c.args.board.now c.args.seat.lifter c.claims.seat c.claim.new.seat i.works i.stand t.board t.none.0 t.none.1 t.all

pub lift_hinted-requires-clause-works : goal.lift_hinted-requires-clause-works
lift_hinted-requires-clause-works g c =
    let i = c.claims.invariant in
    let t = c.in-Some-claim.ensures in
    let l = c.lift_and_hint.ensures in
    (one_more c.args.board.now c.args.seat.lifter c.claims.seat c.claim.new.seat c.lift_and_hint.new.seat c.in-Some-claim.which c.in-Some-claim.v i.works i.stand t.board t.vertex t.claimed l.board l.seen l.safe l.lifted).0

pub claims-preserved : goal.claims-preserved
claims-preserved g c =
    let i = c.claims.invariant in
    let t = c.in-Some-claim.ensures in
    let l = c.lift_and_hint.ensures in
    let h = c.lift_hinted.ensures in
    let more = one_more c.args.board.now c.args.seat.lifter c.claims.seat c.claim.new.seat c.lift_and_hint.new.seat c.in-Some-claim.which c.in-Some-claim.v i.works i.stand t.board t.vertex t.claimed l.board l.seen l.safe l.lifted in
    record { works = h.works; stand = stand_trans c.args.seat.lifter c.lift_and_hint.new.seat.lifter c.lift_hinted.new.seat.lifter more.1 h.stand }

pub lift_and_hint-requires-clause-board : goal.lift_and_hint-requires-clause-board
lift_and_hint-requires-clause-board g c = c.in-Some-claim.ensures.board ∙ c.claims.invariant.works.board_is

pub claim-requires : goal.claim-requires
claim-requires g c = c.claims.invariant.works.board_is

pub lift_and_hint-requires-clause-vertex : goal.lift_and_hint-requires-clause-vertex
lift_and_hint-requires-clause-vertex g c = c.in-Some-claim.ensures.vertex

pub lift_and_hint-requires-clause-predecessors : goal.lift_and_hint-requires-clause-predecessors
lift_and_hint-requires-clause-predecessors g c = c.requires.predecessors

pub lift_hinted-requires-clause-game : goal.lift_hinted-requires-clause-game
lift_hinted-requires-clause-game g c = c.requires.game

pub lift_hinted-requires-clause-predecessors : goal.lift_hinted-requires-clause-predecessors
lift_hinted-requires-clause-predecessors g c = c.requires.predecessors
