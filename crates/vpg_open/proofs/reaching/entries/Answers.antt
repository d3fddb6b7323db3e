use Rattle.std.proofs.Common.{◌<◌, false, length, refl, arith}
use Rattle.vpg_open.specs.SettledGames.{settled_game, settled_vertices}
use Rattle.vpg_open.proofs.Entries.{same_length, settled_spelled}
use Rattle.vpg_open.proofs.Marked.{entries_none, entries_more, entries_same}
use Rattle.vpg_open.proofs.reaching.entries.Goals as goal
use Rattle.vpg_open.proofs.reaching.entries.Goals.{then-marks-v+in_ok-entry+in_ok-push, else-marks-v}

pub loop-v-init : goal.loop-v-init
loop-v-init c =
    entries_none (settled_game c.args.game.now c.args.winners.now) c.new-entries.result.items
    c.new-entries.ensures.items

pub loop-v-preserved : goal.loop-v-preserved
loop-v-preserved c =
    let vs = c.args.game.now.vertices in
    let winners = c.args.winners.now in
    let game = settled_game c.args.game.now winners in
    let within : c.loop-v.v < length vs =
    omega (arith, c.loop-v-test.true, c.vertices-v-end.ensures.count, c.loop-v.auto.v-end) in
    let inside : c.loop-v.v < length (settled_vertices vs winners) = omega (arith, within, same_length vs winners) in
    let marked : c.loop-v.v < length c.args.marks.now = omega (arith, within, c.requires) in
    elim c.if-marks-v.branch [
      | then-marks-v+in_ok-entry+in_ok-push w ↦ rw w.entries-is
          (entries_more game c.args.marks.now c.loop-v.v false c.loop-v.entries.items w.push.new.self.items
          w.in_ok-entry.field-0 inside marked w.if-marks-v.true c.loop-v.invariant
          (settled_spelled vs winners c.loop-v.v w.winner_of.result w.in_ok-entry.field-0 within w.winner_of.ensures
          w.in_ok-entry.ensures) w.in_ok-push.ensures.items)
      | else-marks-v w ↦ rw w.entries-is
          (entries_same game c.args.marks.now c.loop-v.v false c.loop-v.entries.items
          c.loop-v.entries.items inside marked w.if-marks-v.false c.loop-v.invariant refl)
    ]
