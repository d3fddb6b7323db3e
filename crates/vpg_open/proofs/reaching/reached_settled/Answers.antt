use Rattle.std.proofs.Common.{◌<◌, length, List, subst}
use Rattle.vpg_game.specs.Spelled.{SpelledEntry}
use Rattle.vpg_open.specs.SettledGames.{settled_game}
use Rattle.vpg_open.proofs.Entries.{settled_is_game, settled_low}
use Rattle.vpg_open.proofs.Marked.{marked_limited, positive}
use Rattle.vpg_open.proofs.ReachedWinners.{part_in, same_place}
use Rattle.vpg_open.proofs.reaching.reached_settled.Goals as goal

pub of-requires : goal.of-requires
of-requires c =
    let game = c.args.game.now in
    let winners = c.args.winners.now in
    let is = c.in_ok-entries.ensures in
    let some : 0 < length c.in_ok-entries.entries.items =
    subst (λ (es : List SpelledEntry). 0 < length es) c.as_slice.ensures.value
    (positive (length c.as_slice.result.now) c.if-is_empty.ensures) in
    rw (c.features.ensures, is)
    (marked_limited (settled_game game winners) c.deref.result.now
    (settled_is_game game winners c.vertices-count.ensures.game) (settled_low game winners c.requires.limit)
    (subst (λ (es : List SpelledEntry). 0 < length es) is some))

pub returns-in-Ok-clause-vertex : goal.returns-in-Ok-clause-vertex
returns-in-Ok-clause-vertex c =
    let game = c.args.game.now in
    let winners = c.args.winners.now in
    (part_in (settled_game game winners) c.deref.result.now c.in_ok-entries.entries.items c.features.result c.in-Ok.part
    c.args.vertex c.placed.result (settled_is_game game winners c.vertices-count.ensures.game) c.in_ok-entries.ensures
    c.features.ensures c.in-Ok.ensures.made c.in-Ok.ensures.sound c.placed.ensures.game c.placed.ensures.whole
    (same_place game winners c.args.vertex c.in-Ok.part c.placed.result c.placed.ensures.vertex)).0

pub returns-in-Ok-clause-wins : goal.returns-in-Ok-clause-wins
returns-in-Ok-clause-wins c =
    let game = c.args.game.now in
    let winners = c.args.winners.now in
    (part_in (settled_game game winners) c.deref.result.now c.in_ok-entries.entries.items c.features.result c.in-Ok.part
    c.args.vertex c.placed.result (settled_is_game game winners c.vertices-count.ensures.game) c.in_ok-entries.ensures
    c.features.ensures c.in-Ok.ensures.made c.in-Ok.ensures.sound c.placed.ensures.game c.placed.ensures.whole
    (same_place game winners c.args.vertex c.in-Ok.part c.placed.result c.placed.ensures.vertex)).1
