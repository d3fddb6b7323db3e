use Rattle.std.proofs.lemmas.Grind.{common_steps}
use Rattle.std.proofs.Common.{◌≡◌, ◌≢◌, ◌-◌, ◌<◌, length, slice_index, arith, inl, inr}
use Rattle.vpg_office.proofs.Serials.{never_elsewhere, never_empty, never_noted}
use Rattle.vpg_office.proofs.Swinging.{last_held}
use Rattle.vpg_office.proofs.log.Calls.holds.Goals.{then-serial-eq0-via-then-serial-eq0, then-serial-eq0-via-else-serial-eq0+then-count-eq0}
use Rattle.vpg_office.proofs.log.Calls.holds.Goals.{then-at-len-via-then-at-len, then-at-len-via-else-at-len+then-index-count}
use Rattle.vpg_office.proofs.log.Calls.holds.Goals as goal

pub returns-then-serial-eq0-clause-lacks : goal.returns-then-serial-eq0-clause-lacks
returns-then-serial-eq0-clause-lacks g c =
    let newest = c.args.self.now.newest in
    let given = c.args.self.now.chronicle.given.items in
    elim c.then-serial-eq0.branch [
      | then-serial-eq0-via-then-serial-eq0 w ↦ never_noted newest given c.args.serial c.args.own.now c.requires.kept.none_left (inl w.if-serial-eq0.true)
      | then-serial-eq0-via-else-serial-eq0+then-count-eq0 w ↦ never_empty newest c.args.serial c.args.own.now (omega (arith, w.if-count-eq0.true, c.len-count.ensures.length))
    ]

pub returns-then-at-len-clause-lacks : goal.returns-then-at-len-clause-lacks
returns-then-at-len-clause-lacks g c =
    let newest = c.args.self.now.newest in
    let given = c.args.self.now.chronicle.given.items in
    let some : c.args.serial ≢ 0 = c.if-serial-eq0.false in
    elim c.then-at-len.branch [
      | then-at-len-via-then-at-len w ↦ never_noted newest given c.args.serial c.args.own.now c.requires.kept.none_left (inr (omega (arith, some, w.if-at-len.true, c.len.ensures)))
      | then-at-len-via-else-at-len+then-index-count w ↦
          let low : c.args.serial - 1 < length given = omega (arith, w.if-at-len.false, c.len.ensures) in
          let read : slice_index given (c.args.serial - 1) ≡ w.index.result.now = grind (arith, common_steps) in
          never_elsewhere newest given c.args.serial c.args.own.now c.requires.kept.are_given some low (λ e. w.if-index-count.true (omega (arith, read, e, c.len-count.ensures.length)))
    ]

pub returns-in-Ok-clause-last : goal.returns-in-Ok-clause-last
returns-in-Ok-clause-last g c =
    let given = c.args.self.now.chronicle.given.items in
    let some : c.args.serial ≢ 0 = omega arith in
    let low : c.args.serial - 1 < length given = omega arith in
    let same : slice_index given (c.args.serial - 1) ≡ length c.args.own.now - 1 = grind (arith, common_steps) in
    let long : length c.args.own.now ≢ 0 = omega arith in
    last_held c.args.self.now.newest given c.args.serial c.args.own.now c.requires.kept.are_given some low same long c.in-Ok.ensures.begins
