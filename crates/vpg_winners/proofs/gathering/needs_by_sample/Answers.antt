use Rattle.std.proofs.Common.{vec_len}
use Rattle.vpg_why.specs.Explained.{choices}
use Rattle.vpg_why.specs.declared.question.Aim.TheVariants as aims
use Rattle.vpg_winners.proofs.Samples.{found_meet, not_empty, some_found}
use Rattle.vpg_winners.proofs.gathering.needs_by_sample.Goals as goal

pub returns-clause-needs : goal.returns-clause-needs
returns-clause-needs c =
    let order = c.args.order.now in
    let own = choices order.decisions in
    let aim = aims.Won c.args.which c.args.vertex in
    let found = c.in_ok-found.found.items in
    let are = c.in_ok-found.ensures in
    let one = some_found order.game order.diagram aim own found
    (not_empty found (vec_len c.in_ok-found.found) c.is_empty.result c.in_ok-found.found.ok.0 c.is_empty.ensures
    c.if-is_empty.false) are in (
      one,
      rw c.new.ensures.items (c.differ.ensures c.if-not-differ.false aim one.0 one.1 one.2
          (rw c.deref.ensures.value (found_meet order.game order.diagram aim own found are))),
    )
