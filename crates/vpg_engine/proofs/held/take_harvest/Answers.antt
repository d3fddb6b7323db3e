use Rattle.std.proofs.Common.{◌<◌, length, subst, ◌∙◌}
use Rattle.vpg_engine.proofs.KeptHarvests.{kept_at}
use Rattle.vpg_engine.proofs.held.take_harvest.Goals as goal

pub returns-clause-kept : goal.returns-clause-kept
returns-clause-kept c =
    let harvests = c.args.harvests.now.items in
    let at = c.in_ok-place.ensures.place in
    c.take.ensures.value ∙ kept_at harvests c.in_ok-place.place c.args.number c.index_mut.result.now at.0 (subst (λ xs. c.in_ok-place.place < length xs) c.deref.ensures.value at.1) c.index_mut.ensures.value
