use Rattle.std.proofs.Common.{◌≡◌, Bool, false, List, length, get_or, sym, ap, ◌∙◌, arith}
use Rattle.std.proofs.lemmas.List.{with_items_is}
use Rattle.vpg_hope.proofs.changes.concerned.Goals as goal

pub mark_all-requires-clause-count : goal.mark_all-requires-clause-count
mark_all-requires-clause-count c = omega (arith, c.deref_mut.ensures.len, c.in_ok-marks.ensures.len, c.vertices-vertices.ensures.graph)

pub mark_all-requires-clause-few : goal.mark_all-requires-clause-few
mark_all-requires-clause-few c = omega (arith, c.requires.before, c.vertices-vertices.ensures.game.few_features)

pub mark_all-requires-clause-same : goal.mark_all-requires-clause-same
mark_all-requires-clause-same c = omega (arith, c.requires.before, c.requires.now)

pub returns-clause-count : goal.returns-clause-count
returns-clause-count c =
    let l : length c.mark_all.new.marks ≡ c.in_ok-marks.marks.len = omega (arith, c.mark_all.ensures.count, c.deref_mut.ensures.len) in
    ap length (with_items_is c.in_ok-marks.marks c.mark_all.new.marks l) ∙ c.mark_all.ensures.count
    ∙ omega (arith, c.deref_mut.ensures.len, c.in_ok-marks.ensures.len, c.vertices-vertices.ensures.graph)

pub returns-clause-still : goal.returns-clause-still
returns-clause-still c v unmarked =
    let l : length c.mark_all.new.marks ≡ c.in_ok-marks.marks.len = omega (arith, c.mark_all.ensures.count, c.deref_mut.ensures.len) in
    c.mark_all.ensures.still v (ap (λ (bs : List Bool). get_or bs v false) (sym (with_items_is c.in_ok-marks.marks c.mark_all.new.marks l)) ∙ unmarked)
