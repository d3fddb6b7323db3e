use Rattle.vpg_winners.proofs.Marking.{numbers_appended}
use Rattle.vpg_winners.proofs.pairing.paired.Goals as goal

pub returns-clause-numbers : goal.returns-clause-numbers
returns-clause-numbers c = λ measure ready.
    let n = c.in_ok-pair_all.ensures.numbers measure ready.additive ready.high ready.low in
    numbers_appended measure c.cut_each.new.parts.items c.pair_all.new.without.items c.append.new.self.items
    c.in_ok-append.ensures.items (c.in_ok-cut_each.ensures.numbers measure n.0) n.1
