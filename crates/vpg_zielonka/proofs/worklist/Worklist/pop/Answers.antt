use Rattle.std.proofs.Common.{ℕ, List, subst}
use Rattle.vpg_zielonka.specs.Worklists.{IsQueue}
use Rattle.vpg_zielonka.proofs.Waiting.{queue_rest}
use Rattle.vpg_zielonka.proofs.worklist.Worklist.pop.Goals as goal

pub invariant_of-self-2 : goal.invariant_of-self-2
invariant_of-self-2 c = queue_rest c.self.inside.waits.items c.pop_front.new.self.items c.in-Some.v
    (subst (λ (q : List ℕ). IsQueue c.self.inside.waits.items q) c.in-Some.ensures.items c.self.invariant)
