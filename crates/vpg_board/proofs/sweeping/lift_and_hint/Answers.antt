use Rattle.std.proofs.Common.{ℕ, subst}
use Rattle.vpg_board.specs.Chains.{LeadFrom}
use Rattle.vpg_board.proofs.sweeping.lift_and_hint.Goals as goal

pub give_all-requires : goal.give_all-requires
give_all-requires g c = subst (λ (n : ℕ). LeadFrom n c.in_game.result.now.edges.items) c.requires.predecessors c.in_game.ensures.inside
