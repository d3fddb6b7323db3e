use Rattle.vpg_board.proofs.Lone.{rises_one, lifted_one}
use Rattle.std.proofs.Common.{ℕ, subst}
use Rattle.vpg_board.specs.Chains.{LeadFrom}
use Rattle.vpg_board.proofs.alone.raise_and_hint.Goals as goal

pub returns-then-raise-clause-rises : goal.returns-then-raise-clause-rises
returns-then-raise-clause-rises g c =
    let r = c.raise.ensures in rises_one c.args.harvest.now c.raise.new.self c.args.which c.args.v r.harvests.0 r.harvests.1 r.order r.raised r.other

pub returns-then-raise-clause-lifted : goal.returns-then-raise-clause-lifted
returns-then-raise-clause-lifted g c =
    let r = c.raise.ensures in lifted_one c.args.harvest.now c.raise.new.self c.args.which c.args.v r.harvests.0 c.requires.vertex r.raised

pub returns-else-raise-clause-rises : goal.returns-else-raise-clause-rises
returns-else-raise-clause-rises g c =
    let r = c.raise.ensures in rises_one c.args.harvest.now c.raise.new.self c.args.which c.args.v r.harvests.0 r.harvests.1 r.order r.raised r.other

pub returns-else-raise-clause-lifted : goal.returns-else-raise-clause-lifted
returns-else-raise-clause-lifted g c =
    let r = c.raise.ensures in lifted_one c.args.harvest.now c.raise.new.self c.args.which c.args.v r.harvests.0 c.requires.vertex r.raised

pub give_all-requires : goal.give_all-requires
give_all-requires g c = subst (λ (n : ℕ). LeadFrom n c.in_game.result.now.edges.items) c.requires.predecessors c.in_game.ensures.inside
