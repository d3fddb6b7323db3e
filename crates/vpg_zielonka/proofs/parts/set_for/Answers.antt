use Rattle.std.proofs.Common.{ℕ, ◌&&◌, ◌∙◌, length, subst, arith}
use Rattle.vpg_zielonka.specs.Universes.{has}
use Rattle.vpg_zielonka.specs.Reached.{flagged}
use Rattle.vpg_zielonka.proofs.Filling.{AreMade, made_part}
use Rattle.vpg_zielonka.proofs.Reachability.{flag_and}
use Rattle.vpg_zielonka.proofs.parts.set_for.Goals as goal

pub returns-clause-each : goal.returns-clause-each
returns-clause-each c p v =
    made_part c.args.sets.now (λ u q. flagged c.args.wanted.now u && has c.args.sets.now c.args.set q)
    (length c.args.wanted.now) c.loop-v.part.items
    (subst (λ (n : ℕ). AreMade c.args.sets.now
    (λ u q. flagged c.args.wanted.now u && has c.args.sets.now c.args.set q) n c.loop-v.part.items)
    (omega (arith, c.loop-v-test.false, c.loop-v.auto.v-end)) c.loop-v.invariant) p v
    ∙ flag_and c.args.wanted.now v (has c.args.sets.now c.args.set p)
