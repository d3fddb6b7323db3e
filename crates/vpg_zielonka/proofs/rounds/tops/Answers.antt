use Rattle.std.proofs.Common.{◌≡◌, ℕ, false, inl, inr, length, sym, subst, arith}
use Rattle.vpg_game.specs.Game.{graph_of}
use Rattle.vpg_zielonka.specs.declared.subset.Subset.{Subset}
use Rattle.vpg_zielonka.specs.Universes.{IsSetOf}
use Rattle.vpg_zielonka.proofs.Priorities.{top_test, tops_made, tops_more}
use Rattle.vpg_zielonka.proofs.rounds.tops.Goals.{then-priority, else-priority}
use Rattle.vpg_zielonka.proofs.Filling.{AreMade}
use Rattle.vpg_zielonka.proofs.rounds.tops.Goals as goal

pub loop-v-preserved : goal.loop-v-preserved
loop-v-preserved c = tops_more c.args.sets.now (graph_of c.args.game.now) c.args.part.now c.requires c.args.priority
    c.loop-v.v (omega (arith, c.loop-v-test.true, c.vertices-v-end.ensures.graph)) c.loop-v.seeds.items
    c.push.new.list.items c.if-priority.seed c.priority.result c.priority.ensures.graph c.in_ok-push.ensures
    (elim c.if-priority.branch [
      | then-priority w ↦ inl (w.if-priority.true, w.seed-is)
      | else-priority w ↦ inr (
        w.if-priority.false,
        subst (λ (s : Subset). IsSetOf c.args.sets.now (λ p. false) s) (sym w.seed-is) w.none-seed.ensures,
      )
    ]) c.loop-v.invariant

pub returns-clause-tops : goal.returns-clause-tops
returns-clause-tops c = tops_made c.args.sets.now (graph_of c.args.game.now) c.args.part.now c.args.priority
    c.loop-v.seeds.items c.requires
    (subst (λ (n : ℕ). AreMade c.args.sets.now (top_test c.args.sets.now (graph_of c.args.game.now) c.args.part.now c.args.priority) n c.loop-v.seeds.items)
    end c.loop-v.invariant)
  where
    end : c.loop-v.v ≡ length (graph_of c.args.game.now)
    end = omega (arith, c.loop-v-test.false, c.loop-v.auto.v-end, c.vertices-v-end.ensures.graph)
