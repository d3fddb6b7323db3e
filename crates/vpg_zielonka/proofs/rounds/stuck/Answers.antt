use Rattle.std.proofs.Common.{◌≡◌, ◌∙◌, ◌++◌, ◌∷◌, [], ℕ, List, Bool, false, length, sym, ap, subst, arith}
use Rattle.vpg_game.specs.Game.{graph_of}
use Rattle.vpg_zielonka.specs.declared.subset.Subset.{Subset}
use Rattle.vpg_zielonka.specs.Parts.{part_in}
use Rattle.vpg_zielonka.proofs.Filling.{part_grown}
use Rattle.vpg_zielonka.proofs.Giving.{part_nothing}
use Rattle.vpg_zielonka.proofs.Listing.{edges_grown}
use Rattle.vpg_zielonka.proofs.Players.{player_same, player_other}
use Rattle.vpg_zielonka.proofs.StuckSets.{AreStuckUpTo, stuck_confined, stuck_passed, stuck_all}
use Rattle.vpg_zielonka.proofs.Growing.{grown_then}
use Rattle.vpg_zielonka.proofs.rounds.stuck.Goals.{then-eq+in_ok-seed, else-eq}
use Rattle.vpg_zielonka.proofs.rounds.stuck.Goals as goal

pub confined-requires-clause-edges : goal.confined-requires-clause-edges
confined-requires-clause-edges c = edges_grown c.args.sets.now c.loop-v.sets c.loop-v.invariant.0
    (graph_of c.args.game.now) c.args.edges.now.list.items c.args.edges.now.leaving c.args.edges.now.entering
    c.requires.edges

nothing : (c : goal.In_ok-push) (p : List Bool) (v : ℕ) → part_in c.loop-v.sets c.in_ok-nothing.nothing.items p v ≡ false
nothing c p v =
    part_grown c.args.sets.now c.loop-v.sets c.loop-v.invariant.0 (length c.args.part.now)
    c.in_ok-nothing.nothing.items c.in_ok-nothing.ensures.sets p v
    ∙ part_nothing c.args.sets.now c.none.result (length c.args.part.now) c.in_ok-nothing.nothing.items
    c.in_ok-nothing.ensures.sets c.in_ok-nothing.ensures.each c.none.ensures.each p v

pub loop-v-preserved : goal.loop-v-preserved
loop-v-preserved c = elim c.if-eq.branch [
  | then-eq+in_ok-seed w ↦ rw (w.sets-is) (stuck_confined c.args.sets.now (graph_of c.args.game.now) c.args.player
      c.args.part.now c.requires.part c.loop-v.v (omega (arith, c.loop-v-test.true, c.vertices-v-end.ensures.graph))
      c.loop-v.sets c.loop-v.invariant.0 c.loop-v.seeds.items c.push.new.list.items w.in_ok-seed.seed
      (c.in_ok-push.ensures ∙ ap (λ (s : Subset). c.loop-v.seeds.items ++ s ∷ []) w.seed-is) c.loop-v.invariant.1
      (sym c.owner.ensures.graph ∙ player_same c.owner.result c.args.player w.if-eq.ensures) w.confined.new.sets
      w.in_ok-seed.ensures.grown w.in_ok-seed.ensures.inside w.deref.result.now
      (λ p v. ap (λ (xs : List Subset). part_in c.loop-v.sets xs p v) w.deref.ensures.value ∙ nothing c p v)
      w.in_ok-seed.ensures.confined)
  | else-eq w ↦ rw (w.sets-is) (stuck_passed c.args.sets.now (graph_of c.args.game.now) c.args.player c.args.part.now
      c.requires.part c.loop-v.v (omega (arith, c.loop-v-test.true, c.vertices-v-end.ensures.graph)) c.loop-v.sets
      c.loop-v.invariant.0 c.loop-v.seeds.items c.push.new.list.items w.none-seed.result
      (c.in_ok-push.ensures ∙ ap (λ (s : Subset). c.loop-v.seeds.items ++ s ∷ []) w.seed-is) c.loop-v.invariant.1
      (λ own. player_other c.owner.result c.args.player w.if-eq.ensures (c.owner.ensures.graph ∙ own))
      w.none-seed.ensures)
]

pub returns-clause-stuck : goal.returns-clause-stuck
returns-clause-stuck c = stuck_all c.args.sets.now (graph_of c.args.game.now) c.args.player c.args.part.now
    c.loop-v.sets c.loop-v.seeds.items c.requires.part
    (subst (λ (n : ℕ). AreStuckUpTo c.args.sets.now (graph_of c.args.game.now) c.args.player c.args.part.now
    c.loop-v.sets n c.loop-v.seeds.items) end c.loop-v.invariant.1)
  where
    end : c.loop-v.v ≡ length (graph_of c.args.game.now)
    end = omega (arith, c.loop-v-test.false, c.loop-v.auto.v-end, c.vertices-v-end.ensures.graph)

pub returns-in_err-push-clause-grown : goal.returns-in_err-push-clause-grown
returns-in_err-push-clause-grown c = elim c.if-eq.branch [
  | then-eq+in_ok-seed w ↦ rw (w.sets-is) (grown_then c.args.sets.now c.loop-v.sets w.confined.new.sets
      c.loop-v.invariant.0 w.in_ok-seed.ensures.grown)
  | else-eq w ↦ rw (w.sets-is) c.loop-v.invariant.0
]
