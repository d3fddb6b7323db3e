use Rattle.std.proofs.Common.{◌≡◌, ℕ, List, Bool, ◌&&◌, length, ◌∙◌, ap, subst}
use Rattle.vpg_game.specs.Game.{graph_of}
use Rattle.vpg_zielonka.specs.declared.subset.Subset.{Subset}
use Rattle.vpg_zielonka.specs.Universes.{has}
use Rattle.vpg_zielonka.proofs.Growing.{grown_then}
use Rattle.vpg_zielonka.specs.Parts.{AreSets, part_in}
use Rattle.vpg_zielonka.specs.Reached.{flagged}
use Rattle.vpg_zielonka.specs.Winners.{AreWinners}
use Rattle.vpg_zielonka.proofs.Listing.{edges_grown}
use Rattle.vpg_zielonka.proofs.Finishing.{all_below, rest_live, both_given, all_solved}
use Rattle.vpg_zielonka.proofs.solving.solve_from.Goals as goal

pub give_stuck-requires-2-clause-edges : goal.give_stuck-requires-2-clause-edges
give_stuck-requires-2-clause-edges c = edges_grown c.of.new.sets c.give_stuck.new.sets c.in_ok-part.ensures.grown
    (graph_of c.args.game.now) c.in_ok-edges.edges.list.items c.in_ok-edges.edges.leaving c.in_ok-edges.edges.entering
    c.in_ok-edges.ensures.edges

pub solve_part-requires-clause-edges : goal.solve_part-requires-clause-edges
solve_part-requires-clause-edges c = edges_grown c.of.new.sets c.give_stuck-2.new.sets
    (grown_then c.of.new.sets c.give_stuck.new.sets c.give_stuck-2.new.sets c.in_ok-part.ensures.grown
    c.in_ok-part-2.ensures.grown)
    (graph_of c.args.game.now) c.in_ok-edges.edges.list.items c.in_ok-edges.edges.leaving c.in_ok-edges.edges.entering
    c.in_ok-edges.ensures.edges

pub solve_part-requires-clause-live : goal.solve_part-requires-clause-live
solve_part-requires-clause-live c = rest_live (graph_of c.args.game.now) c.of.new.sets c.give_stuck.new.sets
    c.give_stuck-2.new.sets c.in_ok-all.all.items c.deref-2.result.now c.in_ok-part.part.items c.deref-3.result.now
    c.in_ok-part-2.part.items c.deref-2.ensures.value c.deref-3.ensures.value c.in_ok-winners.winners
    c.give_stuck.new.winners c.give_stuck-2.new.winners c.in_ok-part.ensures.given c.in_ok-part-2.ensures.given

pub solve_part-requires-clause-below : goal.solve_part-requires-clause-below
solve_part-requires-clause-below c = all_below c.args.game.now c.vertices.ensures.game c.give_stuck-2.new.sets
    c.in_ok-part-2.part.items c.in_ok-part-2.ensures.sets

pub returns-clause-divided : goal.returns-clause-divided
returns-clause-divided c = all_solved (graph_of c.args.game.now) c.of.new.sets c.give_stuck.new.sets
    c.give_stuck-2.new.sets c.in_ok-all.all.items c.deref-2.result.now c.in_ok-part.part.items c.deref-3.result.now
    c.in_ok-part-2.part.items c.deref-2.ensures.value c.deref-3.ensures.value c.in_ok-winners.winners
    c.give_stuck.new.winners c.give_stuck-2.new.winners c.in_ok-part.ensures.given c.in_ok-part-2.ensures.given
    c.args.sets.now c.solve_part.new.sets
    c.give-2.new.sets c.args.products c.requires.products c.in_ok-edges.ensures.grown
    (grown_then c.of.new.sets c.give.new.sets c.give-2.new.sets
    (grown_then c.of.new.sets c.solve_part.new.sets c.give.new.sets
    (grown_then c.of.new.sets c.give_stuck-2.new.sets c.solve_part.new.sets
    (grown_then c.of.new.sets c.give_stuck.new.sets c.give_stuck-2.new.sets c.in_ok-part.ensures.grown
    c.in_ok-part-2.ensures.grown) c.in_ok-solved.ensures.grown) c.in_ok-give.ensures.grown)
    c.in_ok-give-2.ensures.grown) c.in_ok-solved.solved c.give-2.new.self
    (subst (λ (n : ℕ). AreSets c.of.new.sets n c.in_ok-all.all.items)
    (ap (λ (xs : List Bool). length xs) c.deref.ensures.value ∙ c.in_ok-found.ensures.count)
    c.in_ok-all.ensures.sets)
    (flagged c.in_ok-found.found.items) c.in_ok-found.ensures.closed
    (subst (λ (xs : List Bool). (p : List Bool) (v : ℕ) →
    part_in c.of.new.sets c.in_ok-all.all.items p v ≡ (flagged xs v && has c.of.new.sets c.args.products p))
    c.deref.ensures.value c.in_ok-all.ensures.each)
    c.in_ok-winners.ensures.nothing c.in_ok-solved.ensures.solution
    (both_given c.give_stuck-2.new.sets c.solve_part.new.sets c.give.new.sets c.give-2.new.sets
    (length (graph_of c.args.game.now)) c.give_stuck-2.new.winners c.give.new.self c.give-2.new.self
    c.in_ok-solved.solved c.in_ok-solved.ensures.grown c.in_ok-give.ensures.grown c.in_ok-part-2.ensures.winners
    c.in_ok-solved.ensures.sets c.deref-4.result.now c.deref-5.result.now c.deref-4.ensures.value
    c.deref-5.ensures.value c.in_ok-give.ensures.own c.in_ok-give.ensures.others c.in_ok-give-2.ensures.own
    c.in_ok-give-2.ensures.others) (subst (λ (n : ℕ). AreWinners c.give-2.new.sets n c.give-2.new.self)
    (ap (λ (xs : List Subset). length xs) c.deref-5.ensures.value ∙ c.in_ok-solved.ensures.sets.lost.count_is)
    c.in_ok-give-2.ensures.sets) c.args.vertex c.requires.vertex c.in_ok-found.ensures.vertex
    c.at.result c.at.ensures.won c.at.ensures.lost
