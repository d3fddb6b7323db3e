use Rattle.std.proofs.Common.{ℕ, List, Bool, length, sym, ◌∙◌, ap, subst}
use Rattle.vpg_game.specs.Game.{graph_of}
use Rattle.vpg_zielonka.specs.declared.subset.Subset.{Subset}
use Rattle.vpg_zielonka.specs.Attractors.{IsWithin}
use Rattle.vpg_zielonka.specs.Parts.{game_in, part_in}
use Rattle.vpg_zielonka.specs.Rounds.{IsLiveOrSeed}
use Rattle.vpg_zielonka.specs.Winners.{AreWinners}
use Rattle.vpg_zielonka.proofs.Listing.{edges_grown}
use Rattle.vpg_zielonka.proofs.Rounding.{stuck_inside, stuck_live, stuck_given}
use Rattle.vpg_zielonka.proofs.solving.give_stuck.Goals as goal

pub attracted-requires-clause-edges : goal.attracted-requires-clause-edges
attracted-requires-clause-edges c = edges_grown c.args.sets.now c.stuck.new.sets c.in_ok-seeds.ensures.grown
    (graph_of c.args.game.now) c.args.edges.now.list.items c.args.edges.now.leaving c.args.edges.now.entering
    c.requires.edges

pub attracted-requires-clause-inside : goal.attracted-requires-clause-inside
attracted-requires-clause-inside c = subst (λ (xs : List Subset). (p : List Bool) →
    IsWithin (part_in c.stuck.new.sets xs p) (part_in c.stuck.new.sets c.args.part.now p)) (sym c.deref.ensures.value)
    (stuck_inside c.args.sets.now c.stuck.new.sets c.in_ok-seeds.ensures.grown (graph_of c.args.game.now)
    c.opponent.result c.args.part.now c.in_ok-seeds.seeds.items c.requires.part c.in_ok-seeds.ensures.stuck)

pub attracted-requires-clause-live : goal.attracted-requires-clause-live
attracted-requires-clause-live c = subst (λ (xs : List Subset). (p : List Bool) →
    IsLiveOrSeed (game_in (graph_of c.args.game.now) p) c.args.player (part_in c.stuck.new.sets c.args.part.now p)
    (part_in c.stuck.new.sets xs p)) (sym c.deref.ensures.value)
    (stuck_live c.args.sets.now c.stuck.new.sets c.in_ok-seeds.ensures.grown (graph_of c.args.game.now) c.args.player
    c.opponent.result c.opponent.ensures c.args.part.now c.in_ok-seeds.seeds.items c.requires.part
    c.in_ok-seeds.ensures.stuck)

pub returns-clause-given : goal.returns-clause-given
returns-clause-given c = stuck_given c.args.sets.now c.stuck.new.sets c.attracted.new.sets c.give.new.sets
    c.without.new.sets (graph_of c.args.game.now) c.args.player c.opponent.result c.opponent.ensures c.args.part.now
    c.in_ok-seeds.seeds.items c.in_ok-drawn.drawn.items c.in_ok-without.field-0.items c.deref.result.now
    c.deref-2.result.now c.deref-3.result.now c.deref.ensures.value c.deref-2.ensures.value c.deref-3.ensures.value
    c.args.winners.now c.give.new.self c.in_ok-seeds.ensures.grown c.in_ok-drawn.ensures.grown
    c.in_ok-give.ensures.grown c.in_ok-without.ensures.grown c.requires.part c.in_ok-drawn.ensures.sets
    c.requires.winners
    (subst (λ (n : ℕ). AreWinners c.give.new.sets n c.give.new.self)
    (ap (λ (xs : List Subset). length xs) c.deref-2.ensures.value ∙ c.in_ok-drawn.ensures.sets.count_is)
    c.in_ok-give.ensures.sets)
    c.in_ok-seeds.ensures.stuck c.in_ok-drawn.ensures.attractor c.in_ok-give.ensures.own c.in_ok-give.ensures.others
    c.in_ok-without.ensures.rest
