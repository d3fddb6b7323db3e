use Rattle.std.proofs.Common.{ℕ, List, length, ◌∙◌, ap, subst}
use Rattle.vpg_game.specs.Game.{graph_of}
use Rattle.vpg_zielonka.specs.declared.subset.Subset.{Subset}
use Rattle.vpg_zielonka.specs.Winners.{AreWinners}
use Rattle.vpg_zielonka.proofs.Listing.{edges_grown}
use Rattle.vpg_zielonka.proofs.Rounding.{within_grown, live_grown, live_or_seed, given_away}
use Rattle.vpg_zielonka.proofs.solving.give_away.Goals as goal

pub attracted-requires-clause-edges : goal.attracted-requires-clause-edges
attracted-requires-clause-edges c = edges_grown c.args.sets.now c.occupied.new.sets c.in_ok-some.ensures.grown
    (graph_of c.args.game.now) c.args.edges.now.list.items c.args.edges.now.leaving c.args.edges.now.entering
    c.requires.edges

pub attracted-requires-clause-inside : goal.attracted-requires-clause-inside
attracted-requires-clause-inside c = within_grown c.args.sets.now c.occupied.new.sets c.in_ok-some.ensures.grown
    (length (graph_of c.args.game.now)) c.args.others.now c.args.part.now c.requires.others c.requires.part
    c.requires.inside

pub attracted-requires-clause-live : goal.attracted-requires-clause-live
attracted-requires-clause-live c = live_or_seed c.occupied.new.sets (graph_of c.args.game.now) c.opponent-other.result
    c.args.part.now c.args.others.now
    (live_grown c.args.sets.now c.occupied.new.sets c.in_ok-some.ensures.grown (graph_of c.args.game.now)
    c.args.part.now c.requires.part c.requires.live)

pub returns-clause-given : goal.returns-clause-given
returns-clause-given c = given_away c.args.sets.now c.occupied.new.sets c.attracted.new.sets c.outside.new.sets
    c.give.new.sets c.give-2.new.sets c.within.new.sets c.without.new.sets (graph_of c.args.game.now) c.args.player
    c.opponent-other.result c.opponent-other.ensures c.args.part.now c.args.others.now c.in_ok-drawn.drawn.items
    c.in_ok-done.done.items c.in_ok-on.on.items c.in_ok-without.field-0.items c.deref.result.now c.deref-2.result.now
    c.deref-4.result.now c.deref-3.result.now c.deref.ensures.value c.deref-2.ensures.value c.deref-4.ensures.value
    c.deref-3.ensures.value c.in_ok-some.some c.args.winners.now c.give.new.self c.give-2.new.self
    c.in_ok-some.ensures.grown c.in_ok-drawn.ensures.grown c.in_ok-done.ensures.grown c.in_ok-give.ensures.grown
    c.in_ok-give-2.ensures.grown c.in_ok-on.ensures.grown c.in_ok-without.ensures.grown c.requires.part
    c.requires.others c.in_ok-drawn.ensures.sets c.in_ok-some.ensures.inside c.requires.winners
    (subst (λ (n : ℕ). AreWinners c.give-2.new.sets n c.give-2.new.self)
    (ap (λ (xs : List Subset). length xs) c.deref-2.ensures.value ∙ c.in_ok-drawn.ensures.sets.count_is)
    c.in_ok-give-2.ensures.sets)
    c.in_ok-some.ensures.none c.in_ok-drawn.ensures.attractor c.in_ok-done.ensures.each c.in_ok-give.ensures.own
    c.in_ok-give.ensures.others c.in_ok-give-2.ensures.own c.in_ok-give-2.ensures.others c.in_ok-on.ensures.each
    c.in_ok-without.ensures.rest
