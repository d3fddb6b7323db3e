use Rattle.std.proofs.Common.{◌∙◌, List, sym, subst, refl}
use Rattle.vpg_game.specs.declared.levels.Level.{Level}
use Rattle.vpg_measure.specs.Least.{IsLeastTable}
use Rattle.vpg_why.proofs.MovesFound.{are_winning, nothing_found, vertex_there}
use Rattle.vpg_why.proofs.winning.moves_at.Goals as goal
use Rattle.vpg_why.specs.Explained.{choices}

pub played-requires-clause-first : goal.played-requires-clause-first
played-requires-clause-first c =
    vertex_there c.args.order.now.game c.requires.games.is_game c.args.order.now.diagram c.requires.games.is_diagram
    (choices c.args.order.now.decisions) c.args.games.now.known c.requires.games.known c.args.which c.args.vertex
    c.requires.vertex c.args.arena.now c.requires.arena

pub played-requires-clause-moves : goal.played-requires-clause-moves
played-requires-clause-moves c = rw c.deref.ensures.value (rw c.in-Some.is at c.in_ok-moves.ensures.chosen).0

pub returns-in_ok-played-in-Some-clause-found : goal.returns-in_ok-played-in-Some-clause-found
returns-in_ok-played-in-Some-clause-found c =
    are_winning c.args.order.now.game c.requires.games.is_game c.args.order.now.diagram c.requires.games.is_diagram
    (choices c.args.order.now.decisions) c.args.games.now.known c.requires.games.known c.args.which c.args.vertex
    c.requires.vertex c.shape.result.now c.args.arena.now c.args.table.now c.in-Some.moves.items c.in_ok-played-in-Some.played.items
    (c.shape.ensures ∙ c.requires.games.levels c.args.which) c.requires.arena
    (subst (λ (ls : List Level). IsLeastTable ls c.args.arena.now c.args.table.now) (sym c.shape.ensures) c.requires.least)
    (rw c.in-Some.is at c.in_ok-moves.ensures.chosen) (rw c.in-Some.is at c.in_ok-moves.ensures.low)
    (rw c.in-Some.is at c.in_ok-moves.ensures.wins) (rw c.deref.ensures.value at c.in_ok-played-in-Some.ensures)

pub returns-in-None-clause-found : goal.returns-in-None-clause-found
returns-in-None-clause-found c =
    nothing_found c.args.order.now.game c.requires.games.is_game c.args.order.now.diagram c.requires.games.is_diagram
    (choices c.args.order.now.decisions) c.args.games.now.known c.requires.games.known c.args.which c.args.vertex
    c.requires.vertex c.shape.result.now c.args.arena.now c.args.table.now
    (c.shape.ensures ∙ c.requires.games.levels c.args.which) c.requires.arena
    (subst (λ (ls : List Level). IsLeastTable ls c.args.arena.now c.args.table.now) (sym c.shape.ensures) c.requires.least)
    ((rw c.in-None.is at c.in_ok-moves.ensures.top) refl)
