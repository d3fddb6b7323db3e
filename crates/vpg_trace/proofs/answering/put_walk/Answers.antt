use Rattle.std.proofs.Common.{◌++◌, List, ℕ, ap, ap₂, ◌∙◌}
use Rattle.vpg_guards.specs.declared.tri.Tri.{Tri}
use Rattle.vpg_diagram.specs.DiagramText.{NamedDiagram}
use Rattle.vpg_game.specs.Game.{NamedGame, graph_of}
use Rattle.vpg_why.specs.Moves.{caution_for}
use Rattle.vpg_trace.specs.Answering.{page_of}
use Rattle.vpg_trace.proofs.Told.{on_ok, walk_written}
use Rattle.vpg_trace.proofs.answering.put_walk.Goals as goal

pub returns : goal.returns
returns c =
    on_ok c.put_trace.result _ _
    (λ e. e ∙ ap (λ (t : List ℕ). c.args.out.now.items ++ t)
    (walk_written (page_of c.args.order.now) c.args.behaviour.now (caution_for c.args.games.now.known c.args.mover (graph_of c.args.order.now.game)) c.in_ok-arena.arena c.args.moves.now c.args.vertex c.in_ok-trace.trace.visits.items c.in_ok-trace.trace.is_cut
    c.names.result.now c.actions.result.now c.args.games.now.known c.values.result.now c.source.result.now.states.items c.source.result.now.sets.items c.source.result.now.parts.items c.pairs.result.now.keys
    (c.names.ensures.names ∙ ap (λ (d : NamedDiagram). d.names) (c.deref-2.ensures ∙ c.diagram.ensures.diagram))
    c.actions.ensures
    (c.values.ensures ∙ c.known-known.ensures)
    c.source.ensures.states c.source.ensures.sets c.source.ensures.parts c.pairs.ensures
    (c.in_ok-arena.ensures ∙ ap₂ (λ (k : List Tri) (g : NamedGame). caution_for k c.args.mover (graph_of g)) c.known-known.ensures (c.deref.ensures ∙ c.game.ensures.game))
    c.in_ok-trace.ensures.walk))
    c.put_trace.ensures.ok
