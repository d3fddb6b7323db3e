use Rattle.std.proofs.Common.{◌≡◌, List, ℕ, ap₂, ◌∙◌}
use Rattle.vpg_guards.specs.declared.tri.Tri.{Tri}
use Rattle.vpg_game.specs.Game.{NamedGame, graph_of}
use Rattle.vpg_why.specs.Moves.{caution_for}
use Rattle.vpg_trace.specs.Answering.{page_of, walk_along}
use Rattle.vpg_steps.specs.Steps.{trail_of, trail_over}
use Rattle.vpg_steps.proofs.Paths.{ok_to, trail_told}
use Rattle.vpg_system_draw.specs.Traced.{Trail}
use Rattle.vpg_steps.proofs.tracing.walked.Goals as goal

pub returns : goal.returns
returns c =
    ok_to
    (λ (path : Trail). path ≡ trail_over c.values.result.now c.source.result.now.states.items c.source.result.now.sets.items c.source.result.now.parts.items c.pairs.result.now.keys c.deref-2.result.now)
    (λ (path : Trail). path ≡ trail_of c.args.games.now.known c.args.behaviour.now (walk_along (page_of c.args.order.now) c.args.games.now.known c.args.mover c.args.vertex c.args.moves.now).visits) c.path_of.result
    (λ path e. e ∙
    trail_told c.args.behaviour.now (caution_for c.args.games.now.known c.args.mover (graph_of c.args.order.now.game)) c.in_ok-arena.arena c.args.moves.now c.args.vertex c.in_ok-trace.trace.visits.items c.deref-2.result.now c.in_ok-trace.trace.is_cut
    c.values.result.now c.args.games.now.known c.source.result.now.states.items c.source.result.now.sets.items c.source.result.now.parts.items c.pairs.result.now.keys
    (c.values.ensures ∙ c.known-known.ensures)
    c.source.ensures.states c.source.ensures.sets c.source.ensures.parts c.pairs.ensures
    (c.in_ok-arena.ensures ∙ ap₂ (λ (k : List Tri) (g : NamedGame). caution_for k c.args.mover (graph_of g)) c.known-known.ensures (c.deref.ensures ∙ c.game.ensures.game))
    c.deref-2.ensures.value c.in_ok-trace.ensures.walk)
    c.path_of.ensures
