use Rattle.std.proofs.Common.{◌≡◌, ◌+◌, ◌++◌, ◌∷◌, [], ◌∙◌, ◌<◌, List, ℕ, length, map, get_or, sym, ap, arith}
use Rattle.std.proofs.lemmas.List.{map_more, take_all}
use Rattle.vpg_game.specs.Game.{NamedVertex, no_vertex, graph_of}
use Rattle.vpg_game.specs.Guarded.{guarded_priorities}
use Rattle.vpg_measure.proofs.Priorities.{raised_priorities, priority_at, tops_within}
use Rattle.vpg_measure.proofs.shape.priorities.Goals as goal

pub overflow_add-priority : goal.overflow_add-priority
overflow_add-priority c =
    let within : c.loop-v.v < length c.args.game.now.vertices = omega (arith, c.vertices-vertices.ensures.count) in
    omega (arith, c.priority.ensures.value, c.requires, priority_at c.args.game.now c.loop-v.v c.vertices-vertices.ensures.game within)

pub loop-v-preserved : goal.loop-v-preserved
loop-v-preserved c =
    let within : c.loop-v.v < length c.args.game.now.vertices = omega (arith, c.vertices-vertices.ensures.count) in
    c.in_ok-push.ensures.items
    ∙ ap (λ (p : ℕ). c.loop-v.priorities.items ++ (p + c.args.raise) ∷ []) c.priority.ensures.value
    ∙ ap (λ (ps : List ℕ). ps ++ ((get_or c.args.game.now.vertices c.loop-v.v no_vertex).priority + c.args.raise) ∷ []) c.loop-v.invariant
    ∙ sym (map_more (λ (v : NamedVertex). v.priority + c.args.raise) c.args.game.now.vertices c.loop-v.v no_vertex within)

all_raised : (c : goal.After-loop-v) → c.loop-v.priorities.items ≡ map (λ p. p + c.args.raise) (guarded_priorities (graph_of c.args.game.now))
all_raised c =
    c.loop-v.invariant
    ∙ ap (λ vs. map (λ (v : NamedVertex). v.priority + c.args.raise) vs) (take_all c.loop-v.v c.args.game.now.vertices (omega (arith, c.vertices-vertices.ensures.count)))
    ∙ raised_priorities c.args.raise c.args.game.now.vertices

pub returns-clause-priorities : goal.returns-clause-priorities
returns-clause-priorities c = all_raised c

pub returns-clause-limit : goal.returns-clause-limit
returns-clause-limit c = rw (all_raised c) (tops_within c.args.raise c.args.game.now c.requires c.vertices-vertices.ensures.game)
