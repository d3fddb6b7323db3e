use Rattle.std.proofs.lemmas.Grind.{common_steps}
use Rattle.std.proofs.Common.{◌≡◌, ℕ, [], ◌+◌, ◌<◌, ◌≤◌, false, List, ◌++◌, length, length-append, map, refl, ap, ◌∙◌, arith}
use Rattle.std.proofs.lemmas.List.{length_push, take_all}
use Rattle.std.proofs.lemmas.Result.{IfOk-weaker}
use Rattle.std.proofs.lemmas.List.Elements.{All-push}
use Rattle.vpg_guards.specs.Formula.{Formula}
use Rattle.vpg_features.proofs.Noted.{any_default}
use Rattle.vpg_sides.specs.declared.player.Player.{Player}
use Rattle.vpg_game.specs.Guarded.{GuardedEdge, GuardedGame}
use Rattle.vpg_game.specs.Game.{graph_of, vertex_in}
use Rattle.vpg_game.proofs.Graphs.{same_count, graph_at}
use Rattle.vpg_hope.specs.Kept.{kept_under, owner_under, priority_under}
use Rattle.vpg_hope.specs.Selection.{vertex_under}
use Rattle.vpg_hope.specs.Arena.{Vertex, InLists}
use Rattle.vpg_hope.proofs.Rows.{ranges_in_shared}
use Rattle.vpg_hope.proofs.Selected.{priority_fits, few_more, kept_closed, vertex_made}
use Rattle.vpg_hope.proofs.arena.Arena.gathered.Goals as goal

pub push_held-requires-clause-held : goal.push_held-requires-clause-held
push_held-requires-clause-held c =
    let within : c.loop-v.v < length c.args.marks.now = omega (arith, c.loop-v-test.true, c.vertices-count.ensures.graph, c.requires.marks) in
    λ unmarked. ap (λ (x : Vertex). x.successors)
    (c.requires.held c.loop-v.v (omega (arith, c.loop-v-test.true, c.vertices-count.ensures.graph)) (any_default c.args.marks.now c.loop-v.v false _ within ∙ unmarked))

pub priority-requires-in-loop-v : goal.priority-requires-in-loop-v
priority-requires-in-loop-v c =
    let less : c.loop-v.v < length c.args.game.now.vertices = omega (arith, c.loop-v-test.true, c.vertices-count.ensures.count) in
    omega (arith, c.priority.ensures.value, priority_fits c.args.game.now c.loop-v.v c.vertices-count.ensures.game less)

pub overflow_cast-len : goal.overflow_cast-len
overflow_cast-len c =
    let game = c.args.game.now in
    let v = c.loop-v.v in
    let less : v < length game.vertices = omega (arith, c.loop-v-test.true, c.vertices-count.ensures.count) in
    let owner = (vertex_in (graph_of game) v).owner in
    let more = kept_under c.args.selection owner (vertex_in (graph_of game) v).edges in
    let same = ap (λ (es : List (GuardedEdge Formula)). kept_under c.args.selection owner es) (ap (λ x. x.edges) (graph_at game.vertices v)) in
    let few = few_more c.args.selection owner game.vertices c.loop-v.successors.items more v less same c.loop-v.invariant.few in
    omega (arith, c.len.ensures, c.push_held.new.successors.ok.0, ap length c.in_ok-push_held.ensures, few, c.vertices-count.ensures.game.few_edges)

pub loop-v-preserved : goal.loop-v-preserved
loop-v-preserved c =
    let game = c.args.game.now in
    let v = c.loop-v.v in
    let ss = c.loop-v.successors.items in
    let less : v < length game.vertices = omega (arith, c.loop-v-test.true, c.vertices-count.ensures.count) in
    let graph_less : v < length (graph_of game) = omega (arith, same_count game) in
    let vertex_owner = (vertex_in (graph_of game) v).owner in
    let more = kept_under c.args.selection vertex_owner (vertex_in (graph_of game) v).edges in
    let pushed = c.in_ok-push.ensures.items in
    let extended : c.push_held.new.successors.items ≡ ss ++ more = c.in_ok-push_held.ensures in
    let whole = ap length extended ∙ length-append ss more in
    let start : c.len-start.result ≡ length ss = omega (arith, c.len-start.ensures, c.loop-v.successors.ok.0) in
    let last : c.len.result ≡ length ss + length more = omega (arith, c.len.ensures, c.push_held.new.successors.ok.0, whole) in
    record {
      rows = ap length pushed ∙ length_push c.loop-v.rows.items _ ∙ ap (λ n. n + 1) c.loop-v.invariant.rows;
      made = rw (pushed, extended) (vertex_made c.args.selection (graph_of game) c.loop-v.rows.items ss more v c.len-start.result c.len.result c.owner-in-loop-v.result c.priority-in-loop-v.result
          c.loop-v.invariant.ranges c.loop-v.invariant.made graph_less
          (c.owner-in-loop-v.ensures ∙ ap (λ (owner : Player). owner_under c.args.selection owner) c.owner.ensures.graph)
          (c.priority-in-loop-v.ensures ∙ ap (λ (priority : ℕ). priority_under c.args.selection priority) c.priority.ensures.graph)
          refl start last);
      ranges = rw (pushed, extended) (All-push (InLists (ss ++ more) []) c.loop-v.rows.items _ (ranges_in_shared c.loop-v.rows.items ss more [] c.loop-v.invariant.ranges) (omega arith, omega (arith, length-append ss more)));
      closed = rw extended (kept_closed c.args.selection vertex_owner game ss v c.vertices-count.ensures.game less c.loop-v.invariant.closed);
      few = rw extended (few_more c.args.selection vertex_owner game.vertices ss more v less
          (ap (λ (es : List (GuardedEdge Formula)). kept_under c.args.selection vertex_owner es) (ap (λ x. x.edges) (graph_at game.vertices v))) c.loop-v.invariant.few);
    }

pub returns : goal.returns
returns c =
    let graph = graph_of c.args.game.now in
    let past : length graph ≤ c.loop-v.v = omega (arith, c.loop-v-test.false, c.vertices-count.ensures.graph) in
    let made = c.loop-v.invariant.made ∙ ap (λ (xs : GuardedGame Formula). map (vertex_under c.args.selection) xs) (take_all c.loop-v.v graph past) in
    IfOk-weaker c.over.result _ _ (λ arena is. is ∙ made) c.over.ensures

pub over-requires : goal.over-requires
over-requires c = grind (arith, common_steps)

pub push_held-requires-clause-count : goal.push_held-requires-clause-count
push_held-requires-clause-count c = grind (arith, common_steps)

pub priority-requires : goal.priority-requires
priority-requires c = grind (arith, common_steps)

pub owner-requires : goal.owner-requires
owner-requires c = grind (arith, common_steps)

pub push_held-requires-clause-vertex : goal.push_held-requires-clause-vertex
push_held-requires-clause-vertex c = grind (arith, common_steps)

pub push_held-requires-clause-features : goal.push_held-requires-clause-features
push_held-requires-clause-features c = grind (arith, common_steps)

pub bounds-marks-v : goal.bounds-marks-v
bounds-marks-v c = grind (arith, common_steps)

pub loop-v-init : goal.loop-v-init
loop-v-init c = grind (arith, common_steps)

pub returns-in_err-push : goal.returns-in_err-push
returns-in_err-push c = grind (arith, common_steps)

pub overflow_cast-v : goal.overflow_cast-v
overflow_cast-v c = grind (arith, common_steps)

pub overflow_cast-start : goal.overflow_cast-start
overflow_cast-start c = grind (arith, common_steps)

pub overflow_cast-v-end : goal.overflow_cast-v-end
overflow_cast-v-end c = grind (arith, common_steps)
