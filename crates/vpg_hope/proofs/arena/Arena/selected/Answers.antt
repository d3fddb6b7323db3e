use Rattle.std.proofs.lemmas.Grind.{common_steps}
use Rattle.std.proofs.Common.{◌≡◌, ℕ, [], ◌+◌, ◌<◌, ◌≤◌, List, ◌++◌, length, length-append, map, refl, sym, ap, ap₂, ◌∙◌, subst, All, arith}
use Rattle.std.proofs.lemmas.List.{length_push, take_all}
use Rattle.std.proofs.lemmas.Result.{IfOk-weaker}
use Rattle.std.proofs.lemmas.List.Elements.{All-push}
use Rattle.vpg_guards.specs.Formula.{Formula, IsBelow}
use Rattle.vpg_sides.specs.declared.player.Player.{Player}
use Rattle.vpg_game.specs.Guarded.{GuardedEdge, GuardedGame}
use Rattle.vpg_game.specs.Game.{graph_of, vertex_in}
use Rattle.vpg_game.proofs.Graphs.{same_count}
use Rattle.vpg_hope.specs.Kept.{features_under, kept_under, owner_under, priority_under}
use Rattle.vpg_hope.specs.Selection.{vertex_under}
use Rattle.vpg_hope.specs.Arena.{InLists}
use Rattle.vpg_hope.proofs.Rows.{ranges_in_shared}
use Rattle.vpg_hope.proofs.Selected.{guards_named, priority_fits, few_more, kept_closed, vertex_made}
use Rattle.vpg_hope.proofs.arena.Arena.selected.Goals as goal

pub push_kept-requires : goal.push_kept-requires
push_kept-requires c =
    subst (λ (es : List (GuardedEdge Formula)). All (λ edge. IsBelow (features_under c.args.selection) edge.guard) es) (sym c.edges.ensures.graph)
    (guards_named c.args.game.now (features_under c.args.selection) c.loop-v.v c.vertices-vertices.ensures.game c.requires (omega (arith, c.loop-v-test.true, c.vertices-vertices.ensures.count)))

pub priority-requires-in-loop-v : goal.priority-requires-in-loop-v
priority-requires-in-loop-v c =
    let less : c.loop-v.v < length c.args.game.now.vertices = omega (arith, c.loop-v-test.true, c.vertices-vertices.ensures.count) in
    omega (arith, c.priority.ensures.value, priority_fits c.args.game.now c.loop-v.v c.vertices-vertices.ensures.game less)

pub overflow_cast-len : goal.overflow_cast-len
overflow_cast-len c =
    let less : c.loop-v.v < length c.args.game.now.vertices = omega (arith, c.loop-v-test.true, c.vertices-vertices.ensures.count) in
    let more = kept_under c.args.selection c.owner-owner.result c.edges.result.now in
    let same = ap (λ (es : List (GuardedEdge Formula)). kept_under c.args.selection c.owner-owner.result es) c.edges.ensures.value in
    let few = few_more c.args.selection c.owner-owner.result c.args.game.now.vertices c.loop-v.successors.items more c.loop-v.v less same c.loop-v.invariant.few in
    omega (arith, c.len.ensures, c.push_kept.new.successors.ok.0, ap length c.in_ok-push_kept.ensures, few, c.vertices-vertices.ensures.game.few_edges)

pub loop-v-preserved : goal.loop-v-preserved
loop-v-preserved c =
    let game = c.args.game.now in
    let v = c.loop-v.v in
    let ss = c.loop-v.successors.items in
    let less : v < length game.vertices = omega (arith, c.loop-v-test.true, c.vertices-vertices.ensures.count) in
    let graph_less : v < length (graph_of game) = omega (arith, same_count game) in
    let more = kept_under c.args.selection (vertex_in (graph_of game) v).owner (vertex_in (graph_of game) v).edges in
    let pushed = c.in_ok-push.ensures.items in
    let same : kept_under c.args.selection c.owner-owner.result c.edges.result.now ≡ more =
    ap₂ (λ (owner : Player) (es : List (GuardedEdge Formula)). kept_under c.args.selection owner es) c.owner-owner.ensures.graph c.edges.ensures.graph in
    let extended : c.push_kept.new.successors.items ≡ ss ++ more = c.in_ok-push_kept.ensures ∙ ap (λ (xs : List ℕ). ss ++ xs) same in
    let whole = ap length extended ∙ length-append ss more in
    let start : c.len-start.result ≡ length ss = omega (arith, c.len-start.ensures, c.loop-v.successors.ok.0) in
    let last : c.len.result ≡ length ss + length more = omega (arith, c.len.ensures, c.push_kept.new.successors.ok.0, whole) in
    record {
      rows = ap length pushed ∙ length_push c.loop-v.rows.items _ ∙ ap (λ n. n + 1) c.loop-v.invariant.rows;
      made = rw (pushed, extended) (vertex_made c.args.selection (graph_of game) c.loop-v.rows.items ss more v c.len-start.result c.len.result c.owner.result c.priority-in-loop-v.result
          c.loop-v.invariant.ranges c.loop-v.invariant.made graph_less
          (c.owner.ensures ∙ ap (λ (owner : Player). owner_under c.args.selection owner) c.owner-owner.ensures.graph)
          (c.priority-in-loop-v.ensures ∙ ap (λ (priority : ℕ). priority_under c.args.selection priority) c.priority.ensures.graph)
          refl start last);
      ranges = rw (pushed, extended) (All-push (InLists (ss ++ more) []) c.loop-v.rows.items _ (ranges_in_shared c.loop-v.rows.items ss more [] c.loop-v.invariant.ranges) (omega arith, omega (arith, length-append ss more)));
      closed = rw extended (kept_closed c.args.selection (vertex_in (graph_of game) v).owner game ss v c.vertices-vertices.ensures.game less c.loop-v.invariant.closed);
      few = rw extended (few_more c.args.selection (vertex_in (graph_of game) v).owner game.vertices ss more v less
          (ap (λ (es : List (GuardedEdge Formula)). kept_under c.args.selection (vertex_in (graph_of game) v).owner es) (sym c.edges.ensures.graph ∙ c.edges.ensures.value)) c.loop-v.invariant.few);
    }

pub returns : goal.returns
returns c =
    let graph = graph_of c.args.game.now in
    let past : length graph ≤ c.loop-v.v = omega (arith, c.loop-v-test.false, c.vertices-vertices.ensures.graph) in
    let made = c.loop-v.invariant.made ∙ ap (λ (xs : GuardedGame Formula). map (vertex_under c.args.selection) xs) (take_all c.loop-v.v graph past) in
    IfOk-weaker c.over.result _ _ (λ arena is. is ∙ made) c.over.ensures

pub priority-requires : goal.priority-requires
priority-requires c = grind (arith, common_steps)

pub edges-requires : goal.edges-requires
edges-requires c = grind (arith, common_steps)

pub owner-owner-requires : goal.owner-owner-requires
owner-owner-requires c = grind (arith, common_steps)

pub loop-v-init : goal.loop-v-init
loop-v-init c = grind (arith, common_steps)

pub overflow_cast-start : goal.overflow_cast-start
overflow_cast-start c = grind (arith, common_steps)

pub overflow_cast-v-end : goal.overflow_cast-v-end
overflow_cast-v-end c = grind (arith, common_steps)
