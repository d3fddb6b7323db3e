use Rattle.std.proofs.Common.{◌<◌, ℕ, length, All, ap, sym, subst, arith}
use Rattle.vpg_board.proofs.Chaining.{filled_more, filled_all, room_for}
use Rattle.std.proofs.lemmas.Grind.{common_steps}
use Rattle.vpg_board.proofs.predecessors.Chains.of.Goals as goal

pub add_edges-requires-clause-closed : goal.add_edges-requires-clause-closed
add_edges-requires-clause-closed c =
    subst (λ (n : ℕ). All (λ w. w < n) c.kept.result.now) (sym c.vertices.invariant.wide) c.kept.ensures.closed

pub add_edges-requires-clause-room : goal.add_edges-requires-clause-room
add_edges-requires-clause-room c =
    let i = c.vertices in
    let less : i.v < length c.args.arena.now = omega (arith, c.vertices-test.true, c.vertices-v-end.ensures) in
    let room = room_for c.args.arena.now i.v i.last.items i.edges.items i.invariant less in
    omega (arith, c.requires, ap length c.kept.ensures.kept, room)

pub vertices-preserved : goal.vertices-preserved
vertices-preserved c =
    let i = c.vertices in
    let less : i.v < length c.args.arena.now = omega (arith, c.vertices-test.true, c.vertices-v-end.ensures) in
    let added = c.in_ok-add_edges.ensures in
    filled_more c.args.arena.now i.v i.last.items i.edges.items i.invariant less
    c.kept.result.now c.add_edges.new.last.items c.add_edges.new.edges.items c.kept.ensures.kept
    (record {
      linked = added.linked;
      wide = added.wide;
      count = added.count;
      each = added.each;
      inside = added.inside;
    })

pub returns-clause-edges : goal.returns-clause-edges
returns-clause-edges c =
    let i = c.vertices in
    filled_all c.args.arena.now i.v i.last.items i.edges.items i.invariant
    (omega (arith, c.vertices-test.false, c.vertices-v-end.ensures))

pub vertices-init : goal.vertices-init
vertices-init c = grind (arith, common_steps)

pub returns-clause-inside : goal.returns-clause-inside
returns-clause-inside c = c.vertices.invariant.inside
