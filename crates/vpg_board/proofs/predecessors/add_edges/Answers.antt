use Rattle.std.proofs.Common.{ℕ, ◌<◌, length, get_or, ap, subst, sym, ◌∙◌, arith}
use Rattle.std.proofs.lemmas.List.{length_push, get_or_default}
use Rattle.vpg_board.proofs.Chaining.{added_none, added_next}
use Rattle.std.proofs.lemmas.Grind.{common_steps}
use Rattle.vpg_board.proofs.predecessors.add_edges.Goals as goal

pub loop-w-init : goal.loop-w-init
loop-w-init c = added_none c.args.v c.args.last.now.items c.args.edges.now.items c.requires.linked

pub loop-w-preserved : goal.loop-w-preserved
loop-w-preserved c =
    let last = c.loop-w.last.items in
    let edges = c.loop-w.edges.items in
    let pushed = c.in_ok-push.ensures.items in
    let w = get_or c.args.kept.now c.loop-w.w-index 0 in
    let less = c.loop-w-test.true in
    let inside : w < length last =
    subst (λ (n : ℕ). w < n) (sym c.loop-w.invariant.wide) (c.requires.closed c.loop-w.w-index 0 less) in
    let latest = c.index-latest.result.now in
    added_next c.args.v c.args.last.now.items c.args.edges.now.items last edges
    c.args.kept.now c.loop-w.w-index c.push.new.self.items latest c.len.result
    c.loop-w.invariant less inside (c.index-latest.ensures ∙ get_or_default last w latest 0 inside) pushed
    (omega (arith, c.len.ensures, c.push.new.self.ok.0, ap length pushed, length_push edges (c.args.v, latest)))

pub returns-clause-each : goal.returns-clause-each
returns-clause-each c = grind (arith, common_steps)

pub index_mut-requires : goal.index_mut-requires
index_mut-requires c =
    let w = get_or c.args.kept.now c.loop-w.w-index 0 in
    omega (arith, subst (λ (n : ℕ). w < n) (sym c.loop-w.invariant.wide) (c.requires.closed c.loop-w.w-index 0 c.loop-w-test.true), c.loop-w.last.ok.0)

pub returns-clause-linked : goal.returns-clause-linked
returns-clause-linked c = c.loop-w.invariant.linked

pub returns-clause-inside : goal.returns-clause-inside
returns-clause-inside c = c.loop-w.invariant.inside
