use Rattle.std.proofs.Common.{◌≡◌, ◌<◌, ◌≤◌, ◌-◌, ◌⊎◌, ℕ, inl, inr, length, sym, subst, arith}
use Rattle.vpg_board.proofs.Chaining.{chain_none, chain_here}
use Rattle.vpg_board.proofs.predecessors.Chains.edge_before.Goals.{then-place-eq0-via-then-place-eq0}
use Rattle.vpg_board.proofs.predecessors.Chains.edge_before.Goals.{then-place-eq0-via-else-place-eq0+then-place-len}
use Rattle.vpg_board.proofs.predecessors.Chains.edge_before.Goals as goal

pub returns-then-place-eq0-clause-chain : goal.returns-then-place-eq0-clause-chain
returns-then-place-eq0-clause-chain c =
    let edges = c.args.self.now.edges in
    let none : (c.args.place ≡ 0) ⊎ (length edges.items < c.args.place) = elim c.then-place-eq0.branch [
      | then-place-eq0-via-then-place-eq0 w ↦ inl w.if-place-eq0.true
      | then-place-eq0-via-else-place-eq0+then-place-len w ↦
          inr (omega (arith, w.if-place-len.true, w.len.ensures, edges.ok.0))
    ] in
    chain_none edges.items c.args.place none

pub returns-clause-chain : goal.returns-clause-chain
returns-clause-chain c =
    let edges = c.args.self.now.edges in
    let some : 0 < c.args.place = omega (arith, c.if-place-eq0.false) in
    let within : c.args.place ≤ length edges.items = omega (arith, c.if-place-len.false, c.len.ensures, edges.ok.0) in
    chain_here edges.items c.args.place c.index.result.now c.args.self.now.linked.back some within c.index.ensures

pub returns-clause-inside : goal.returns-clause-inside
returns-clause-inside c = λ n all.
    let edges = c.args.self.now.edges in
    let some : 0 < c.args.place = omega (arith, c.if-place-eq0.false) in
    let within : c.args.place - 1 < length edges.items = omega (arith, c.if-place-len.false, c.len.ensures, edges.ok.0) in
    subst (λ (e : ℕ × ℕ). e.0 < n) (sym c.index.ensures) (all (c.args.place - 1) c.index.result.now within)
