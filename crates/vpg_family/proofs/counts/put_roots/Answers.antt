use Rattle.std.proofs.Common.{ℕ, refl}
use Rattle.vpg_formula.specs.EntryCode.{earlier_of}
use Rattle.vpg_family.specs.Counts.{root_line, root_lines}
use Rattle.vpg_family.proofs.Rooting.{one_more}
use Rattle.vpg_family.proofs.counts.put_roots.Goals as goal

pub loop-n-preserved : goal.loop-n-preserved
loop-n-preserved c =
    one_more root_line (λ (n : ℕ). root_lines (earlier_of c.args.entries.now) c.args.vertices.now n) c.args.entries.now c.args.vertices.now c.loop-n.n c.get.result c.get-in-loop-n.result c.args.out.now.items c.loop-n.out.items
    c.put_root.new.out.items refl c.get.ensures.lookup c.get-in-loop-n.ensures.lookup c.loop-n.invariant c.in_ok-put_root.ensures
