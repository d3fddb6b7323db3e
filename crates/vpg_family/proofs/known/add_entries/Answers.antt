use Rattle.std.proofs.Common.{ℕ, refl}
use Rattle.vpg_formula.specs.EntryCode.{earlier_of}
use Rattle.vpg_game.specs.Game.{vertex_ids}
use Rattle.vpg_family.specs.Called.{entry_calling, entry_callings}
use Rattle.vpg_family.proofs.Rooting.{one_more}
use Rattle.vpg_family.proofs.known.add_entries.Goals as goal

pub loop-n-preserved : goal.loop-n-preserved
loop-n-preserved c =
    let ids = vertex_ids c.args.game.now.vertices in
    one_more (entry_calling ids) (λ (n : ℕ). entry_callings ids (earlier_of c.args.entries.now) c.args.vertices.now n) c.args.entries.now c.args.vertices.now c.loop-n.n c.get.result c.get-in-loop-n.result c.args.callings.now
    c.loop-n.callings c.add_entry.new.callings refl c.get.ensures.lookup c.get-in-loop-n.ensures.lookup c.loop-n.invariant c.in_ok-add_entry.ensures
