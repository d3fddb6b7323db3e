use Rattle.std.proofs.Common.{ℕ, ap₂}
use Rattle.vpg_sides.specs.declared.which.Which.{Which}
use Rattle.vpg_trace.specs.Answering.{head_line}
use Rattle.vpg_trace.proofs.Told.{on_ok, walk_told}
use Rattle.vpg_trace.proofs.answering.put_won.Goals as goal

pub returns : goal.returns
returns c =
    on_ok c.put_walk.result _ _
    (walk_told c.args.order.now c.args.behaviour.now c.args.vertex c.args.beside.now c.args.out.now.items
    c.put_walk.new.out.items c.args.mover c.args.moves.now c.deref.result.now.known (head_line c.other_table.result c.identifier.result c.args.beside.now) c.put_head.new.out.items (rw c.deref.ensures c.games.ensures.known)
    (ap₂ (λ (w : Which) (n : ℕ). head_line w n c.args.beside.now) c.other_table.ensures c.identifier.ensures) c.in_ok-put_head.ensures) c.put_walk.ensures
