use Rattle.vpg_trail.specs.Page.{Hopeful, Dual}
use Rattle.vpg_desk.proofs.Answering.{shape_told, arena_told, present_is_table, not_settled}
use Rattle.vpg_desk.proofs.desk.Desk.rises.Goals as goal

pub rises_in-requires : goal.rises_in-requires
rises_in-requires c =
    present_is_table c.self.inside c.self.invariant c.args.which Hopeful c.in-Hopeful.is c.shape-shape.result.now c.arena-arena.result.now c.hopeful.result.now
    (shape_told c.self.inside c.self.invariant c.args.which c.deref.result.now c.deref.ensures c.shape-shape.result.now c.shape-shape.ensures)
    (arena_told c.self.inside c.self.invariant c.args.which c.deref-2.result.now c.deref-2.ensures c.arena-arena.result.now c.arena-arena.ensures)
    c.hopeful.ensures

pub returns-in-Hopeful : goal.returns-in-Hopeful
returns-in-Hopeful c t =
    not_settled c.self.inside c.self.invariant c.args.which Hopeful c.in-Hopeful.is c.shape-shape.result.now c.arena-arena.result.now c.hopeful.result.now
    (shape_told c.self.inside c.self.invariant c.args.which c.deref.result.now c.deref.ensures c.shape-shape.result.now c.shape-shape.ensures)
    (arena_told c.self.inside c.self.invariant c.args.which c.deref-2.result.now c.deref-2.ensures c.arena-arena.result.now c.arena-arena.ensures)
    c.hopeful.ensures c.args.self.now c.self.view_is (c.rises_in.ensures t)

pub rises_in-requires-in-Dual : goal.rises_in-requires-in-Dual
rises_in-requires-in-Dual c =
    present_is_table c.self.inside c.self.invariant c.args.which Dual c.in-Dual.is c.shape-shape.result.now c.arena-arena.result.now c.dual.result.now
    (shape_told c.self.inside c.self.invariant c.args.which c.deref.result.now c.deref.ensures c.shape-shape.result.now c.shape-shape.ensures)
    (arena_told c.self.inside c.self.invariant c.args.which c.deref-2.result.now c.deref-2.ensures c.arena-arena.result.now c.arena-arena.ensures)
    c.dual.ensures

pub returns-in-Dual : goal.returns-in-Dual
returns-in-Dual c t =
    not_settled c.self.inside c.self.invariant c.args.which Dual c.in-Dual.is c.shape-shape.result.now c.arena-arena.result.now c.dual.result.now
    (shape_told c.self.inside c.self.invariant c.args.which c.deref.result.now c.deref.ensures c.shape-shape.result.now c.shape-shape.ensures)
    (arena_told c.self.inside c.self.invariant c.args.which c.deref-2.result.now c.deref-2.ensures c.arena-arena.result.now c.arena-arena.ensures)
    c.dual.ensures c.args.self.now c.self.view_is (c.rises_in-in-Dual.ensures t)
