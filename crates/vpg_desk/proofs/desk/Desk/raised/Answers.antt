use Rattle.std.specs.Prelude.{IsNone}
use Rattle.vpg_trail.specs.Page.{Hopeful, Dual}
use Rattle.vpg_desk.proofs.Answering.{shape_told, arena_told, present_is_table, tells_settled}
use Rattle.vpg_desk.proofs.desk.Desk.raised.Goals as goal

pub first_raised-requires : goal.first_raised-requires
first_raised-requires c =
    present_is_table c.self.inside c.self.invariant c.args.which Hopeful c.in-Hopeful.is c.shape-shape.result.now c.arena-arena.result.now c.hopeful.result.now
    (shape_told c.self.inside c.self.invariant c.args.which c.deref.result.now c.deref.ensures c.shape-shape.result.now c.shape-shape.ensures)
    (arena_told c.self.inside c.self.invariant c.args.which c.deref-2.result.now c.deref-2.ensures c.arena-arena.result.now c.arena-arena.ensures)
    c.hopeful.ensures

pub returns-in-Hopeful : goal.returns-in-Hopeful
returns-in-Hopeful c =
    tells_settled c.self.inside c.self.invariant c.args.which Hopeful c.in-Hopeful.is c.shape-shape.result.now c.arena-arena.result.now c.hopeful.result.now
    (shape_told c.self.inside c.self.invariant c.args.which c.deref.result.now c.deref.ensures c.shape-shape.result.now c.shape-shape.ensures)
    (arena_told c.self.inside c.self.invariant c.args.which c.deref-2.result.now c.deref-2.ensures c.arena-arena.result.now c.arena-arena.ensures)
    c.hopeful.ensures c.args.self.now c.self.view_is (IsNone c.first_raised.result) c.first_raised.ensures

pub first_raised-requires-in-Dual : goal.first_raised-requires-in-Dual
first_raised-requires-in-Dual c =
    present_is_table c.self.inside c.self.invariant c.args.which Dual c.in-Dual.is c.shape-shape.result.now c.arena-arena.result.now c.dual.result.now
    (shape_told c.self.inside c.self.invariant c.args.which c.deref.result.now c.deref.ensures c.shape-shape.result.now c.shape-shape.ensures)
    (arena_told c.self.inside c.self.invariant c.args.which c.deref-2.result.now c.deref-2.ensures c.arena-arena.result.now c.arena-arena.ensures)
    c.dual.ensures

pub returns-in-Dual : goal.returns-in-Dual
returns-in-Dual c =
    tells_settled c.self.inside c.self.invariant c.args.which Dual c.in-Dual.is c.shape-shape.result.now c.arena-arena.result.now c.dual.result.now
    (shape_told c.self.inside c.self.invariant c.args.which c.deref.result.now c.deref.ensures c.shape-shape.result.now c.shape-shape.ensures)
    (arena_told c.self.inside c.self.invariant c.args.which c.deref-2.result.now c.deref-2.ensures c.arena-arena.result.now c.arena-arena.ensures)
    c.dual.ensures c.args.self.now c.self.view_is (IsNone c.first_raised-in-Dual.result) c.first_raised-in-Dual.ensures
