use Rattle.std.proofs.Common.{subst}
use Rattle.vpg_trail.specs.Page.{Hopeful, Dual}
use Rattle.vpg_desk.specs.Headline.{Tells}
use Rattle.vpg_desk.specs.State.{DeskState, setting_of}
use Rattle.vpg_desk.proofs.Answering.{tells, shape_told, arena_told, present_is_table, settled_told}
use Rattle.vpg_desk.proofs.desk.Desk.is_settled.Goals as goal

pub is_progress-requires : goal.is_progress-requires
is_progress-requires c =
    present_is_table c.self.inside c.self.invariant c.args.which Hopeful c.in-Hopeful.is c.shape-shape.result.now c.arena-arena.result.now c.hopeful.result.now
    (shape_told c.self.inside c.self.invariant c.args.which c.deref.result.now c.deref.ensures c.shape-shape.result.now c.shape-shape.ensures)
    (arena_told c.self.inside c.self.invariant c.args.which c.deref-2.result.now c.deref-2.ensures c.arena-arena.result.now c.arena-arena.ensures)
    c.hopeful.ensures

pub returns-in-Hopeful-clause-settled : goal.returns-in-Hopeful-clause-settled
returns-in-Hopeful-clause-settled c =
    settled_told c.self.inside c.self.invariant c.args.which Hopeful c.in-Hopeful.is c.shape-shape.result.now c.arena-arena.result.now c.hopeful.result.now
    (shape_told c.self.inside c.self.invariant c.args.which c.deref.result.now c.deref.ensures c.shape-shape.result.now c.shape-shape.ensures)
    (arena_told c.self.inside c.self.invariant c.args.which c.deref-2.result.now c.deref-2.ensures c.arena-arena.result.now c.arena-arena.ensures)
    c.hopeful.ensures c.args.self.now c.self.view_is c.is_progress.result c.is_progress.ensures

pub is_progress-requires-in-Dual : goal.is_progress-requires-in-Dual
is_progress-requires-in-Dual c =
    present_is_table c.self.inside c.self.invariant c.args.which Dual c.in-Dual.is c.shape-shape.result.now c.arena-arena.result.now c.dual.result.now
    (shape_told c.self.inside c.self.invariant c.args.which c.deref.result.now c.deref.ensures c.shape-shape.result.now c.shape-shape.ensures)
    (arena_told c.self.inside c.self.invariant c.args.which c.deref-2.result.now c.deref-2.ensures c.arena-arena.result.now c.arena-arena.ensures)
    c.dual.ensures

pub returns-in-Dual-clause-settled : goal.returns-in-Dual-clause-settled
returns-in-Dual-clause-settled c =
    settled_told c.self.inside c.self.invariant c.args.which Dual c.in-Dual.is c.shape-shape.result.now c.arena-arena.result.now c.dual.result.now
    (shape_told c.self.inside c.self.invariant c.args.which c.deref.result.now c.deref.ensures c.shape-shape.result.now c.shape-shape.ensures)
    (arena_told c.self.inside c.self.invariant c.args.which c.deref-2.result.now c.deref-2.ensures c.arena-arena.result.now c.arena-arena.ensures)
    c.dual.ensures c.args.self.now c.self.view_is c.is_progress-in-Dual.result c.is_progress-in-Dual.ensures

pub returns-in-Hopeful-clause-tells : goal.returns-in-Hopeful-clause-tells
returns-in-Hopeful-clause-tells c = subst (λ (s : DeskState). Tells (setting_of s) s.book.present) c.self.view_is (tells c.self.inside c.self.invariant)

pub returns-in-Dual-clause-tells : goal.returns-in-Dual-clause-tells
returns-in-Dual-clause-tells c = subst (λ (s : DeskState). Tells (setting_of s) s.book.present) c.self.view_is (tells c.self.inside c.self.invariant)
