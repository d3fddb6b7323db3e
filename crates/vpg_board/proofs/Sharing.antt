-- A board may be shared between threads, since each of its fields may.
use denote.Builtin.{unit}
use denote.Param.Send.{IsSync, sendable, plain_send, view_sync}
use denote.Param.SendFields.{declared_sync}
use Rattle.std.proofs.Crossing.{crosses, send, sync, frees}
use Rattle.std.specs.contracts.alloc.Global as Global
use Rattle.std.specs.contracts.impls.GlobalAllocator.TheImpl as Heap
use Rattle.atomic_table.proofs.owned.Table.TheSendSync as table
use Rattle.vpg_measure.proofs.Crossing.{order_sync}
use Rattle.vpg_measure.specs.contracts.order.Order as Order
use Rattle.vpg_board.specs.contracts.board.Board as Board
use Rattle.vpg_board.specs.contracts.board.Board.TheInside as Inside
use Rattle.vpg_board.specs.contracts.lifter.Lifter as Lifter
use Rattle.vpg_board.specs.contracts.steps.Keeps as Keeps
use Rattle.vpg_board.specs.contracts.steps.KeepsTableRuleUnitLifterOrder.TheImpl as Rule

pub board_sync : IsSync Board.the_row
board_sync = view_sync Inside.the_row _ _ _ _
    (declared_sync Inside.the_type (order_sync, (search sendable, (table.the_sync unit Lifter.the_row Order.the_row Keeps.the_row Global.the_row Rule.ghosts Heap.ghosts (plain_send _ _ _ _ _) send sync frees, tt))))
