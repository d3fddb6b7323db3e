-- A board by its fields.
use Rattle.std.specs.Prelude.{◌≡◌, ◌+◌}
use Rattle.vpg_measure.specs.Orders.{IsOrder}
use Rattle.vpg_board.specs.declared.board.Board.TheInside.{Inside}
use Rattle.vpg_board.specs.Places.{vertices, places}
use Rattle.vpg_board.specs.Seats.{BoardView}

abbrev pub board_of : Inside → BoardView
board_of fields = record { table = fields.table.shared.table_id; order = fields.order }

pub record AreBoardFields (fields : Inside) : Type 0 where
  pub order : IsOrder fields.order
  pub vertices : fields.vertices ≡ vertices fields.order
  pub key : fields.table.shared.key ≡ fields.order
  pub words : fields.table.shared.table_id.words ≡ places fields.order + 1
  pub slots : fields.table.shared.table_id.slots ≡ 0
