-- Threads may share the counter, since what lies on it may go from one to another. That is shown part by part: a search
-- through all parts at once meets its limit.
use denote.RattleType.{RattleType}
use denote.Param.Send.{IsSend, IsSync, sendable}
use Rattle.std.proofs.Crossing.{crosses}
use Rattle.std.proofs.sync.ledger.Share.TheSendSync.{the_send as share_send}
use Rattle.std.specs.declared.sync.ledger.Ledger as ledger
use Rattle.vpg_desk.proofs.Crossing.{game_send, game_sync}
use Rattle.vpg_desk.specs.contracts.token.Redoing as Redoing
use Rattle.vpg_desk.specs.contracts.token.Token as Given
use Rattle.vpg_desk.specs.contracts.token.Undoing as Undoing
use Rattle.vpg_diagram.proofs.Crossing.{diagram_send, diagram_sync}
use Rattle.vpg_measure.proofs.games.PageGames.TheSendSync.{the_send as games_send, the_sync as games_sync}
use Rattle.vpg_measure.specs.contracts.harvest.Harvest as Harvest
use Rattle.vpg_measure.specs.contracts.order.Order as Order
use Rattle.vpg_office.proofs.front.Front.TheSendSync.{the_send as front_send}
use Rattle.vpg_office.specs.contracts.kind.RedoKind.TheImpl as redo_kind
use Rattle.vpg_office.specs.contracts.kind.UndoKind.TheImpl as undo_kind
use Rattle.vpg_office.specs.contracts.token.Token as Held
use Rattle.vpg_office.specs.declared.terms.Terms as terms
use Rattle.vpg_play.specs.contracts.counter.Counter as Counter
use Rattle.vpg_play.specs.contracts.tokens.Token as Token

order_send : IsSend Order.the_row
order_send = search (game_send, game_sync, diagram_send, diagram_sync, games_send, games_sync, sendable, crosses) depth 40

harvest_send : IsSend Harvest.the_row
harvest_send = search (order_send, sendable, crosses) depth 20

module _ (L : RattleType) (t : terms.Ghosts L.Denot) (l : ledger.Ghosts L.Denot) where
  undo_send : IsSend (Held.the_row L (Given.the_row Undoing.the_row) t l undo_kind.ghosts)
  undo_send = search (front_send, share_send, sendable, crosses) depth 40

  redo_send : IsSend (Held.the_row L (Given.the_row Redoing.the_row) t l redo_kind.ghosts)
  redo_send = search (front_send, share_send, sendable, crosses) depth 40

  token_send : IsSend (Token.the_row L t l)
  token_send = search (undo_send, redo_send, sendable, crosses) depth 40

  pub counter_sync : IsSync (Counter.the_row L t l)
  counter_sync = search (token_send, harvest_send, front_send, sendable, crosses) depth 40
