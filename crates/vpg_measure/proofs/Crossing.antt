-- An order may be shared between threads. A search through all its parts at once meets its limit, since an order holds
-- guards and formulas, which hold others.
use denote.Param.Send.{IsSend, IsSync, sendable}
use Rattle.std.proofs.Crossing.{crosses}
use Rattle.vpg_guards.proofs.guard.Guard.TheLaws.TheKnot as guards
use Rattle.vpg_diagram.proofs.Crossing.{diagram_send, diagram_sync}
use Rattle.vpg_game.specs.contracts.game.GuardedGame as Game
use Rattle.vpg_measure.proofs.games.PageGames.TheSendSync.{the_send as games_send, the_sync as games_sync}
use Rattle.vpg_measure.specs.contracts.order.Order as Order

game_send : IsSend Game.the_row
game_send = search (crosses, guards.crosses, sendable) depth 60 fits 20000

game_sync : IsSync Game.the_row
game_sync = search (crosses, guards.crosses, sendable) depth 60 fits 20000

pub order_sync : IsSync Order.the_row
order_sync = search (game_send, game_sync, diagram_send, diagram_sync, games_send, games_sync, sendable, crosses) depth 40
