-- A desk may go to another thread, part by part: a search through all parts at once meets its limit.
use denote.Param.Send.{IsSend, IsSync, sendable}
use Rattle.std.proofs.Crossing.{crosses}
use Rattle.vpg_guards.proofs.guard.Guard.TheLaws.TheKnot.{send-Guard, sync-Guard}
use Rattle.vpg_diagram.proofs.Crossing.{diagram_send, diagram_sync}
use Rattle.vpg_game.specs.contracts.game.GuardedGame as Game
use Rattle.vpg_measure.proofs.games.PageGames.TheSendSync.{the_send as games_send, the_sync as games_sync}
use Rattle.vpg_trail.proofs.trail.Trail.TheSendSync.{the_send as trail_send}
use Rattle.vpg_desk.proofs.cuts.Cut.TheSendSync.{the_send as cut_send}
use Rattle.vpg_desk.specs.contracts.desk.Desk as Desk

pub game_send : IsSend Game.the_row
game_send = search (send-Guard, sendable, crosses) depth 40

pub game_sync : IsSync Game.the_row
game_sync = search (sync-Guard, sendable, crosses) depth 40

pub desk_send : IsSend Desk.the_row
desk_send = search (game_send, game_sync, diagram_send, diagram_sync, games_send, games_sync, trail_send, cut_send, sendable, crosses) depth 40
