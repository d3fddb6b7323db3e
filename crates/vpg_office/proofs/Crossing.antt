-- What of an office may be handed to threads, part by part: a search through all parts at once meets its limit.
use denote.RattleType.{RattleType}
use denote.Param.Send.{IsSend, IsSync, AllSend, struct_send, recorded_send, struct_sync, recorded_sync, sendable}
use denote.Struct.Declared.{shape, fields}
use Rattle.std.proofs.sync.ledger.Share.TheSendSync.{the_send as share_send}
use Rattle.std.proofs.Crossing.{crosses}
use Rattle.std.specs.declared.sync.ledger.Ledger as ledger
use Rattle.boxcar.proofs.table.Placed.TheSendSync.{the_send as placed_send}
use Rattle.boxcar.proofs.vec.Vec.TheSendSync.{the_sync as row_sync}
use Rattle.boxcar.specs.contracts.vec.Anything as Anything
use Rattle.boxcar.specs.contracts.vec.AnythingKeeps.TheImpl as keeps
use Rattle.boxcar.specs.contracts.vec.Vec as Calls
use Rattle.std.specs.contracts.alloc.Global as Global
use Rattle.std.specs.contracts.impls.GlobalAllocator.TheImpl as allocator
use Rattle.std.specs.contracts.sync.Mutex as Mutex
use Rattle.vpg_desk.proofs.Crossing.{desk_send}
use Rattle.vpg_watch.proofs.press.Press.TheSendSync.{the_send as press_send}
use Rattle.vpg_watch.proofs.sheet.Verdicts.TheSendSync.{the_send as verdicts_send, the_sync as verdicts_sync}
use Rattle.vpg_office.proofs.front.Front.TheSendSync.{the_send as front_send, the_sync as front_sync}
use Rattle.vpg_office.proofs.purse.Purse.TheSendSync.{the_send as purse_send}
use Rattle.vpg_office.specs.contracts.asked.Entry as Entry
use Rattle.vpg_office.specs.contracts.asked.LoggedCall as LoggedCall
use Rattle.vpg_office.specs.contracts.chronicle.Chronicle as Chronicle
use Rattle.vpg_office.specs.contracts.front.Front as Front
use Rattle.vpg_office.specs.contracts.log.Calls as Made
use Rattle.vpg_office.specs.contracts.log.Log as Log
use Rattle.vpg_office.specs.contracts.log.Log.TheInside as Inside
use Rattle.vpg_office.specs.contracts.office.RowRowed.TheImpl as rowed
use Rattle.vpg_office.specs.contracts.office.Shared as Shared
use Rattle.vpg_office.specs.contracts.replay.Replay as Replay
use Rattle.vpg_office.specs.declared.terms.Terms as terms

pub told_send : IsSend LoggedCall.the_row
told_send = search (sendable, crosses) depth 20

pub entry_send : IsSend Entry.the_row
entry_send = search (sendable, crosses) depth 20

pub entry_sync : IsSync Entry.the_row
entry_sync = search (sendable, crosses) depth 20

-- as a struct has it that holds it
chronicle_field : IsSend (Chronicle.the_field).row
chronicle_field = search (told_send, placed_send, sendable, crosses) depth 40

replay_send : IsSend Replay.the_row
replay_send = search (desk_send, verdicts_send, verdicts_sync, sendable, crosses) depth 40

module _ (L : RattleType) (t : terms.Ghosts L.Denot) (l : ledger.Ghosts L.Denot) where
  front_sends : IsSend (Front.the_row L t l)
  front_sends = search (front_send, sendable, crosses) depth 40

  front_syncs : IsSync (Front.the_row L t l)
  front_syncs = search (front_sync, sendable, crosses) depth 40

  calls_fields : AllSend (fields (Made.the_type L t l))
  calls_fields = (chronicle_field, (search (front_sends, sendable) depth 12, (search sendable depth 12, (search (share_send, sendable, crosses) depth 20, tt))))

  calls_field : IsSend (Made.the_field L t l).row
  calls_field = struct_send (shape (Made.the_type L t l)) calls_fields

  fields_send : AllSend (fields (Inside.the_type L t l))
  fields_send = (calls_field, (search (replay_send, sendable) depth 12, (search (purse_send, sendable, crosses) depth 40, (search (press_send, front_sends, front_syncs, sendable, crosses) depth 40, tt))))

  inside_send : IsSend (Inside.the_row L t l)
  inside_send = recorded_send (Inside.the_field L t l).row _ _ (Inside.the_type L t l).to_one (struct_send (shape (Inside.the_type L t l)) fields_send)

  pub log_send : IsSend L → IsSync L → IsSend (Log.the_row L t l)
  log_send s y = search (inside_send, sendable) depth 8

  abbrev Row : RattleType
  Row = Calls.the_row Entry.the_row Global.the_row Anything.the_row allocator.ghosts (keeps.ghosts Entry.the_row)

  row_field : IsSync (Calls.the_field Entry.the_row Global.the_row Anything.the_row allocator.ghosts (keeps.ghosts Entry.the_row)).row
  row_field = search (row_sync, entry_send, entry_sync, sendable, crosses) depth 40

  row_row : IsSync Row
  row_row = search (row_sync, entry_send, entry_sync, sendable, crosses) depth 40

  lock_field : IsSend L → IsSync L → IsSync (Mutex.the_field (Log.the_row L t l)).row
  lock_field s y = let a = log_send s y in search (a, sendable, crosses) depth 20

  pub office_sync : IsSend L → IsSync L → IsSync (Shared.the_row Row L (Log.the_row L t l) rowed.ghosts t l)
  office_sync s y =
      let T = Shared.the_type Row L (Log.the_row L t l) rowed.ghosts t l in
      let a = lock_field s y in
      recorded_sync (Shared.the_field Row L (Log.the_row L t l) rowed.ghosts t l).row _ _ T.to_one (struct_sync (shape T) (search (row_row, row_field, sendable) depth 8, (search (a, sendable) depth 8, (search sendable depth 8, tt))))

-- for `search` in a function that shares an office
pub ruleset office_crosses = (office_sync, log_send, entry_send, entry_sync, front_send, row_sync)
