use Rattle.std.proofs.Common.{◌≡◌, length}
use Rattle.vpg_engine.specs.Client.{calls_of, unseated_from}
use Rattle.vpg_engine.proofs.client.join.Given as goal

abbrev pub invariant-loop-next : goal.invariant-loop-next
invariant-loop-next g l = record {
  at : length l.sessions.items ≡ l.next;
  own : calls_of l.sessions.items ≡ calls_of l.fn.sessions.items;
  seated : unseated_from 1 l.sessions.items ≡ unseated_from 1 l.fn.sessions.items;
}
