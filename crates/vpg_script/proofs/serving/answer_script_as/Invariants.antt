use Rattle.std.proofs.Common.{◌≡◌, ◌≤◌, ◌+◌, ◌*◌, length, vec_len, List, ℕ}
use Rattle.std.specs.Io.KnownBytes.{prepend_known}
use Rattle.std.specs.List.{list_any}
use Rattle.vpg_script.specs.Lines.{lines_left}
use Rattle.vpg_script.specs.Answer.{Answer, is_failure}
use Rattle.vpg_script.specs.Manners.{Went}
use Rattle.vpg_script.proofs.serving.answer_script_as.Given as goal

abbrev pub invariant-lines : goal.invariant-lines
invariant-lines g l = record {
  same : g.V.Server.scene l.server ≡ g.V.Server.scene l.fn.server;
  few : l.reads ≤ 16777216;
  readable : g.R.Source.has_failed l.reader ≡ g.R.Source.has_failed l.fn.reader;
  writable : g.W.Sink.has_failed l.writer ≡ g.W.Sink.has_failed l.fn.writer;
  calls : g.R.Source.calls l.reader ≡ l.reads;
  bound : l.number + lines_left l.reads (vec_len l.held) ≤ 16777216 * 8193 + 1;
  went : (lines : List (List ℕ)) × (answers : List Answer) × (Went l.manner (g.V.Server.answering (g.V.Server.scene l.fn.server) l.fn.lifters) (g.V.Server.state l.fn.server) (g.V.Server.state l.server) (g.R.Source.remaining l.fn.reader) (prepend_known l.held.items (g.R.Source.remaining l.reader))
      (g.W.Sink.contents l.fn.writer) (g.W.Sink.contents l.writer) lines answers × (l.number ≡ length lines + 1) × (l.failed ≡ list_any is_failure answers));
}

abbrev pub decreases-lines : goal.decreases-lines
decreases-lines g l = lines_left l.reads (vec_len l.held)
