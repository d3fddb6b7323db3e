use Rattle.std.proofs.Common.{ℕ, Bool, List, [], ◌∷◌, ◌++◌, Result, Ok, length-append, arith, ap, ap₂, sym, refl, ◌∙◌, ◌≡◌, subst}
use Rattle.std.proofs.lemmas.Result.{err_from_is_err_and}
use Rattle.std.specs.Prelude.{◌||◌, ◌&&◌, OnOk}
use Rattle.std.specs.Io.KnownBytes.{prepend_known}
use Rattle.vpg_script.specs.View.{request_shown}
use Rattle.vpg_script.specs.Manners.{MannerOutcome, Went}
use Rattle.vpg_script.specs.Answer.{is_failed, is_refused}
use Rattle.vpg_script.specs.Results.{AskedOutcome, HasLine, UnlessWriterFails, stop_of}
use Rattle.vpg_script.specs.declared.answering.Asked.{Asked}
use Rattle.vpg_script.specs.declared.fault.RunFault.{RunFault}
use Rattle.vpg_script.specs.declared.serving.Ending.{Ending}
use Rattle.vpg_script.specs.declared.tone.Tone.{Tone}
use Rattle.vpg_script.proofs.MannerLemmas.{LineMet, at_end, failed_more, fault_met, goes_on_then, nothing_met, on_ok, reader_same, refused_left, refused_there, request_met, stopped, unserved_met, went_more, went_nothing, writer_same, writer_sound}
use Rattle.vpg_script.proofs.serving.answer_script_as.Goals as goal
use Rattle.vpg_script.proofs.serving.answer_script_as.Goals.{in-Request+in_ok-tone-in-Request, in-Nothing, in-Fault}

pub lines-init : goal.lines-init
lines-init g c =
    let state = g.V.Server.state c.args.server.now in
    let serves = g.V.Server.answering (g.V.Server.scene c.args.server.now) c.args.lifters in
    let input = g.R.Source.remaining c.args.reader.now in
    let holds = g.W.Sink.contents c.args.writer.now in
    record {
      same = refl;
      few = omega arith;
      readable = refl;
      writable = refl;
      calls = c.requires.unread;
      bound = omega (arith, c.new-held.ensures.len);
      went = (
        [],
        [],
        (
          subst (λ (held : List ℕ). Went c.args.manner serves state state input (prepend_known held input) holds holds [] []) (sym c.new-held.ensures.items)
              (went_nothing c.args.manner serves state input holds),
          refl,
          refl,
        ),
      );
    }

pub returns-in-End-clause-output : goal.returns-in-End-clause-output
returns-in-End-clause-output g c =
    let so = c.lines.invariant.went in
    let first = c.args.server.now in
    let input = g.R.Source.remaining c.args.reader.now in
    let a = prepend_known c.lines.held.items (g.R.Source.remaining c.lines.reader) in
    let b = prepend_known c.next_request.new.held.items (g.R.Source.remaining c.next_request.new.reader) in
    let left = g.R.Source.remaining c.next_request.new.reader in
    let before = g.W.Sink.contents c.args.writer.now in
    let w = g.W.Sink.contents c.lines.writer in
    let mid = g.V.Server.state c.lines.server in
    let serves = g.V.Server.answering (g.V.Server.scene first) c.args.lifters in
    let asked = λ (x : Asked). AskedOutcome c.args.manner.goes_on a b left (Ok x) in
    subst (λ (e : Ending). MannerOutcome c.args.manner serves (g.V.Server.state first) input left before w (Ok e)) (sym c.ending_of.ensures)
    (at_end c.args.manner serves (g.V.Server.state first) mid input a before w so.0 so.1 so.2.0 left c.lines.failed so.2.2 (subst asked c.in-End.is c.in_ok-asked.ensures.outcome))

pub returns-in_err-tone-in-Request-clause-output : goal.returns-in_err-tone-in-Request-clause-output
returns-in_err-tone-in-Request-clause-output g c =
    let so = c.lines.invariant.went in
    let first = c.args.server.now in
    let input = g.R.Source.remaining c.args.reader.now in
    let a = prepend_known c.lines.held.items (g.R.Source.remaining c.lines.reader) in
    let b = prepend_known c.next_request.new.held.items (g.R.Source.remaining c.next_request.new.reader) in
    let left = g.R.Source.remaining c.next_request.new.reader in
    let before = g.W.Sink.contents c.args.writer.now in
    let w = g.W.Sink.contents c.lines.writer in
    let mid = g.V.Server.state c.lines.server in
    let serves = g.V.Server.answering (g.V.Server.scene first) c.args.lifters in
    let asked = λ (x : Asked). AskedOutcome c.args.manner.goes_on a b left (Ok x) in
    let fault = c.in_err-tone-in-Request.field-0.0 in
    let p = err_from_is_err_and c.from_residual-in_err-tone-in-Request.result c.from_residual-in_err-tone-in-Request.ensures.1 in
    rw (p.1, p.2)
    (stopped c.args.manner serves (g.V.Server.state first) mid input a before w so.0 so.1 so.2.0 mid b left w c.lines.number (stop_of fault) so.2.1
    (unserved_met c.args.manner c.lines.number serves mid a b left w w mid fault refl))

pub returns-in_err-tone-clause-output : goal.returns-in_err-tone-clause-output
returns-in_err-tone-clause-output g c =
    let so = c.lines.invariant.went in
    let first = c.args.server.now in
    let input = g.R.Source.remaining c.args.reader.now in
    let a = prepend_known c.lines.held.items (g.R.Source.remaining c.lines.reader) in
    let b = prepend_known c.next_request.new.held.items (g.R.Source.remaining c.next_request.new.reader) in
    let left = g.R.Source.remaining c.next_request.new.reader in
    let before = g.W.Sink.contents c.args.writer.now in
    let w = g.W.Sink.contents c.lines.writer in
    let mid = g.V.Server.state c.lines.server in
    let serves = g.V.Server.answering (g.V.Server.scene first) c.args.lifters in
    let asked = λ (x : Asked). AskedOutcome c.args.manner.goes_on a b left (Ok x) in
    let after = g.W.Sink.contents c.match-asked.writer in
    let new = g.V.Server.state c.match-asked.server in
    let met : LineMet c.args.manner c.lines.number serves mid new a b left w after c.match-asked.answered = elim c.match-asked.branch [
      | in-Request+in_ok-tone-in-Request r ↦
          let gives = r.in_ok-tone-in-Request.ensures.answer in
          rw (r.server-is, r.writer-is, r.answered-is) (request_met c.args.manner c.lines.number serves mid a b left w (g.W.Sink.contents r.put_answer-answered.new.writer) (g.V.Server.state r.serve.new.self) (request_shown r.in-Request.request) gives.0 r.in_ok-tone-in-Request.tone r.deref.result.now r.put_answer-answered.result
          (subst asked r.in-Request.is c.in_ok-asked.ensures.outcome)
          (subst (λ (s : g.V.Server.Scene). g.V.Server.answering s c.args.lifters mid (request_shown r.in-Request.request) gives.0 (g.V.Server.state r.serve.new.self)) c.lines.invariant.same gives.1.0)
          gives.1.1.0 (r.deref.ensures.value ∙ (gives.1.1.1 ∙ ap (λ (t : List ℕ). t ++ gives.0.text) r.new-text.ensures.items)) r.put_answer-answered.ensures.outcome)
      | in-Nothing r ↦
          rw (r.server-is, r.writer-is, r.answered-is) (nothing_met c.args.manner c.lines.number serves mid a b left w w (subst asked r.in-Nothing.is c.in_ok-asked.ensures.outcome) refl)
      | in-Fault r ↦
          let faulty = subst asked r.in-Fault.is c.in_ok-asked.ensures.outcome in
          rw (r.server-is, r.writer-is, r.answered-is) (fault_met c.args.manner c.lines.number serves mid a b left w (g.W.Sink.contents r.answer_fault-answered.new.writer) r.in-Fault.fault r.answer_fault-answered.result faulty.0 faulty.1 r.answer_fault-answered.ensures.outcome)
    ] in
    let p = err_from_is_err_and c.from_residual-in_err-tone.result c.from_residual-in_err-tone.ensures.1 in
    rw (p.1, p.2)
    (stopped c.args.manner serves (g.V.Server.state first) mid input a before w so.0 so.1 so.2.0 new b left after c.lines.number c.in_err-tone.field-0.0 so.2.1
    (subst (λ (r : Result Tone RunFault). LineMet c.args.manner c.lines.number serves mid new a b left w after r) c.in_err-tone.was met))

pub returns-in_err-tone-clause-readable : goal.returns-in_err-tone-clause-readable
returns-in_err-tone-clause-readable g c =
    reader_same c.from_residual-in_err-tone.result _ (c.in_ok-asked.ensures.readable ∙ c.lines.invariant.readable)

pub returns-in_err-tone-clause-writable : goal.returns-in_err-tone-clause-writable
returns-in_err-tone-clause-writable g c =
    let p = err_from_is_err_and c.from_residual-in_err-tone.result c.from_residual-in_err-tone.ensures.1 in
    let sound = λ (r : Result Tone RunFault). UnlessWriterFails r (g.W.Sink.has_failed c.match-asked.writer ≡ g.W.Sink.has_failed c.args.writer.now) in
    let kept : sound c.match-asked.answered = elim c.match-asked.branch [
      | in-Request+in_ok-tone-in-Request r ↦
          rw (r.writer-is, r.answered-is) (writer_sound r.put_answer-answered.result (g.W.Sink.has_failed r.put_answer-answered.new.writer) (g.W.Sink.has_failed c.lines.writer) (g.W.Sink.has_failed c.args.writer.now) c.lines.invariant.writable r.put_answer-answered.ensures.writable)
      | in-Nothing r ↦ rw (r.writer-is, r.answered-is) c.lines.invariant.writable
      | in-Fault r ↦
          rw (r.writer-is, r.answered-is) (writer_sound r.answer_fault-answered.result (g.W.Sink.has_failed r.answer_fault-answered.new.writer) (g.W.Sink.has_failed c.lines.writer) (g.W.Sink.has_failed c.args.writer.now) c.lines.invariant.writable r.answer_fault-answered.ensures.writable)
    ] in
    rw (p.1, p.2) (writer_same Tone Ending c.in_err-tone.field-0.0 _ (subst sound c.in_err-tone.was kept))

pub returns-then-is_last-clause-output : goal.returns-then-is_last-clause-output
returns-then-is_last-clause-output g c =
    let so = c.lines.invariant.went in
    let first = c.args.server.now in
    let input = g.R.Source.remaining c.args.reader.now in
    let a = prepend_known c.lines.held.items (g.R.Source.remaining c.lines.reader) in
    let b = prepend_known c.next_request.new.held.items (g.R.Source.remaining c.next_request.new.reader) in
    let left = g.R.Source.remaining c.next_request.new.reader in
    let before = g.W.Sink.contents c.args.writer.now in
    let w = g.W.Sink.contents c.lines.writer in
    let mid = g.V.Server.state c.lines.server in
    let serves = g.V.Server.answering (g.V.Server.scene first) c.args.lifters in
    let asked = λ (x : Asked). AskedOutcome c.args.manner.goes_on a b left (Ok x) in
    let after = g.W.Sink.contents c.match-asked.writer in
    let new = g.V.Server.state c.match-asked.server in
    let met : LineMet c.args.manner c.lines.number serves mid new a b left w after c.match-asked.answered = elim c.match-asked.branch [
      | in-Request+in_ok-tone-in-Request r ↦
          let gives = r.in_ok-tone-in-Request.ensures.answer in
          rw (r.server-is, r.writer-is, r.answered-is) (request_met c.args.manner c.lines.number serves mid a b left w (g.W.Sink.contents r.put_answer-answered.new.writer) (g.V.Server.state r.serve.new.self) (request_shown r.in-Request.request) gives.0 r.in_ok-tone-in-Request.tone r.deref.result.now r.put_answer-answered.result
          (subst asked r.in-Request.is c.in_ok-asked.ensures.outcome)
          (subst (λ (s : g.V.Server.Scene). g.V.Server.answering s c.args.lifters mid (request_shown r.in-Request.request) gives.0 (g.V.Server.state r.serve.new.self)) c.lines.invariant.same gives.1.0)
          gives.1.1.0 (r.deref.ensures.value ∙ (gives.1.1.1 ∙ ap (λ (t : List ℕ). t ++ gives.0.text) r.new-text.ensures.items)) r.put_answer-answered.ensures.outcome)
      | in-Nothing r ↦
          rw (r.server-is, r.writer-is, r.answered-is) (nothing_met c.args.manner c.lines.number serves mid a b left w w (subst asked r.in-Nothing.is c.in_ok-asked.ensures.outcome) refl)
      | in-Fault r ↦
          let faulty = subst asked r.in-Fault.is c.in_ok-asked.ensures.outcome in
          rw (r.server-is, r.writer-is, r.answered-is) (fault_met c.args.manner c.lines.number serves mid a b left w (g.W.Sink.contents r.answer_fault-answered.new.writer) r.in-Fault.fault r.answer_fault-answered.result faulty.0 faulty.1 r.answer_fault-answered.ensures.outcome)
    ] in
    refused_there c.args.manner serves (g.V.Server.state first) mid new input a b left before w after so.0 so.1 c.lines.number c.in_ok-tone.tone so.2.0 so.2.1
    (subst (λ (r : Result Tone RunFault). LineMet c.args.manner c.lines.number serves mid new a b left w after r) c.in_ok-tone.was met) (sym c.is_last.ensures ∙ c.if-is_last.true)

pub returns-then-is_last-clause-left : goal.returns-then-is_last-clause-left
returns-then-is_last-clause-left g c =
    let so = c.lines.invariant.went in
    let first = c.args.server.now in
    let input = g.R.Source.remaining c.args.reader.now in
    let a = prepend_known c.lines.held.items (g.R.Source.remaining c.lines.reader) in
    let b = prepend_known c.next_request.new.held.items (g.R.Source.remaining c.next_request.new.reader) in
    let left = g.R.Source.remaining c.next_request.new.reader in
    let before = g.W.Sink.contents c.args.writer.now in
    let w = g.W.Sink.contents c.lines.writer in
    let mid = g.V.Server.state c.lines.server in
    let serves = g.V.Server.answering (g.V.Server.scene first) c.args.lifters in
    let asked = λ (x : Asked). AskedOutcome c.args.manner.goes_on a b left (Ok x) in
    let after = g.W.Sink.contents c.match-asked.writer in
    let new = g.V.Server.state c.match-asked.server in
    let met : LineMet c.args.manner c.lines.number serves mid new a b left w after c.match-asked.answered = elim c.match-asked.branch [
      | in-Request+in_ok-tone-in-Request r ↦
          let gives = r.in_ok-tone-in-Request.ensures.answer in
          rw (r.server-is, r.writer-is, r.answered-is) (request_met c.args.manner c.lines.number serves mid a b left w (g.W.Sink.contents r.put_answer-answered.new.writer) (g.V.Server.state r.serve.new.self) (request_shown r.in-Request.request) gives.0 r.in_ok-tone-in-Request.tone r.deref.result.now r.put_answer-answered.result
          (subst asked r.in-Request.is c.in_ok-asked.ensures.outcome)
          (subst (λ (s : g.V.Server.Scene). g.V.Server.answering s c.args.lifters mid (request_shown r.in-Request.request) gives.0 (g.V.Server.state r.serve.new.self)) c.lines.invariant.same gives.1.0)
          gives.1.1.0 (r.deref.ensures.value ∙ (gives.1.1.1 ∙ ap (λ (t : List ℕ). t ++ gives.0.text) r.new-text.ensures.items)) r.put_answer-answered.ensures.outcome)
      | in-Nothing r ↦
          rw (r.server-is, r.writer-is, r.answered-is) (nothing_met c.args.manner c.lines.number serves mid a b left w w (subst asked r.in-Nothing.is c.in_ok-asked.ensures.outcome) refl)
      | in-Fault r ↦
          let faulty = subst asked r.in-Fault.is c.in_ok-asked.ensures.outcome in
          rw (r.server-is, r.writer-is, r.answered-is) (fault_met c.args.manner c.lines.number serves mid a b left w (g.W.Sink.contents r.answer_fault-answered.new.writer) r.in-Fault.fault r.answer_fault-answered.result faulty.0 faulty.1 r.answer_fault-answered.ensures.outcome)
    ] in
    refused_left c.args.manner serves (g.V.Server.state first) mid new input a b left before w after so.0 so.1 c.lines.number c.in_ok-tone.tone so.2.0 so.2.1
    (subst (λ (r : Result Tone RunFault). LineMet c.args.manner c.lines.number serves mid new a b left w after r) c.in_ok-tone.was met) (sym c.is_last.ensures ∙ c.if-is_last.true)

pub lines-preserved : goal.lines-preserved
lines-preserved g c =
    let so = c.lines.invariant.went in
    let first = c.args.server.now in
    let input = g.R.Source.remaining c.args.reader.now in
    let a = prepend_known c.lines.held.items (g.R.Source.remaining c.lines.reader) in
    let b = prepend_known c.next_request.new.held.items (g.R.Source.remaining c.next_request.new.reader) in
    let left = g.R.Source.remaining c.next_request.new.reader in
    let before = g.W.Sink.contents c.args.writer.now in
    let w = g.W.Sink.contents c.lines.writer in
    let mid = g.V.Server.state c.lines.server in
    let serves = g.V.Server.answering (g.V.Server.scene first) c.args.lifters in
    let asked = λ (x : Asked). AskedOutcome c.args.manner.goes_on a b left (Ok x) in
    let after = g.W.Sink.contents c.match-asked.writer in
    let new = g.V.Server.state c.match-asked.server in
    let Step = λ (r : Result Tone RunFault). (g.V.Server.scene c.match-asked.server ≡ g.V.Server.scene first) × UnlessWriterFails r (g.W.Sink.has_failed c.match-asked.writer ≡ g.W.Sink.has_failed c.args.writer.now)
    × OnOk r (HasLine c.args.manner.goes_on c.in_ok-asked.asked) × LineMet c.args.manner c.lines.number serves mid new a b left w after r in
    let step : Step c.match-asked.answered = elim c.match-asked.branch [
      | in-Request+in_ok-tone-in-Request r ↦
          let gives = r.in_ok-tone-in-Request.ensures.answer in
          rw (r.server-is, r.writer-is, r.answered-is) (
            r.in_ok-tone-in-Request.ensures.scene ∙ c.lines.invariant.same,
            writer_sound r.put_answer-answered.result (g.W.Sink.has_failed r.put_answer-answered.new.writer) (g.W.Sink.has_failed c.lines.writer) (g.W.Sink.has_failed c.args.writer.now) c.lines.invariant.writable r.put_answer-answered.ensures.writable,
            on_ok r.put_answer-answered.result (rw r.in-Request.is tt),
            request_met c.args.manner c.lines.number serves mid a b left w (g.W.Sink.contents r.put_answer-answered.new.writer) (g.V.Server.state r.serve.new.self) (request_shown r.in-Request.request) gives.0 r.in_ok-tone-in-Request.tone r.deref.result.now r.put_answer-answered.result
                (subst asked r.in-Request.is c.in_ok-asked.ensures.outcome)
                (subst (λ (s : g.V.Server.Scene). g.V.Server.answering s c.args.lifters mid (request_shown r.in-Request.request) gives.0 (g.V.Server.state r.serve.new.self)) c.lines.invariant.same gives.1.0)
                gives.1.1.0 (r.deref.ensures.value ∙ (gives.1.1.1 ∙ ap (λ (t : List ℕ). t ++ gives.0.text) r.new-text.ensures.items)) r.put_answer-answered.ensures.outcome,
          )
      | in-Nothing r ↦
          rw (r.server-is, r.writer-is, r.answered-is) (c.lines.invariant.same, c.lines.invariant.writable, rw r.in-Nothing.is tt, nothing_met c.args.manner c.lines.number serves mid a b left w w (subst asked r.in-Nothing.is c.in_ok-asked.ensures.outcome) refl)
      | in-Fault r ↦
          let faulty = subst asked r.in-Fault.is c.in_ok-asked.ensures.outcome in
          rw (r.server-is, r.writer-is, r.answered-is) (
            c.lines.invariant.same,
            writer_sound r.answer_fault-answered.result (g.W.Sink.has_failed r.answer_fault-answered.new.writer) (g.W.Sink.has_failed c.lines.writer) (g.W.Sink.has_failed c.args.writer.now) c.lines.invariant.writable r.answer_fault-answered.ensures.writable,
            rw r.in-Fault.is (goes_on_then c.args.manner c.lines.number r.in-Fault.fault w (g.W.Sink.contents r.answer_fault-answered.new.writer) r.answer_fault-answered.result r.answer_fault-answered.ensures.outcome),
            fault_met c.args.manner c.lines.number serves mid a b left w (g.W.Sink.contents r.answer_fault-answered.new.writer) r.in-Fault.fault r.answer_fault-answered.result faulty.0 faulty.1 r.answer_fault-answered.ensures.outcome,
          )
    ] in
    let ok = subst Step c.in_ok-tone.was step in
    let o = ok.3 in
    let fewer = c.in_ok-asked.ensures.fewer ok.2 in
    record {
      same = ok.0;
      few = c.next_request.ensures.reads;
      readable = c.in_ok-asked.ensures.readable ∙ c.lines.invariant.readable;
      writable = ok.1;
      calls = c.next_request.ensures.calls;
      bound = omega (arith, c.lines.invariant.bound, fewer);
      went = (
        so.0 ++ o.0 ∷ [],
        so.1 ++ o.1 ∷ [],
        (
          went_more c.args.manner serves (g.V.Server.state first) mid new input a b before w after so.0 so.1 c.lines.number o.0 o.1
              so.2.0 so.2.1 o.2.0 o.2.1 o.2.3
              (ap (λ (t : Tone). is_refused t && c.args.manner.is_strict) (sym o.2.2) ∙ (sym c.is_last.ensures ∙ c.if-is_last.false)),
          omega (arith, so.2.1, length-append so.0 (o.0 ∷ [])),
          c.has_failed-failed.ensures ∙ (ap₂ (λ (x y : Bool). x || y) so.2.2 (ap is_failed o.2.2) ∙ sym (failed_more so.1 o.1)),
        ),
      );
    }
