use Rattle.std.proofs.Common.{◌+◌, ◌≡◌, length, sym, ap}
use Rattle.vpg_office.specs.Fronts.{family_between}
use Rattle.vpg_office.specs.Story.{IsNamed, call_of}
use Rattle.vpg_office.specs.declared.asked.Answer.TheVariants as told
use Rattle.std.specs.Prelude.{slice_set}
use Rattle.vpg_desk.specs.Book.{Refused}
use Rattle.vpg_engine.specs.Client.{ClientState, IsLogged, client_after, unseated_from}
use Rattle.vpg_engine.specs.Faults.{Sorts}
use Rattle.vpg_engine.specs.declared.fault.Back.TheVariants as back
use Rattle.vpg_engine.proofs.Logged.{step_made, gives_made, all_told, all_for, astray, comes_back, absent_astray, absent_for, absent_tells, given_back, grew}
use Rattle.vpg_engine.proofs.client.Client.call.Goals as goal

pub returns : goal.returns
returns g c =
    let game = g.L.Terms.game in
    let diagram = g.L.Terms.diagram in
    let front = c.self.inside.front in
    let new = c.call-answer.new.front in
    let after = client_after game diagram (slice_set c.seat.new.sessions.items c.in-Ok.place c.call-answer.new.self) c.answered.new.front in
    let fault = all_told game diagram g.L.Terms.limit c.self.inside.sessions.items c.seat.new.sessions.items c.in-Ok.place c.index_mut.result.now c.call-answer.new.self front new c.args.label c.in-Ok.ensures.within c.index_mut.ensures.value c.in-Ok.ensures.number c.seat.ensures.own c.in-Ok.ensures.seated
    c.call-answer.ensures.same c.args.self.now c.self.view_is c.len-calls.result c.len-calls.ensures.length c.call-answer.result (λ b. b.fault)
    c.call-answer.ensures.counted c.call-answer.ensures.fault_counted c.answered.new.front c.answered.ensures.shown c.answered.result (λ r. r.fault) (λ r b. r.value ≡ back.Call b.value) g.C.Refused.Refuses.refusal_of (λ r. call_of (g.C.Call.asks c.args.call) (told.Refused r)) c.answered.ensures.fits
    (grew (family_between game diagram) front c.index_mut.result.now.number (g.C.Call.means c.args.call) (λ given. g.C.Call.replies given) new c.call-answer.result c.call-answer.ensures.done) c.answered.ensures.fault c.call-answer.ensures.fault in
    record {
      accepted = step_made game diagram g.L.Terms.limit c.self.inside.sessions.items c.seat.new.sessions.items c.in-Ok.place c.index_mut.result.now c.call-answer.new.self front new c.args.label c.in-Ok.ensures.within c.index_mut.ensures.value c.in-Ok.ensures.number c.seat.ensures.own c.in-Ok.ensures.seated
          c.call-answer.ensures.same c.args.self.now c.self.view_is c.len-calls.result c.len-calls.ensures.length c.call-answer.result (λ b. b.fault)
          c.answered.new.front c.answered.ensures.shown c.answered.result (g.C.Call.means c.args.call) (λ given. g.C.Call.replies given) c.call-answer.ensures.counted c.answered.ensures.made c.answered.ensures.more c.answered.ensures.fits c.call-answer.ensures.done;
      gives = gives_made game diagram g.L.Terms.limit c.self.inside.sessions.items c.seat.new.sessions.items c.in-Ok.place c.index_mut.result.now c.call-answer.new.self front new c.args.label c.in-Ok.ensures.within c.index_mut.ensures.value c.in-Ok.ensures.number c.seat.ensures.own c.in-Ok.ensures.seated
          c.call-answer.ensures.same c.args.self.now c.self.view_is c.len-calls.result c.len-calls.ensures.length c.call-answer.result (λ b. b.fault)
          c.answered.new.front c.answered.ensures.shown c.answered.result (g.C.Call.means c.args.call) (λ given. g.C.Call.replies given) (g.C.Call.Gives c.args.call) c.answered.ensures.made c.answered.ensures.more c.call-answer.ensures.done c.call-answer.ensures.gives;
      of = (ap (λ (s : ClientState). s.desk.game) (sym c.self.view_is), ap (λ (s : ClientState). s.desk.diagram) (sym c.self.view_is));
      game = ap (λ (s : ClientState). s.desk.game) c.self.view_is;
      diagram = ap (λ (s : ClientState). s.desk.diagram) c.self.view_is;
      fault = fault;
      astray = astray c.answered.result (λ r. r.fault) g.L.Terms.limit g.C.Refused.Refuses.refusal_of (λ r. IsLogged g.L.Terms.limit c.args.self.now c.args.label (call_of (g.C.Call.asks c.args.call) (told.Refused r)) (Refused r) after) c.args.self.now c.args.label after fault;
      named = all_for c.len-calls.result (length c.answered.new.front) c.call-answer.result (λ b. b.fault) c.answered.result (λ r. r.fault) (λ r b. r.value ≡ back.Call b.value) (¬ (length c.answered.new.front ≡ c.len-calls.result + 1)) g.C.Refused.Refuses.refusal_of
          (λ r. IsNamed g.L.Terms.game g.L.Terms.diagram (g.C.Call.asks c.args.call) (told.Refused r)) c.answered.ensures.fault c.call-answer.ensures.named;
      back = comes_back c.answered.result c.call-answer.result (λ r. r.fault) (λ r. r.value) (λ r b. Sorts c.len-calls.result (length c.answered.new.front) b.fault r.fault) (λ call. back.Call call) (λ b. b.value) c.args.call (¬ (length c.answered.new.front ≡ c.len-calls.result + 1)) c.answered.ensures.fault c.call-answer.ensures.back;
    }

pub returns-in-Err : goal.returns-in-Err
returns-in-Err g c =
    let before = c.self.inside.sessions.items in
    let after = c.seat.new.sessions.items in
    record {
      accepted = tt;
      gives = tt;
      of = (ap (λ (s : ClientState). s.desk.game) (sym c.self.view_is), ap (λ (s : ClientState). s.desk.diagram) (sym c.self.view_is));
      game = ap (λ (s : ClientState). s.desk.game) c.self.view_is;
      diagram = ap (λ (s : ClientState). s.desk.diagram) c.self.view_is;
      fault = absent_tells g.L.Terms.game g.L.Terms.diagram c.self.inside.front before after c.seat.ensures.own c.args.label c.args.self.now c.self.view_is g.L.Terms.limit g.C.Refused.Refuses.refusal_of _ c.in-Err.fault c.in-Err.ensures.absent;
      astray = absent_astray g.L.Terms.game g.L.Terms.diagram c.self.inside.front before after c.seat.ensures.own c.args.label c.args.self.now c.self.view_is c.in-Err.fault c.in-Err.ensures.absent;
      named = absent_for c.args.label (unseated_from 1 before) (unseated_from 1 after) g.C.Refused.Refuses.refusal_of _ c.in-Err.fault c.in-Err.ensures.absent;
      back = given_back c.in-Err.fault (back.Call c.args.call);
    }
