use Rattle.std.proofs.Common.{◌≡◌, true, [], ◌∷◌, ◌++◌, length, drop, arith, IfSome, sym, ap, ◌∙◌, subst}
use Rattle.std.proofs.lemmas.List.{length-map}
use Rattle.vpg_trail.specs.Shown.{entry_of}
use Rattle.vpg_desk.specs.Book as book
use Rattle.vpg_desk.specs.Book.{Book, opened, IsReply}
use Rattle.vpg_desk.specs.History.{book_after}
use Rattle.vpg_faults.specs.declared.refusal.Refusal.{Refusal}
use Rattle.vpg_faults.specs.Refusals.{told_by}
use Rattle.vpg_desk.specs.Lawful.{HandsIn, IsLawful}
use Rattle.vpg_desk.specs.Desk.{family_of}
use Rattle.vpg_desk.specs.State.{setting_of}
use Rattle.vpg_office.specs.Fronts.{calls_by, event, family_between}
use Rattle.vpg_office.specs.Made.{IsMade, IsRefused, Leaves}
use Rattle.vpg_office.specs.Story.{IsNamed, call_of, reply_of}
use Rattle.vpg_office.specs.Told.{only_appends}
use Rattle.vpg_office.specs.declared.asked.Answer.TheVariants.{Refused}
use Rattle.vpg_office.specs.declared.asked.SessionCall.{SessionCall}
use Rattle.vpg_office.proofs.Calling.{admitted, few_tokens, log_history, log_made, log_refused, more_left, refused_leaves, reply_here, seen_here, stops_leave, then_some, told_here}
use Rattle.vpg_office.proofs.Quiet.{made_leads, no_shorter}
use Rattle.vpg_office.proofs.log.Log.make.Goals as goal

pub admit-requires : goal.admit-requires
admit-requires g c = record {
  row = c.requires.row;
  kept = c.self.invariant.replay.kept;
  seen = seen_here c.self.invariant c.args.front.now c.self.view_is c.requires.seen;
  limit = c.self.invariant.replay.most;
}

pub carry_out-requires : goal.carry_out-requires
carry_out-requires g c = record {
  of = ((λ k. (c.replay.view_is k).game) ∙ c.self.invariant.replay.of_game, (λ k. (c.replay.view_is k).diagram) ∙ c.self.invariant.replay.of_diagram);
  opens = c.self.invariant.replay.kept.is_story.opens;
  counted = c.self.invariant.counted ∙ (λ k. ((sym c.replay.view_is) k).book.tokens);
  few = few_tokens c.self.invariant;
  takes = c.requires.takes;
}

pub follow-requires : goal.follow-requires
follow-requires g c appends =
    let is : only_appends (g.C.Call.asks c.args.call) ≡ true = subst (λ (a : SessionCall). only_appends a ≡ true) c.requires.asked appends in
    omega (
      arith,
      length-map c.entries-before.result.now entry_of,
      ap length c.entries-before.ensures,
      no_shorter (family_of (setting_of c.carry_out.new.desk)) c.replay.inside.desk.book c.carry_out.new.desk.book (g.C.Call.asks c.args.call) c.in-Ok-carry_out.done.answer is (made_leads {new = c.carry_out.new.desk} c.in-Ok-carry_out.ensures.made),
    )

pub invariant_of-replay : goal.invariant_of-replay
invariant_of-replay g c =
    let made = coe 0 1 (k. IsMade g.L.Terms.game g.L.Terms.diagram c.replay.inside.desk c.args.session ((sym c.requires.asked) k) c.in-Ok-carry_out.done.answer c.carry_out.new.desk) c.in-Ok-carry_out.ensures.made in
    c.follow.ensures g.L.Terms.game g.L.Terms.diagram c.replay.inside.desk c.args.session made (ap length (sym c.entries-before.ensures) ∙ length-map c.entries-before.result.now entry_of) c.replay.invariant

pub enter-requires : goal.enter-requires
enter-requires g c =
    let i = admitted c.self.invariant c.admit.ensures.newest c.admit.ensures.limit c.admit.ensures.left c.admit.ensures.kept in
    let made = coe 0 1 (k. IsMade g.L.Terms.game g.L.Terms.diagram (c.replay.view_is k) c.args.session ((sym c.requires.asked) k) c.in-Ok-carry_out.done.answer c.carry_out.new.desk) c.in-Ok-carry_out.ensures.made in
    record {
      kept = c.admit.ensures.kept;
      room = c.in-Ok.ensures.room;
      place = c.in-Ok.ensures.place;
      fits = c.in-Ok.ensures.fits;
      few = omega (arith, c.in-Ok.ensures.fits, c.self.invariant.replay.most, c.self.invariant.replay.few);
      reply = reply_here i c.args.asked c.in-Ok-carry_out.done.answer made.step.step.0;
      hands = made.hands;
      named = made.named;
      left = more_left c.self.invariant c.admit.ensures.newest c.admit.ensures.left c.in-Ok.ensures.fits;
    }

pub invariant_of-self-in-Ok-carry_out : goal.invariant_of-self-in-Ok-carry_out
invariant_of-self-in-Ok-carry_out g c =
    let i = admitted c.self.invariant c.admit.ensures.newest c.admit.ensures.limit c.admit.ensures.left c.admit.ensures.kept in
    let made = coe 0 1 (k. IsMade g.L.Terms.game g.L.Terms.diagram (c.replay.view_is k) c.args.session ((sym c.requires.asked) k) c.in-Ok-carry_out.done.answer c.carry_out.new.desk) c.in-Ok-carry_out.ensures.made in
    log_made i c.enter.new.self.chronicle c.enter.new.self.newest c.enter.new.self.room c.carry_out.new.desk c.carry_out.new.purse c.enter.new.self.left.parts c.args.session c.args.asked c.in-Ok-carry_out.done.answer
    c.enter.ensures.kept c.enter.ensures.newest c.enter.ensures.limit made.step c.carry_out.ensures.counted c.enter.ensures.left

pub at-requires : goal.at-requires
at-requires g c =
    let F = family_between g.L.Terms.game g.L.Terms.diagram in
    let log = c.admit.new.self.newest in
    let answer = c.in-Ok-carry_out.done.answer in
    let now : c.replay.inside.desk.book ≡ book_after F opened log = (λ k. (c.replay.view_is k).book) ∙ c.self.invariant.replay.book ∙ ap (book_after F opened) (sym c.admit.ensures.newest) in
    record {
      before = log;
      own = event c.args.session (call_of c.args.asked answer) (reply_of F (book_after F opened log).present answer);
      is = c.enter.ensures.front ∙ c.enter.ensures.newest;
      gave = subst (λ (b : Book). g.C.Made.AtFront.Fits c.in-Ok-carry_out.done.given (reply_of F b.present answer)) now c.in-Ok-carry_out.ensures.fits;
    }

pub returns-in-Ok-carry_out : goal.returns-in-Ok-carry_out
returns-in-Ok-carry_out g c =
    let F = family_between g.L.Terms.game g.L.Terms.diagram in
    let log = c.admit.ensures.newest ∙ c.self.view_is in
    let answer = c.in-Ok-carry_out.done.answer in
    let front = c.enter.new.front in
    let now : c.replay.inside.desk.book ≡ book_after F opened c.admit.new.self.newest = (λ k. (c.replay.view_is k).book) ∙ c.self.invariant.replay.book ∙ ap (book_after F opened) (sym c.admit.ensures.newest) in
    let call_is = ap (λ (a : SessionCall). call_of a answer) c.requires.asked ∙ c.in-Ok-carry_out.ensures.means in
    let reply_is = ap (λ (b : Book). reply_of F b.present answer) (sym now) ∙ c.in-Ok-carry_out.ensures.replies front in
    let is = c.enter.ensures.front ∙ c.enter.ensures.newest ∙ (λ k. log k ++ event c.args.session (call_is k) (reply_is k) ∷ []) in
    record {
      done = record {
        is = is ∙ (λ k. c.args.self.now ++ event c.args.session (g.C.Call.means c.args.call) (g.C.Call.replies ((sym c.at.ensures) k)) ∷ []);
        none = coe 0 1 (k. calls_by c.args.session (drop (length c.args.front.now) (log k)) ≡ 0) c.in-Ok.ensures.none;
        history = c.enter.ensures.history;
      };
      gives = coe 0 1 (k. g.C.Call.Gives c.args.call front ((sym c.at.ensures) k))
          (c.in-Ok-carry_out.ensures.gives front (record {
            log = c.args.self.now;
            has = c.requires.own;
            leaves = (λ k. (c.replay.view_is k).book) ∙ c.self.invariant.replay.book ∙ ap (book_after F opened) c.self.view_is;
            session = c.args.session;
            is = is;
            history = c.enter.ensures.history;
          }));
      leaves = tt;
      back = tt;
      counted = c.enter.ensures.made;
      fault_counted = tt;
    }

pub returns-in-Err-clause-leaves : goal.returns-in-Err-clause-leaves
returns-in-Err-clause-leaves g c =
    let i = admitted c.self.invariant c.admit.ensures.newest c.admit.ensures.limit c.admit.ensures.left c.admit.ensures.kept in
    let log = c.admit.ensures.newest ∙ c.self.view_is in
    coe 0 1 (k. Leaves g.L.Terms.game g.L.Terms.diagram g.L.Terms.limit g.C.Refused.Refuses.refusal_of (log k) c.args.front.now c.args.session (c.requires.asked k) c.args.front.now c.in-Err.fault)
    (stops_leave g.L.Terms.game g.L.Terms.diagram g.L.Terms.limit g.C.Refused.Refuses.refusal_of c.admit.new.self.newest c.args.front.now c.args.session c.args.asked c.in-Err.fault (log_history i) c.in-Err.ensures.err)

pub refuse-fault-requires : goal.refuse-fault-requires
refuse-fault-requires g c =
    let F = family_between g.L.Terms.game g.L.Terms.diagram in
    let why = told_by g.C.Refused.Refuses.refusal_of c.in-Err-carry_out.back.fault in
    let i = admitted c.self.invariant c.admit.ensures.newest c.admit.ensures.limit c.admit.ensures.left c.admit.ensures.kept in
    let Refused_here = λ (r : Refusal). IsRefused g.L.Terms.game g.L.Terms.diagram c.self.inside.desk c.args.asked r in
    let refused = coe 0 1 (k. IfSome why (IsRefused g.L.Terms.game g.L.Terms.diagram (c.replay.view_is k) ((sym c.requires.asked) k))) c.in-Err-carry_out.ensures.refused in
    record {
      kept = c.admit.ensures.kept;
      room = c.in-Ok.ensures.room;
      place = c.in-Ok.ensures.place;
      fits = c.in-Ok.ensures.fits;
      few = omega (arith, c.in-Ok.ensures.fits, c.self.invariant.replay.most, c.self.invariant.replay.few);
      reply = then_some why Refused_here (λ r. IsReply F (book_after F opened c.admit.new.self.newest) (call_of c.args.asked (Refused r)) (book.Refused r))
          (λ r is. told_here i (call_of c.args.asked (Refused r)) (book.Refused r) is.told) refused;
      hands = then_some why Refused_here (λ r. HandsIn (IsLawful F) (call_of c.args.asked (Refused r))) (λ r is. is.hands) refused;
      named = then_some why Refused_here (λ r. IsNamed g.L.Terms.game g.L.Terms.diagram c.args.asked (Refused r)) (λ r is. is.named) refused;
      left = more_left c.self.invariant c.admit.ensures.newest c.admit.ensures.left c.in-Ok.ensures.fits;
    }

pub invariant_of-self-in-Err-carry_out : goal.invariant_of-self-in-Err-carry_out
invariant_of-self-in-Err-carry_out g c =
    let i = admitted c.self.invariant c.admit.ensures.newest c.admit.ensures.limit c.admit.ensures.left c.admit.ensures.kept in
    log_refused i g.C.Refused.Refuses.refusal_of (told_by g.C.Refused.Refuses.refusal_of c.in-Err-carry_out.back.fault) c.args.session c.args.asked c.refuse-fault.result c.args.front.now c.refuse-fault.new.front c.refuse-fault.new.self.chronicle c.refuse-fault.new.self.newest c.refuse-fault.new.self.room c.carry_out.new.desk c.carry_out.new.purse c.refuse-fault.new.self.left.parts
    c.refuse-fault.ensures.left (c.in-Err-carry_out.ensures.same ∙ c.replay.view_is) c.carry_out.ensures.counted c.refuse-fault.ensures.limit c.refuse-fault.ensures.kept c.refuse-fault.ensures.memory c.refuse-fault.ensures.refused

pub returns-clause-leaves : goal.returns-clause-leaves
returns-clause-leaves g c =
    let i = admitted c.self.invariant c.admit.ensures.newest c.admit.ensures.limit c.admit.ensures.left c.admit.ensures.kept in
    let refused = coe 0 1 (k. IfSome (told_by g.C.Refused.Refuses.refusal_of c.in-Err-carry_out.back.fault) (IsRefused g.L.Terms.game g.L.Terms.diagram (c.replay.view_is k) ((sym c.requires.asked) k))) c.in-Err-carry_out.ensures.refused in
    let log = c.admit.ensures.newest ∙ c.self.view_is in
    coe 0 1 (k. Leaves g.L.Terms.game g.L.Terms.diagram g.L.Terms.limit g.C.Refused.Refuses.refusal_of (log k) c.args.front.now c.args.session (c.requires.asked k) c.refuse-fault.new.front c.refuse-fault.result)
    (refused_leaves c.refuse-fault.ensures.kept c.args.asked c.args.session c.args.front.now c.refuse-fault.new.front c.admit.new.self.newest c.self.inside.desk g.L.Terms.limit g.C.Refused.Refuses.refusal_of c.refuse-fault.result (told_by g.C.Refused.Refuses.refusal_of c.in-Err-carry_out.back.fault)
    (log_history i) c.in-Ok.ensures.none refused c.refuse-fault.ensures.memory c.refuse-fault.ensures.refused)

pub returns-clause-back : goal.returns-clause-back
returns-clause-back g c = c.in-Err-carry_out.ensures.back

pub invariant_of-self : goal.invariant_of-self
invariant_of-self g c = admitted c.self.invariant c.admit.ensures.newest c.admit.ensures.limit c.admit.ensures.left c.admit.ensures.kept
