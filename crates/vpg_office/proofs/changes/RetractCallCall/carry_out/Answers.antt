use Rattle.std.proofs.Common.{◌≡◌, ◌+◌, refl, sym, ap, ◌∙◌}
use Rattle.vpg_desk.specs.Book as book
use Rattle.vpg_desk.specs.Book.{Book}
use Rattle.vpg_faults.specs.Refusals.{retract_refusal}
use Rattle.vpg_office.specs.Made.{IsMade}
use Rattle.vpg_office.specs.declared.asked.Answer.TheVariants as answer
use Rattle.vpg_office.specs.declared.asked.SessionCall.TheVariants as ask
use Rattle.vpg_office.specs.Fronts.{family_between}
use Rattle.vpg_office.specs.Story.{reply_of}
use Rattle.vpg_office.proofs.Calling.{changed_fits, refused_is}
use Rattle.vpg_office.proofs.changes.RetractCallCall.carry_out.Goals as goal

pub returns-in-Ok-clause-made : goal.returns-in-Ok-clause-made
returns-in-Ok-clause-made g c =
    let is = c.issue_token.ensures.answer ∙ (λ j. answer.Changed (c.issue_token.ensures.token j)) in
    coe 0 1 (k. IsMade g.L.Terms.game g.L.Terms.diagram c.args.desk.now c.args.session (ask.Retract c.args.self.feature) ((sym is) k) c.retract.new.self) (record { step = c.in-Ok.ensures.accepted; hands = tt; named = tt })

pub returns-in-Ok-clause-counted : goal.returns-in-Ok-clause-counted
returns-in-Ok-clause-counted g c =
    let tokens : c.retract.new.self.book.tokens ≡ c.args.desk.now.book.tokens + 1 = ap (λ (b : Book). b.tokens) c.in-Ok.ensures.accepted.step.1 in
    c.issue_token.ensures.more ∙ ap (λ n. n + 1) c.requires.counted ∙ sym tokens

pub returns-in-Err-clause-refused : goal.returns-in-Err-clause-refused
returns-in-Err-clause-refused g c =
    refused_is g.L.Terms.game g.L.Terms.diagram c.args.desk.now (ask.Retract c.args.self.feature) (book.Retract c.args.self.feature) (retract_refusal c.in-Err.fault) (λ r. refl) (λ r. (tt, tt)) c.in-Err.ensures.refused

pub returns-in-Err-clause-counted : goal.returns-in-Err-clause-counted
returns-in-Err-clause-counted g c = c.requires.counted ∙ (λ k. ((sym c.in-Err.ensures.err) k).book.tokens)

pub returns-in-Ok-clause-replies : goal.returns-in-Ok-clause-replies
returns-in-Ok-clause-replies g c = λ front. ap (reply_of (family_between g.L.Terms.game g.L.Terms.diagram) c.args.desk.now.book.present) c.issue_token.ensures.answer

pub returns-in-Ok-clause-fits : goal.returns-in-Ok-clause-fits
returns-in-Ok-clause-fits g c =
    (c.issue_token.ensures.share.0, c.issue_token.ensures.share.1, changed_fits (family_between g.L.Terms.game g.L.Terms.diagram) c.args.desk.now.book.present c.issue_token.result.given.token c.issue_token.result.answer c.issue_token.ensures.answer)
