use Rattle.std.proofs.Common.{◌≡◌, IfSome, refl, sym, ap, ◌∙◌, arith, subst, eq-eqb}
use Rattle.std.specs.Prelude.{IsTrue}
use Rattle.vpg_desk.specs.Book as book
use Rattle.vpg_desk.specs.Book.{Book}
use Rattle.vpg_desk.specs.Desk.{family_of}
use Rattle.vpg_desk.specs.History.{gives_redo}
use Rattle.vpg_faults.specs.Refusals.{redo_refusal}
use Rattle.vpg_desk.specs.State.{IsStep, Replies, setting_of}
use Rattle.vpg_office.specs.Fronts.{family_between}
use Rattle.vpg_office.specs.Token.{EndsWith, TokenView}
use Rattle.vpg_office.specs.declared.asked.SessionCall.TheVariants as ask
use Rattle.vpg_office.proofs.Calling.{refused_is}
use Rattle.vpg_office.proofs.Swinging.{redone_back, redone_same, redone_tokens}
use Rattle.vpg_office.proofs.tokens.RedoCallCall.carry_out.Goals as goal

pub returns-in-Ok-clause-made : goal.returns-in-Ok-clause-made
returns-in-Ok-clause-made g c = record {
  step = coe 0 1 (k. IsStep c.args.desk.now c.args._session (book.Redo (c.token.view_is k).serial) (book.Redone ((sym c.serial.ensures) k)) c.redo.new.self) (c.in-Ok.ensures.accepted c.args._session);
  hands = tt;
  named = tt;
}

pub returns-in-Ok-clause-replies : goal.returns-in-Ok-clause-replies
returns-in-Ok-clause-replies g c = λ front k. book.Redone (c.serial.ensures k)

pub returns-in-Ok-clause-fits : goal.returns-in-Ok-clause-fits
returns-in-Ok-clause-fits g c = (c.audit.ensures.amount ∙ c.token.invariant.0, c.audit.ensures.parts ∙ c.token.invariant.1, eq-eqb _ _ c.serial.ensures)

pub returns-in-Ok-clause-gives : goal.returns-in-Ok-clause-gives
returns-in-Ok-clause-gives g c = λ front last.
    let same = redone_same (family_of (setting_of c.args.desk.now)) c.args.desk.now.book c.token.inside.token c.in-Ok.token (c.in-Ok.ensures.accepted 0).step.0 ∙ (λ k. (c.token.view_is k).serial) in
    let ends = coe 0 1 (k. EndsWith (λ reply. IsTrue (gives_redo (c.token.view_is k).serial reply)) (c.token.view_is k).history) c.token.invariant.2 in
    (refl, redone_back (family_between g.L.Terms.game g.L.Terms.diagram) last.log front c.args.self.token.history last.session c.args.self.token.serial c.in-Ok.token same last.has.1 ends last.is last.history.legal)

pub returns-in-Ok-clause-counted : goal.returns-in-Ok-clause-counted
returns-in-Ok-clause-counted g c =
    let tokens : c.redo.new.self.book.tokens ≡ c.args.desk.now.book.tokens = ap (λ (b : Book). b.tokens) (c.in-Ok.ensures.accepted 0).step.1 ∙ redone_tokens c.args.desk.now.book c.args.desk.now.book.future in
    c.audit.ensures.same ∙ c.requires.counted ∙ sym tokens

pub redo-requires : goal.redo-requires
redo-requires g c = omega (arith, c.audit.ensures.bound, c.token.invariant.0, c.requires.counted)

pub invariant_of-token : goal.invariant_of-token
invariant_of-token g c = (
  c.audit.ensures.amount ∙ c.token.invariant.0,
  c.audit.ensures.parts ∙ c.token.invariant.1,
  coe 0 1 (k. EndsWith (λ reply. IsTrue (gives_redo ((sym c.in-Err.ensures.back) k) reply)) c.token.inside.place) c.token.invariant.2,
)

pub returns-in-Err-clause-refused : goal.returns-in-Err-clause-refused
returns-in-Err-clause-refused g c =
    refused_is g.L.Terms.game g.L.Terms.diagram c.args.desk.now (ask.Redo c.args.self.token.serial) (book.Redo c.args.self.token.serial) (redo_refusal c.in-Err.field-0.fault) (λ r. refl) (λ r. (tt, tt))
    (subst (λ (t : TokenView). IfSome (redo_refusal c.in-Err.field-0.fault) (λ r. Replies c.args.desk.now (book.Redo t.serial) (book.Refused r))) c.token.view_is c.in-Err.ensures.refused)

pub returns-in-Err-clause-counted : goal.returns-in-Err-clause-counted
returns-in-Err-clause-counted g c = c.audit.ensures.same ∙ c.requires.counted ∙ (λ k. ((sym c.in-Err.ensures.err) k).book.tokens)

pub returns-in-Err-clause-back : goal.returns-in-Err-clause-back
returns-in-Err-clause-back g c =
    let same : ◌≡◌ {A = TokenView} (record { serial = c.in-Err.field-0.token; history = c.token.inside.place }) c.args.self.token = (λ k. record { serial = c.in-Err.ensures.back k; history = c.token.inside.place }) ∙ c.token.view_is in
    λ k. record { alloc = c.args.self.alloc; token = same k }
