use Rattle.std.proofs.Common.{◌≡◌, refl, sym, ap, ◌∙◌}
use Rattle.vpg_desk.specs.Book.{Book}
use Rattle.vpg_faults.specs.Refusals.{commit_refusal}
use Rattle.vpg_office.specs.Story.{IsOf}
use Rattle.vpg_office.specs.declared.asked.SessionCall.TheVariants as ask
use Rattle.vpg_office.proofs.Committing.{lawful_harvest, refused_harvest}
use Rattle.vpg_office.proofs.commits.CommitCallCall.carry_out.Goals as goal

pub returns-in-Ok-clause-made : goal.returns-in-Ok-clause-made
returns-in-Ok-clause-made g c =
    let ours : IsOf g.L.Terms.game g.L.Terms.diagram c.args.self.harvest.order = (c.in-Ok.ensures.same.0 ∙ c.requires.of.0, c.in-Ok.ensures.same.1 ∙ c.requires.of.1) in
    record {
      step = c.in-Ok.ensures.accepted c.args._session;
      hands = λ _. lawful_harvest g.L.Terms.game g.L.Terms.diagram c.args.self.harvest c.requires.opens c.order.ensures.harvest ours;
      named = ((λ _. ours), (λ _. refl));
    }

pub returns-in-Ok-clause-counted : goal.returns-in-Ok-clause-counted
returns-in-Ok-clause-counted g c =
    let tokens : c.hand_in.new.desk.book.tokens ≡ c.args.desk.now.book.tokens = ap (λ (b : Book). b.tokens) (c.in-Ok.ensures.accepted 0).step.1 in
    c.requires.counted ∙ sym tokens

pub returns-in-Err-clause-refused : goal.returns-in-Err-clause-refused
returns-in-Err-clause-refused g c =
    refused_harvest g.L.Terms.game g.L.Terms.diagram c.args.desk.now c.requires.opens c.requires.of c.args.self.harvest c.order.ensures.harvest (ask.Commit (record { marker = record {}; value = c.args.self.harvest })) (commit_refusal c.in-Err.field-0.fault)
    (λ r. refl) (λ r is. is) c.in-Err.ensures.refused

pub hand_in-requires : goal.hand_in-requires
hand_in-requires g c = record { own = λ own. let is = c.requires.takes own in (is.0 ∙ sym c.requires.of.0, is.1 ∙ sym c.requires.of.1) }

pub returns-in-Ok-clause-gives : goal.returns-in-Ok-clause-gives
returns-in-Ok-clause-gives g c = λ front last. (c.in-Ok.ensures.same.0 ∙ c.requires.of.0, c.in-Ok.ensures.same.1 ∙ c.requires.of.1)

pub returns-in-Err-clause-counted : goal.returns-in-Err-clause-counted
returns-in-Err-clause-counted g c = c.requires.counted ∙ (λ k. ((sym c.in-Err.ensures.err) k).book.tokens)

pub returns-in-Err-clause-back : goal.returns-in-Err-clause-back
returns-in-Err-clause-back g c = λ k. record { alloc = c.args.self.alloc; harvest = c.in-Err.ensures.back k; own = c.args.self.own }
