use Rattle.std.proofs.Common.{Bool, true, Ok, Err, refl}
use Rattle.std.specs.Prelude.{OnOk}
use Rattle.std.specs.Bool.{Decides}
use Rattle.vpg_desk.specs.Book as book
use Rattle.vpg_desk.specs.Commit.{IsOrderOf, handed_in}
use Rattle.vpg_faults.specs.Refusals.{commit_refusal}
use Rattle.vpg_desk.specs.State.{Replies}
use Rattle.vpg_office.proofs.Committing.{refused_then}
use Rattle.vpg_office.proofs.commits.hand_in.Goals as goal

pub returns-then-own-clause-refused : goal.returns-then-own-clause-refused
returns-then-own-clause-refused c =
    let state = c.args.desk.now in
    let harvest = c.args.harvest in
    refused_then c.commit_own.result (λ r. commit_refusal r.fault) (λ refusal. Replies state (book.Commit (handed_in true harvest)) (book.Refused refusal))
    (λ refusal. (b : Bool) × (Decides b (IsOrderOf state harvest.order) × Replies state (book.Commit (handed_in b harvest)) (book.Refused refusal)))
    (λ refusal replies. (true, (((λ _. c.requires.own c.if-own.true), (λ _. refl)), replies))) c.commit_own.ensures.refused

pub returns-then-own-clause-same : goal.returns-then-own-clause-same
returns-then-own-clause-same c = elim c.commit_own.result as (λ r. OnOk r (IsOrderOf c.args.desk.now c.args.harvest.order)) [ Ok added ↦ c.requires.own c.if-own.true | Err fault ↦ tt ]
