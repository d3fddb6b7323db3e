use Rattle.vpg_office.specs.declared.asked.SessionCall.TheVariants as ask
use Rattle.vpg_office.proofs.commits.CommitCallCall.asked.Goals as goal

pub returns-clause-call : goal.returns-clause-call
returns-clause-call g c = λ k. ask.Commit (record { marker = c.of.result.marker; value = c.of.ensures k })
