use Rattle.vpg_report.proofs.OneText.{settled_answers_are_one}
use Rattle.vpg_report.proofs.OneRun.{settled_runs_are_one}
use Rattle.vpg_report.proofs.laws.settled_answers_are_one.Goals as goal

pub returns-clause-lines : goal.returns-clause-lines
returns-clause-lines c = settled_answers_are_one

pub returns-clause-runs : goal.returns-clause-runs
returns-clause-runs c = settled_runs_are_one
