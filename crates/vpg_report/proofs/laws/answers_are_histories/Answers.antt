use Rattle.vpg_report.proofs.Histories.{answers_are_histories}
use Rattle.vpg_report.proofs.laws.answers_are_histories.Goals as goal

pub returns : goal.returns
returns c = answers_are_histories
