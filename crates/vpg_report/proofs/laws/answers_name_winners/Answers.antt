use Rattle.vpg_report.proofs.Winning.{answers_name_winners}
use Rattle.vpg_report.proofs.laws.answers_name_winners.Goals as goal

pub returns : goal.returns
returns c = answers_name_winners
