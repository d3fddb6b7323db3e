use Rattle.vpg_hope.proofs.Pages.{more_choices_are_harder}
use Rattle.vpg_hope.proofs.laws.more_choices_are_harder.Goals as goal

pub returns : goal.returns
returns c = more_choices_are_harder
