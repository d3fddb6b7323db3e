use Rattle.vpg_hope.proofs.PlainAgain.{plain_texts_are_read_again}
use Rattle.vpg_hope.proofs.laws.plain_texts_are_read_again.Goals as goal

pub returns : goal.returns
returns c = plain_texts_are_read_again
