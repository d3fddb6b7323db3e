use Rattle.vpg_promises.proofs.Promised.{verdicts_speak_of_texts}
use Rattle.vpg_promises.proofs.laws.verdicts_speak_of_texts.Goals as goal

pub returns : goal.returns
returns c = verdicts_speak_of_texts
