use Rattle.vpg_assured.proofs.Assured.{answers_speak_of_requirements}
use Rattle.vpg_assured.proofs.laws.answers_speak_of_requirements.Goals as goal

pub returns : goal.returns
returns c = answers_speak_of_requirements
