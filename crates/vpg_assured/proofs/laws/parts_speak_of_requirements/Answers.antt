use Rattle.vpg_assured.proofs.Parted.{parts_speak_of_requirements}
use Rattle.vpg_assured.proofs.laws.parts_speak_of_requirements.Goals as goal

pub returns : goal.returns
returns c = parts_speak_of_requirements
