use Rattle.std.proofs.Common.{refl}
use Rattle.vpg_written.proofs.opening.once.Goals as goal

pub returns : goal.returns
returns c = λ g t f h. (t, h, refl)
