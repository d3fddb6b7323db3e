use Rattle.std.proofs.Common.{refl}
use Rattle.vpg_written.proofs.opening.choice.Goals as goal

pub returns : goal.returns
returns c = λ g s t f a b task. (_, _, c.in_ok-first.ensures g f _ (c.in_ok-copy.ensures g f task) (c.once-step.ensures g s f a), c.in_ok-second.ensures g f _ task (c.once-other.ensures g t f b), refl)
