use Rattle.vpg_written.proofs.opening.formula.Goals as goal

pub returns : goal.returns
returns c = λ g t h k. c.plain.ensures g _ (c.at.ensures.place g t h k)
