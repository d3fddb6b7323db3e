use Rattle.std.proofs.Common.{◌∙◌, arith}
use Rattle.std.proofs.lemmas.Grind.{common_steps}
use Rattle.vpg_diagram.proofs.ReadLoop.{fault_through}
use Rattle.vpg_diagram.proofs.reading.read_text.Goals as goal

pub returns-in-Ok-clause-read : goal.returns-in-Ok-clause-read
returns-in-Ok-clause-read c = c.in_ok-root.ensures.root ∙ c.in-Ok.ensures.read

pub returns-in-Err-clause-refused : goal.returns-in-Err-clause-refused
returns-in-Err-clause-refused c = fault_through _ _ c.in-Err.fault c.in_ok-root.ensures.root c.in-Err.ensures.refused

pub read_behind-requires-clause-room : goal.read_behind-requires-clause-room
read_behind-requires-clause-room c = grind (arith, common_steps)
