use Rattle.vpg_uvl.proofs.ModelProofs.{memory_told}
use Rattle.vpg_uvl.proofs.reading.read.Goals as goal

pub returns-in-Err-clause-only : goal.returns-in-Err-clause-only
returns-in-Err-clause-only c tree spells =
    memory_told c.args.text.now c.in-Err.fault c.told.result (c.in-Err.ensures.only tree spells) c.told.ensures
