use Rattle.std.proofs.Common.{arith}
use Rattle.std.proofs.lemmas.Grind.{common_steps}
use Rattle.vpg_script.proofs.lines.more.Goals as goal

pub returns-else-is_err-clause-end : goal.returns-else-is_err-clause-end
returns-else-is_err-clause-end g c = grind (arith, common_steps)

pub returns-else-is_err-clause-read : goal.returns-else-is_err-clause-read
returns-else-is_err-clause-read g c = grind (arith, common_steps)

pub returns-else-is_err-clause-same : goal.returns-else-is_err-clause-same
returns-else-is_err-clause-same g c = grind (arith, common_steps)

pub returns-else-is_err-clause-ok : goal.returns-else-is_err-clause-ok
returns-else-is_err-clause-ok g c = grind (arith, common_steps)

pub returns-then-is_err-clause-read : goal.returns-then-is_err-clause-read
returns-then-is_err-clause-read g c = grind (arith, common_steps)

pub returns-in-Err-clause-read : goal.returns-in-Err-clause-read
returns-in-Err-clause-read g c = grind (arith, common_steps)

pub returns-else-is_err-clause-few : goal.returns-else-is_err-clause-few
returns-else-is_err-clause-few g c = grind (arith, common_steps)
