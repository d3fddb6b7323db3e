use Rattle.std.proofs.lemmas.Grind.{common_steps}
use Rattle.std.proofs.Common.{rules, arith}
use Rattle.vpg_partial.specs.Known.{IsClosed}
use Rattle.vpg_partial.proofs.TableSteps.{contradicts_at}
use Rattle.vpg_partial.proofs.WorklistSteps.{advances_by}
use Rattle.vpg_partial.proofs.propagation.visit.Goals as goal

pub returns-else-is_err-clause-advances : goal.returns-else-is_err-clause-advances
returns-else-is_err-clause-advances c =
    advances_by c.args.clauses.now c.args.counts.now c.args.known.now c.add.new.known c.args.waiting.now.items c.push.new.self.items c.in-Some.literal
    c.in-Some.ensures.missing c.in_ok-add.ensures.ok (search rules)

pub returns-in_err-add-clause-contradiction : goal.returns-in_err-add-clause-contradiction
returns-in_err-add-clause-contradiction c =
    λ e. contradicts_at (IsClosed c.args.clauses.now c.args.counts.now) c.args.known.now c.in-Some.literal c.in_err-add.ensures.err c.in-Some.ensures.missing.follows

pub returns-else-is_err-clause-contradiction : goal.returns-else-is_err-clause-contradiction
returns-else-is_err-clause-contradiction c = grind (arith, common_steps)

pub returns-then-is_err-clause-contradiction : goal.returns-then-is_err-clause-contradiction
returns-then-is_err-clause-contradiction c = grind (arith, common_steps)

pub returns-in_default-clause-done : goal.returns-in_default-clause-done
returns-in_default-clause-done c = grind (arith, common_steps)

pub returns-in_default-clause-contradiction : goal.returns-in_default-clause-contradiction
returns-in_default-clause-contradiction c = grind (arith, common_steps)

pub returns-in_default-clause-advances : goal.returns-in_default-clause-advances
returns-in_default-clause-advances c = grind (arith, common_steps)

pub add-requires : goal.add-requires
add-requires c = grind (arith, common_steps)
