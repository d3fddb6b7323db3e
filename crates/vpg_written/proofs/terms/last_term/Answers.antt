use Rattle.std.proofs.Common.{arith}
use Rattle.vpg_written.proofs.Parsing.{last_by_length}
use Rattle.vpg_written.proofs.terms.last_term.Goals as goal

pub returns-clause-last : goal.returns-clause-last
returns-clause-last c = λ names actions ts h. last_by_length names actions ts c.args.pieces.now _ _ c.saturating_sub.result (omega arith) c.split_at.ensures.front c.split_at.ensures.back h
