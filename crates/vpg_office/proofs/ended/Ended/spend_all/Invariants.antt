use Rattle.std.proofs.Common.{◌≡◌, ◌+◌, length, vec_len}
use Rattle.vpg_office.proofs.ended.Ended.spend_all.Given as goal

abbrev pub invariant-loop-token : goal.invariant-loop-token
invariant-loop-token g l = l.self + length l.fn.tokens.items ≡ l.fn.self + vec_len l.tokens

abbrev pub decreases-loop-token : goal.decreases-loop-token
decreases-loop-token g l = vec_len l.tokens
