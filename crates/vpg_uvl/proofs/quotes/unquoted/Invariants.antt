use Rattle.std.proofs.Common.{◌≡◌, ◌++◌, drop}
use Rattle.vpg_uvl.specs.Quotes.{unquoted, unquoted_from}
use Rattle.vpg_uvl.proofs.quotes.unquoted.Given as goal

abbrev pub invariant-loop-at : goal.invariant-loop-at
invariant-loop-at l = unquoted l.text ≡ l.bytes.items ++ unquoted_from l.is_open (drop l.at l.text)
