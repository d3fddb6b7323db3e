use Rattle.std.proofs.Common.{◌≡◌, replicate, []}
use Rattle.vpg_features.proofs.index.Index.new.Given as goal

-- an empty row for each feature so far
abbrev pub invariant-loop : goal.invariant-loop
invariant-loop l = l.rows.items ≡ replicate l.counter []
