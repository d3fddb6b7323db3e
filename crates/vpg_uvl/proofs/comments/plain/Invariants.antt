use Rattle.std.proofs.Common.{◌≡◌, ◌++◌, drop}
use Rattle.vpg_uvl.specs.Comments.{plain, plain_from}
use Rattle.vpg_uvl.proofs.comments.plain.Given as goal

abbrev pub invariant-loop-at : goal.invariant-loop-at
invariant-loop-at l = plain l.text ≡ l.bytes.items ++ plain_from l.place (drop l.at l.text)
