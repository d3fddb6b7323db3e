use Rattle.std.proofs.Common.{◌≡◌, drop}
use Rattle.vpg_uvl.specs.Comments.{open_comment, open_from}
use Rattle.vpg_uvl.proofs.comments.open_comment.Given as goal

abbrev pub invariant-loop-at : goal.invariant-loop-at
invariant-loop-at l = open_comment l.text ≡ open_from l.start l.place l.at (drop l.at l.text)
