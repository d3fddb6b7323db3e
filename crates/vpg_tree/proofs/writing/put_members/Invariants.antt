use Rattle.std.proofs.Common.{◌≡◌, ◌++◌, drop}
use Rattle.vpg_tree.specs.DiagramText.{members_text}
use Rattle.vpg_tree.proofs.writing.put_members.Given as goal

-- what is written and what is still to write is the whole
abbrev pub invariant-loop-member : goal.invariant-loop-member
invariant-loop-member l =
    l.out.items ++ members_text l.names (drop l.member-index l.members)
    ≡ l.initial.out.items ++ members_text l.names l.members
