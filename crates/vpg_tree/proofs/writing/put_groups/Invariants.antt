use Rattle.std.proofs.Common.{◌≡◌, ◌++◌, drop}
use Rattle.vpg_tree.specs.Lines.{lines_from}
use Rattle.vpg_tree.specs.DiagramText.{lines_text}
use Rattle.vpg_tree.proofs.writing.put_groups.Given as goal

-- what is written and what is still to write is the whole
abbrev pub invariant-loop-number : goal.invariant-loop-number
invariant-loop-number l =
    l.out.items ++ lines_text l.names (lines_from l.number (drop l.number l.groups) l.places)
    ≡ l.initial.out.items ++ lines_text l.names (lines_from 0 l.groups l.places)
