use Rattle.std.proofs.Common.{◌≡◌, ◌++◌, drop, map}
use Rattle.vpg_rules.specs.View.{constraint_of}
use Rattle.vpg_tree.specs.Lines.{constraint_line}
use Rattle.vpg_tree.specs.DiagramText.{lines_text}
use Rattle.vpg_tree.proofs.writing.put_constraints.Given as goal

-- what is written and what is still to write is the whole
abbrev pub invariant-loop-constraint : goal.invariant-loop-constraint
invariant-loop-constraint l =
    l.out.items ++ lines_text l.names (map constraint_line (map constraint_of (drop l.constraint-index l.constraints)))
    ≡ l.initial.out.items ++ lines_text l.names (map constraint_line (map constraint_of l.constraints))
