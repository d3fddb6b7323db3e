use Rattle.std.proofs.Common.{◌≡◌, ◌++◌, drop}
use Rattle.vpg_tree.specs.DiagramText.{pairs_text}
use Rattle.vpg_tree.proofs.writing.put_pairs.Given as goal

-- what is written and what is still to write is the whole
abbrev pub invariant-loop-child : goal.invariant-loop-child
invariant-loop-child l =
    l.out.items ++ pairs_text l.names l.word l.parent (drop l.child-index l.children)
    ≡ l.initial.out.items ++ pairs_text l.names l.word l.parent l.children
