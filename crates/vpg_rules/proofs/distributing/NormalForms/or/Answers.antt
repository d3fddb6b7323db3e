use Rattle.vpg_rules.specs.Clauses.{crossed}
use Rattle.std.proofs.Common.{◌++◌}
use Rattle.vpg_rules.proofs.distributing.NormalForms.or.Goals as goal

pub returns : goal.returns
returns c xs ys us vs left right =
    c.inverted-3.ensures (ys ++ vs) (crossed xs us) (c.in_ok-forms.ensures ys xs vs us (c.inverted.ensures xs ys left) (c.inverted-2.ensures us vs right))
