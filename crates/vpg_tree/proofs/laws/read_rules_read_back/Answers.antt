use Rattle.std.proofs.Common.{◌≤◌, sym, subst}
use Rattle.vpg_rules.specs.Grammar.{index_or_end}
use Rattle.vpg_tree.specs.Laws.{JoinsTwo, open_signs}
use Rattle.vpg_tree.proofs.ReadBack as back
use Rattle.vpg_tree.proofs.OpenSigns as signs
use Rattle.vpg_tree.proofs.laws.read_rules_read_back.Goals as goal

pub returns : goal.returns
returns c names text rule d are spells is below =
    back.written_back names are d below
    (subst JoinsTwo (sym is) (signs.read_joins (index_or_end names) spells.rule rule spells.is))
    (subst (λ x. open_signs x ≤ 64) (sym is) (signs.read_few (index_or_end names) spells.rule rule spells.is))
