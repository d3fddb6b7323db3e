use Rattle.std.proofs.Common.{ℕ, List, ap, ◌∙◌}
use Rattle.vpg_diagram.specs.declared.clause.Literal.{Literal}
use Rattle.vpg_winners.specs.Pairs.{first_mark, mark_from}
use Rattle.vpg_winners.proofs.pairing.mark_of.Goals as goal

pub returns : goal.returns
returns c = c.mark_from.ensures
    ∙ ap (λ (m : ℕ). mark_from m c.deref.result.now) c.first_mark.ensures
    ∙ ap (λ (ls : List Literal). mark_from (first_mark c.args.part.now.winner) ls) c.deref.ensures.value
