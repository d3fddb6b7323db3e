use Rattle.std.proofs.Common.{◌≡◌, true, false, refl, sym, ◌∙◌, arith}
use Rattle.vpg_why.proofs.searching.search_all.Goals as goal

clash : false ≡ true → ⊥
clash e = cc

pub returns-then-is_small-clause-settled : goal.returns-then-is_small-clause-settled
returns-then-is_small-clause-settled c = c.in_ok-found.ensures.settled refl (omega arith)

pub returns-clause-settled : goal.returns-clause-settled
returns-clause-settled c s = absurd (clash (sym c.if-is_small.false ∙ c.in_ok-is_small.ensures s.1))
