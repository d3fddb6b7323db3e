use Rattle.std.proofs.lemmas.Grind.{common_steps}
use Rattle.std.proofs.lemmas.Bool.{false≢true}
use Rattle.std.proofs.Common.{◌∙◌, arith, inl, inr, sym}
use Rattle.vpg_texts.proofs.Shown.{on_ok}
use Rattle.vpg_looks.proofs.drawing.picture.Goals as goal

pub returns-then-has_top-2 : goal.returns-then-has_top-2
returns-then-has_top-2 c =
    on_ok c.winning-then-has_top-2.result _ _
    (λ told. (told.0, (inr (inl (λ high. false≢true (sym c.if-has_top.false ∙ c.has_top.ensures.1 high), c.has_top-else-has_top.ensures.0 c.if-has_top-2.true, told.1.0)), told.1.1))) c.winning-then-has_top-2.ensures

pub returns-then-has_top : goal.returns-then-has_top
returns-then-has_top c =
    on_ok c.winning.result _ _
    (λ told. (told.0, (inl (c.has_top.ensures.0 c.if-has_top.true, told.1.0), told.1.1))) c.winning.ensures

pub returns-else-has_top-2 : goal.returns-else-has_top-2
returns-else-has_top-2 c = grind (arith, common_steps)
