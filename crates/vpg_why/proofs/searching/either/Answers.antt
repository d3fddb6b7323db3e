use Rattle.std.proofs.Common.{false, ◌||◌, Bool, List, [], ◌∷◌, ◌++◌, get_or, sym, ap, arith, ◌∙◌}
use Rattle.vpg_features.proofs.Noted.{any_default}
use Rattle.vpg_why.proofs.Reasons.{either_more}
use Rattle.vpg_why.proofs.searching.either.Goals as goal

pub loop-i-preserved : goal.loop-i-preserved
loop-i-preserved c =
    let ns = c.args.one.now in let ms = c.args.other.now in let i = c.loop-i.i in
    c.in_ok-push.ensures.items ∙ ap (λ (xs : List Bool). xs ++ (get_or ns i false || get_or ms i false) ∷ []) c.loop-i.invariant
    ∙ sym (either_more ns ms i (get_or ns i false) (get_or ms i false) c.requires (omega (arith, c.loop-i-test.true, c.loop-i.auto.i-end))
    (any_default ns i (get_or ns i false) false (omega (arith, c.loop-i-test.true, c.loop-i.auto.i-end)))
    (any_default ms i (get_or ms i false) false (omega (arith, c.loop-i-test.true, c.loop-i.auto.i-end, c.requires))))
