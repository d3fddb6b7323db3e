use Rattle.std.proofs.Common.{◌≡◌, true, false, refl, sym, ◌∙◌}
use Rattle.std.specs.Prelude.{None}
use Rattle.vpg_sides.specs.declared.which.Which.TheVariants.{Hopeful, Dual}
use Rattle.vpg_steps.proofs.Paths.{ok_to, path_hopeless, path_sure, path_neither}
use Rattle.vpg_steps.proofs.tracing.path_at.Goals as goal

clash : false ≡ true → ⊥
clash e = cc

pub returns-then-has_top : goal.returns-then-has_top
returns-then-has_top c =
    ok_to _ _ c.won.result
    (λ found won. path_hopeless c.args.order.now c.args.behaviour.now c.args.limits c.args.vertex found (c.has_top.ensures.0 c.if-has_top.true) won) c.won.ensures

pub returns-then-has_top-2 : goal.returns-then-has_top-2
returns-then-has_top-2 c =
    ok_to _ _ c.won-then-has_top-2.result
    (λ found won. path_sure c.args.order.now c.args.behaviour.now c.args.limits c.args.vertex found (λ high. clash (sym c.if-has_top.false ∙ c.has_top.ensures.1 high)) (c.has_top-else-has_top.ensures.0 c.if-has_top-2.true) won)
    c.won-then-has_top-2.ensures

pub returns-else-has_top-2 : goal.returns-else-has_top-2
returns-else-has_top-2 c =
    path_neither c.args.order.now c.args.behaviour.now c.args.limits c.args.vertex None (λ high. clash (sym c.if-has_top.false ∙ c.has_top.ensures.1 high))
    (λ high. clash (sym c.if-has_top-2.false ∙ c.has_top-else-has_top.ensures.1 high)) refl
