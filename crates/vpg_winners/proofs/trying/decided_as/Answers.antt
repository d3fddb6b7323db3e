use Rattle.std.proofs.Common.{◌≡◌, ℕ, ◌++◌, Bool, List, arith, sym, ap, ◌∙◌, append-nil}
use Rattle.vpg_diagram.specs.FeatureDiagram.{feature_count}
use Rattle.vpg_partial.specs.declared.decision.Decision.{Decision}
use Rattle.vpg_why.specs.Explained.{choices}
use Rattle.vpg_why.specs.Suffices.{choice}
use Rattle.vpg_winners.specs.Sampled.{choices_of}
use Rattle.vpg_winners.proofs.Tried.{next_choice}
use Rattle.vpg_winners.proofs.trying.decided_as.Goals as goal

pub loop-feature-init : goal.loop-feature-init
loop-feature-init c =
    ap (λ (ds : List Decision). choices ds) (c.in_ok-more.ensures.items ∙ c.decisions.ensures.decisions)
    ∙ sym (append-nil (choices c.args.order.now.decisions))

pub loop-feature-preserved : goal.loop-feature-preserved
loop-feature-preserved c =
    let l = c.loop-feature in
    next_choice c.args.product.now (choices c.args.order.now.decisions) l.feature l.more.items _ _
    (ap (λ (b : Bool). choice l.feature b) c.chosen-value.ensures) c.in_ok-push.ensures.items l.invariant

pub returns : goal.returns
returns c =
    let order = c.args.order.now in
    let l = c.loop-feature in
    let count = rw (c.deref.ensures, c.diagram.ensures.diagram) at c.features-features.ensures.count in
    let e : l.feature ≡ feature_count order.diagram.lines =
    omega (arith, count, c.loop-feature-test.false, l.auto.feature-end) in
    l.invariant ∙ ap (λ (n : ℕ). choices order.decisions ++ choices_of c.args.product.now n) e
