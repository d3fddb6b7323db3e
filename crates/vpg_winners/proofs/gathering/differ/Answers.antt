use Rattle.std.proofs.Common.{◌≡◌, List, [], arith, sym, ap, subst, ◌∙◌}
use Rattle.vpg_guards.specs.declared.tri.Tri.{Tri}
use Rattle.vpg_diagram.specs.FeatureDiagram.{feature_count}
use Rattle.vpg_measure.specs.Games.{GamesView}
use Rattle.vpg_partial.specs.TableLaws.{IsKnownTable}
use Rattle.vpg_why.specs.Explained.{choices}
use Rattle.vpg_winners.proofs.Learned.{all_needed, next_known, none_yet}
use Rattle.vpg_winners.proofs.Samples.{next_differs}
use Rattle.vpg_winners.proofs.gathering.differ.Goals as goal
use Rattle.vpg_winners.proofs.gathering.differ.Goals.{in-Unknown+else-not-differ_in, in_default}

pub loop-feature-init : goal.loop-feature-init
loop-feature-init c aim p r m are =
    none_yet c.args.order.now.game c.args.order.now.diagram aim (choices c.args.order.now.decisions)

pub loop-feature-preserved : goal.loop-feature-preserved
loop-feature-preserved c aim p r m are =
    let l = c.loop-feature in
    let order = c.args.order.now in
    let own = choices order.decisions in
    let known = c.known-known.result.now in
    let table = subst (λ (k : List Tri). IsKnownTable order.diagram.lines own k)
    (sym (c.known-known.ensures ∙ ap (λ (g : GamesView). g.known) c.deref.ensures)) c.games.ensures.known in
    elim c.match-value.branch [
      | in-Unknown+else-not-differ_in w ↦ next_differs order.game order.diagram aim own known c.games.ensures.is_diagram table p r m
          c.args.products.now are l.feature (sym c.value-value.ensures ∙ w.in-Unknown.is)
          (w.differ_in.ensures.has w.if-not-differ_in.false) (w.differ_in.ensures.lacks w.if-not-differ_in.false)
          (l.invariant aim p r m are)
      | in_default w ↦ next_known order.game order.diagram aim own p known c.games.ensures.is_diagram table r m [] l.feature
          (λ e. w.in_default.not-Unknown (c.value-value.ensures ∙ e)) (l.invariant aim p r m are)
    ]

pub returns : goal.returns
returns c shown aim p r m are =
    let order = c.args.order.now in
    let l = c.loop-feature in
    let count = rw (c.deref-2.ensures, c.diagram.ensures.diagram) at c.features-features.ensures.count in
    let e : l.feature ≡ feature_count order.diagram.lines =
    omega (arith, count, c.loop-feature-test.false, l.auto.feature-end) in
    all_needed order.game order.diagram aim (choices order.decisions) [] l.feature e (l.invariant aim p r m are)
