use Rattle.std.proofs.Common.{◌≡◌, List, arith, sym, ap, subst, ◌∙◌}
use Rattle.vpg_guards.specs.declared.tri.Tri.{Tri}
use Rattle.vpg_diagram.specs.FeatureDiagram.{feature_count}
use Rattle.vpg_measure.specs.Games.{GamesView}
use Rattle.vpg_partial.specs.TableLaws.{IsKnownTable}
use Rattle.vpg_sets.proofs.Growth.{grown_then}
use Rattle.vpg_why.specs.Explained.{choices}
use Rattle.vpg_winners.proofs.Learned.{all_needed, met_grown, next_known, next_open}
use Rattle.vpg_winners.proofs.gathering.gather_all.Goals as goal
use Rattle.vpg_winners.proofs.gathering.gather_all.Goals.{in-Unknown+in_ok-gather, in_default}

pub loop-feature-preserved : goal.loop-feature-preserved
loop-feature-preserved c =
    let l = c.loop-feature in
    let order = c.args.order.now in
    let own = choices order.decisions in
    let known = c.known-known.result.now in
    let table = subst (λ (k : List Tri). IsKnownTable order.diagram.lines own k)
    (sym (c.known-known.ensures ∙ ap (λ (g : GamesView). g.known) c.deref.ensures)) c.games.ensures.known in
    elim c.match-tri.branch [
      | in-Unknown+in_ok-gather w ↦ record {
        grown = rw w.sets-is (grown_then c.args.sets.now l.sets w.gather.new.sets l.invariant.grown
            w.in_ok-gather.ensures.grown);
        findings = λ aim met. rw w.findings-is (w.in_ok-gather.ensures.findings order.game order.diagram aim own
            (met_grown order.game order.diagram aim own c.args.sets.now l.sets c.args.set l.invariant.grown c.requires.set met)
            (l.invariant.findings aim met));
        forced = λ aim met. rw w.findings-is
            (next_open order.game order.diagram aim own c.args.product.now known c.games.ensures.is_diagram table
            (met.each c.args.product.now c.requires.long c.requires.member).0
            (met.each c.args.product.now c.requires.long c.requires.member).1
            l.findings.forced.items w.gather.new.findings.forced.items l.feature
            (sym c.value-tri.ensures ∙ w.in-Unknown.is)
            (rw w.chosen-value.ensures at (w.in_ok-gather.ensures.gathered order.game order.diagram aim own
            (met_grown order.game order.diagram aim own c.args.sets.now l.sets c.args.set l.invariant.grown c.requires.set met)
            (l.invariant.findings aim met)))
            (l.invariant.forced aim met));
      }
      | in_default w ↦ record {
        grown = rw w.sets-is l.invariant.grown;
        findings = λ aim met. rw w.findings-is (l.invariant.findings aim met);
        forced = λ aim met. rw w.findings-is
            (next_known order.game order.diagram aim own c.args.product.now known c.games.ensures.is_diagram table
            (met.each c.args.product.now c.requires.long c.requires.member).0
            (met.each c.args.product.now c.requires.long c.requires.member).1
            l.findings.forced.items l.feature (λ e. w.in_default.not-Unknown (c.value-tri.ensures ∙ e))
            (l.invariant.forced aim met));
      }
    ]

pub returns-clause-needs : goal.returns-clause-needs
returns-clause-needs c aim met =
    let order = c.args.order.now in
    let l = c.loop-feature in
    let count = rw (c.deref-2.ensures, c.diagram.ensures.diagram) at c.features-features.ensures.count in
    let e : l.feature ≡ feature_count order.diagram.lines =
    omega (arith, count, c.loop-feature-test.false, l.auto.feature-end) in
    all_needed order.game order.diagram aim (choices order.decisions) l.findings.forced.items l.feature e
    (l.invariant.forced aim met)
