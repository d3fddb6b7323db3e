use Rattle.std.proofs.Common.{◌≡◌, ℕ, ◌-◌, ◌<◌, ◌≤◌, ◌∷◌, length, List, sym, ap₂, ◌∙◌, arith}
use Rattle.vpg_diagram.specs.FeatureDiagram.{Line}
use Rattle.vpg_diagram.proofs.KeptLines.{line_at_same, stands_at, lines_before}
use Rattle.vpg_diagram.proofs.diagram.same_lines.Goals as goal

pub returns-then-not-is_same : goal.returns-then-not-is_same
returns-then-not-is_same c =
    let lines = c.args.lines.now in
    let others = c.args.others.now in
    let i = c.loop-place.place - 1 in
    let lt : c.loop-place.place - 1 < length lines = omega (arith, c.loop-place.auto.place, c.loop-place-test.true) in
    let le : c.loop-place.place - 1 < length others = omega (arith, c.if-lines-others.false) in
    let p = stands_at 1 lines i c.index-lines-place.result c.requires.lines lt c.index-lines-place.is in
    let q = stands_at 1 others i c.index-others-place.result c.requires.others le c.index-others-place.is in (
      λ e. absurd cc,
      λ same. let here = line_at_same lines others i c.index-lines-place.result c.index-others-place.result lt le c.index-lines-place.is c.index-others-place.is same in
          let yes = (c.is_same.ensures p.0 q.0 p.1 q.1).1 here in cc,
    )

pub loop-place-preserved : goal.loop-place-preserved
loop-place-preserved c =
    let lines = c.args.lines.now in
    let others = c.args.others.now in
    let i = c.loop-place.place - 1 in
    let some : 0 < c.loop-place.place = omega (arith, c.loop-place-test.true) in
    let lt : c.loop-place.place - 1 < length lines = omega (arith, c.loop-place.auto.place, c.loop-place-test.true) in
    let le : c.loop-place.place - 1 < length others = omega (arith, c.if-lines-others.false) in
    let p = stands_at 1 lines i c.index-lines-place.result c.requires.lines lt c.index-lines-place.is in
    let q = stands_at 1 others i c.index-others-place.result c.requires.others le c.index-others-place.is in
    let here = (c.is_same.ensures p.0 q.0 p.1 q.1).0 c.if-not-is_same.false in
    lines_before lines c.loop-place.place c.index-lines-place.result some (omega arith) c.index-lines-place.is
    ∙ ap₂ (λ (x : Line) (xs : List Line). x ∷ xs) here c.loop-place.invariant
    ∙ sym (lines_before others c.loop-place.place c.index-others-place.result some (omega arith) c.index-others-place.is)
