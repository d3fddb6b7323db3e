use Rattle.std.proofs.Common.{◌≡◌, ℕ, ◌+◌, ◌∙◌, ◌∷◌, max, sym, ap, map, drop, arith}
use Rattle.std.specs.Prelude.{slice_index}
use Rattle.std.proofs.lemmas.List.{drop_more}
use Rattle.vpg_measure.specs.Lifts.{greatest_of}
use Rattle.vpg_measure.proofs.lifts.greatest_value.Goals as goal

pub loop-w-preserved : goal.loop-w-preserved
loop-w-preserved c =
    let kept = c.args.kept.now in
    let at : ℕ → ℕ = λ w. slice_index c.args.table.now w in
    let rest = drop (c.loop-w.w-index + 1) kept in
    let greater : c.max-greatest.result ≡ max c.loop-w.greatest c.get.result = c.max-greatest.ensures in
    let all : max (max c.loop-w.greatest c.get.result) (greatest_of (map at rest)) ≡ max c.loop-w.greatest (greatest_of (c.get.result ∷ map at rest)) = omega arith in
    ap (λ n. max n (greatest_of (map at rest))) greater
    ∙ all
    ∙ ap (λ n. max c.loop-w.greatest (greatest_of (n ∷ map at rest))) c.get.ensures
    ∙ sym (ap (λ ws. max c.loop-w.greatest (greatest_of (map at ws))) (drop_more kept c.loop-w.w-index 0 c.loop-w-test.true))
    ∙ c.loop-w.invariant
