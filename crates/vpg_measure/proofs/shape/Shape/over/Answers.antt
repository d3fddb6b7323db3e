use Rattle.std.proofs.Common.{◌≡◌, ◌<◌, ◌+◌, ◌*◌, ◌∙◌, sym, ap, arith, length, reverse, cond, slice_index_or}
use Rattle.std.proofs.lemmas.Grind.{common_steps}
use Rattle.std.proofs.lemmas.List.{get_or_read, length_push}
use Rattle.std.proofs.Math.Nat.{mul-le-mul_left, mul_comm, one-mul}
use Rattle.vpg_game.specs.Levels.{bound_of, product_below, is_odd, count_of}
use Rattle.vpg_game.proofs.Products.{product_pos, product_within, product_more}
use Rattle.vpg_measure.proofs.Products.{levels_less, pushed_level, pushed_weight, weights_made}
use Rattle.vpg_measure.proofs.shape.Shape.over.Goals as goal
use Rattle.vpg_measure.proofs.shape.Shape.over.Goals.{then-count-gt0+in_ok-push-2, else-count-gt0}

pub overflow_add-top : goal.overflow_add-top
overflow_add-top c =
    let ps = c.args.priorities.now in
    let counts = c.in_ok-counts.counts.items in
    let p = c.loop-priority.priority in
    let within : p < length counts = omega (arith, c.in_ok-counts.counts.ok.0) in
    let count : c.index-count.result.now ≡ slice_index_or counts p 0 =
    get_or_read counts p c.index-count.result.now within c.index-count.ensures 0 in
    let most = product_within ps counts p c.in_ok-counts.ensures.counts within in
    let least = mul-le-mul_left {m = 1} {n = product_below p ps} (slice_index_or counts p 0 + 1) (product_pos p ps) in
    omega (arith, c.requires)

pub overflow_mul-top : goal.overflow_mul-top
overflow_mul-top c =
    let ps = c.args.priorities.now in
    let counts = c.in_ok-counts.counts.items in
    let p = c.loop-priority.priority in
    let within : p < length counts = omega (arith, c.in_ok-counts.counts.ok.0) in
    let count : c.index-count.result.now ≡ slice_index_or counts p 0 =
    get_or_read counts p c.index-count.result.now within c.index-count.ensures 0 in
    let most = product_within ps counts p c.in_ok-counts.ensures.counts within in
    rw (count, c.loop-priority.invariant.product) (omega (arith, c.requires))

pub loop-priority-preserved : goal.loop-priority-preserved
loop-priority-preserved c =
    let ps = c.args.priorities.now in
    let counts = c.in_ok-counts.counts.items in
    let p = c.loop-priority.priority in
    let within : p < length counts = omega (arith, c.in_ok-counts.counts.ok.0) in
    let count : c.index-count.result.now ≡ slice_index_or counts p 0 =
    get_or_read counts p c.index-count.result.now within c.index-count.ensures 0 in
    let counted : c.index-count.result.now ≡ cond (is_odd p) (count_of p ps) 0 = count ∙ c.in_ok-counts.ensures.counts.each p within in
    let x = c.index-count.result.now in
    let more = product_more p x ps counted in
    let product : c.if-count-gt0.top ≡ product_below (p + 1) ps =
    elim c.if-count-gt0.branch [
      | then-count-gt0+in_ok-push-2 w ↦
          w.top-is ∙ ap (λ t. t * (x + 1)) c.loop-priority.invariant.product ∙ mul_comm (product_below p ps) (x + 1) ∙ sym more
      | else-count-gt0 w ↦
          (let none : x ≡ 0 = omega arith in
          w.top-is ∙ c.loop-priority.invariant.product ∙ sym (more ∙ ap (λ k. (k + 1) * product_below p ps) none ∙ one-mul (product_below p ps)))
    ] in
    record {
      product = product;
      made = elim c.if-count-gt0.branch [
        | then-count-gt0+in_ok-push-2 w ↦
            ap (λ v. reverse v.items) w.levels-is ∙ ap reverse w.in_ok-push-2.ensures.items
            ∙ pushed_level ps c.loop-priority.levels.items p x c.loop-priority.invariant.made counted w.if-count-gt0.true
        | else-count-gt0 w ↦
            ap (λ v. reverse v.items) w.levels-is ∙ c.loop-priority.invariant.made ∙ sym (levels_less p x ps counted (omega arith))
      ];
      count = ap length c.in_ok-push-3.ensures.items ∙ omega (arith, length_push c.loop-priority.weights.items c.if-count-gt0.top, c.loop-priority.invariant.count);
      each = rw c.in_ok-push-3.ensures.items (pushed_weight ps c.loop-priority.weights.items p c.if-count-gt0.top
          c.loop-priority.invariant.count product c.loop-priority.invariant.each);
    }

pub invariant_of-result : goal.invariant_of-result
invariant_of-result c =
    let ps = c.args.priorities.now in
    let counts = c.in_ok-counts.ensures.counts in
    let last : c.loop-priority.priority ≡ bound_of ps = omega (arith, counts.len, c.in_ok-counts.counts.ok.0) in
    weights_made ps _ _ _ (rw last at c.loop-priority.invariant.made) c.requires (rw last at c.loop-priority.invariant.product)
    (rw last at c.loop-priority.invariant.count) c.loop-priority.invariant.each

pub returns : goal.returns
returns c = grind (arith, common_steps)
