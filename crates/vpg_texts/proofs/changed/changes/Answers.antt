use Rattle.std.proofs.Common.{◌≡◌, ◌+◌, ◌++◌, ℕ, List, refl, sym, ap₂, ◌∙◌, add-one, arith, slice_index, length, subst}
use Rattle.std.specs.Prelude.{if◌then◌else◌}
use Rattle.vpg_game.specs.Game.{vertex_ids}
use Rattle.vpg_sides.specs.declared.verdict.Verdict.{Verdict}
use Rattle.vpg_texts.specs.Changed.{change_text, same_verdicts, seen_at, change_count, change_lines}
use Rattle.vpg_texts.specs.Labels.{label_of}
use Rattle.vpg_texts.proofs.Pieces.{line_more, reached}
use Rattle.vpg_texts.proofs.changed.changes.Goals as goal

pub loop-v-preserved : goal.loop-v-preserved
loop-v-preserved c =
    let ids = vertex_ids c.args.game.now.vertices in
    let labels = c.args.labels.now.names in
    let seen = c.args.seen.now in
    let present = c.args.present.now in
    let v = c.loop-v.v in
    let line : ℕ → List ℕ = λ n. change_text (slice_index ids n) (label_of labels n) (seen_at seen n) (seen_at present n) in
    record {
      count = subst (λ (n : ℕ). c.loop-v.changed + c.in_ok-changed.field-0 ≡ change_count seen present n) (sym (add-one v))
          (ap₂ (λ (one more : ℕ). one + more) c.loop-v.invariant.count (c.in_ok-changed.ensures.count ∙ ap₂ (λ (a b : Verdict). if same_verdicts a b then 0 else 1) c.seen_at-before.ensures c.seen_at-verdict.ensures));
      few = omega (arith, c.in_ok-changed.ensures.few, c.loop-v.invariant.few);
      lines = line_more (λ (n : ℕ). change_lines ids labels seen present n) v (line v) refl c.args.out.now.items c.loop-v.out.items c.change_if.new.out.items c.loop-v.invariant.lines
          (c.in_ok-changed.ensures.text ∙ λ i. c.loop-v.out.items ++ change_text (c.identifier.ensures i) (c.name.ensures i) (c.seen_at-before.ensures i) (c.seen_at-verdict.ensures i));
    }

pub returns-clause-count : goal.returns-clause-count
returns-clause-count c =
    subst (λ (n : ℕ). c.loop-v.changed ≡ change_count c.args.seen.now c.args.present.now n)
    (reached c.loop-v.v c.vertices-count.result (length c.args.game.now.vertices) c.loop-v.auto.v-end c.loop-v-test.false c.vertices-count.ensures.count) c.loop-v.invariant.count

pub returns-clause-lines : goal.returns-clause-lines
returns-clause-lines c =
    subst (λ (n : ℕ). c.loop-v.out.items ≡ c.args.out.now.items ++ change_lines (vertex_ids c.args.game.now.vertices) c.args.labels.now.names c.args.seen.now c.args.present.now n)
    (reached c.loop-v.v c.vertices-count.result (length c.args.game.now.vertices) c.loop-v.auto.v-end c.loop-v-test.false c.vertices-count.ensures.count) c.loop-v.invariant.lines
