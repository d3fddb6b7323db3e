use Rattle.std.proofs.Common.{rules, ℕ, ◌≡◌, ◌++◌, length, refl, subst, slice_index}
use Rattle.vpg_game.specs.Game.{vertex_ids}
use Rattle.vpg_game.specs.Levels.{top_of}
use Rattle.vpg_texts.specs.Labels.{label_of}
use Rattle.vpg_texts.specs.Text.{vertex_line, vertex_lines}
use Rattle.vpg_texts.proofs.Pieces.{line_more, reached}
use Rattle.vpg_texts.proofs.text.vertices.Goals as goal

pub loop-v-preserved : goal.loop-v-preserved
loop-v-preserved c =
    let first = top_of c.args.games.now.hopeful_levels in
    let second = top_of c.args.games.now.dual_levels in
    let ids = vertex_ids c.args.game.now.vertices in
    let labels = c.args.labels.now.names in
    let v = c.loop-v.v in
    line_more (λ (n : ℕ). vertex_lines first second ids labels c.args.hopeful.now c.args.dual.now n) v
    (vertex_line first second (slice_index ids v) (label_of labels v) (slice_index c.args.hopeful.now v) (slice_index c.args.dual.now v)) refl
    c.args.out.now.items c.loop-v.out.items _ c.loop-v.invariant (search rules)

pub returns : goal.returns
returns c =
    subst (λ (n : ℕ). c.loop-v.out.items ≡ c.args.out.now.items ++ vertex_lines (top_of c.args.games.now.hopeful_levels) (top_of c.args.games.now.dual_levels) (vertex_ids c.args.game.now.vertices) c.args.labels.now.names c.args.hopeful.now c.args.dual.now n)
    (reached c.loop-v.v c.vertices-count.result (length c.args.game.now.vertices) c.loop-v.auto.v-end c.loop-v-test.false c.vertices-count.ensures.count) c.loop-v.invariant
