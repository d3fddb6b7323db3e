use Rattle.std.proofs.Common.{List, ℕ, ◌<◌, length, refl}
use Rattle.std.proofs.lemmas.List.Elements.{All-get_or}
use Rattle.vpg_game.specs.Game.{vertex_ids}
use Rattle.vpg_game.specs.Levels.{top_of}
use Rattle.vpg_texts.specs.Sights.{line_at, lines_at}
use Rattle.vpg_texts.proofs.Named.{below_as}
use Rattle.vpg_texts.proofs.Pieces.{all_written, piece_more}
use Rattle.vpg_texts.proofs.sights.lines_at.Goals as goal

pub vertex-requires-clause-game : goal.vertex-requires-clause-game
vertex-requires-clause-game c = All-get_or (λ (v : ℕ). v < length c.args.game.now.vertices) c.args.vertices.now c.loop-v.v-index _ c.loop-v-test.true c.requires.vertices

pub vertex-requires-clause-hopeful : goal.vertex-requires-clause-hopeful
vertex-requires-clause-hopeful c =
    below_as _ _ _ c.requires.hopeful (All-get_or (λ (v : ℕ). v < length c.args.game.now.vertices) c.args.vertices.now c.loop-v.v-index _ c.loop-v-test.true c.requires.vertices)

pub vertex-requires-clause-dual : goal.vertex-requires-clause-dual
vertex-requires-clause-dual c =
    below_as _ _ _ c.requires.dual (All-get_or (λ (v : ℕ). v < length c.args.game.now.vertices) c.args.vertices.now c.loop-v.v-index _ c.loop-v-test.true c.requires.vertices)

pub loop-v-preserved : goal.loop-v-preserved
loop-v-preserved c =
    let ids = vertex_ids c.args.game.now.vertices in
    let line : ℕ → List ℕ = line_at (top_of c.args.games.now.hopeful_levels) (top_of c.args.games.now.dual_levels) ids c.args.labels.now.names c.args.hopeful.now c.args.dual.now in
    piece_more (λ (vs : List ℕ). lines_at (top_of c.args.games.now.hopeful_levels) (top_of c.args.games.now.dual_levels) ids c.args.labels.now.names c.args.hopeful.now c.args.dual.now vs)
    line refl (λ v vs. refl)
    c.args.vertices.now c.loop-v.v-index _
    c.args.out.now.items c.loop-v.out.items c.vertex.new.out.items c.loop-v-test.true c.loop-v.invariant c.in_ok-vertex.ensures

pub returns : goal.returns
returns c =
    all_written (λ (vs : List ℕ). lines_at (top_of c.args.games.now.hopeful_levels) (top_of c.args.games.now.dual_levels) (vertex_ids c.args.game.now.vertices) c.args.labels.now.names c.args.hopeful.now c.args.dual.now vs)
    c.args.vertices.now c.loop-v.v-index c.args.out.now.items c.loop-v.out.items c.loop-v-test.false c.loop-v.invariant
