use Rattle.std.proofs.lemmas.Grind.{common_steps}
use Rattle.std.proofs.Common.{length, ap, arith}
use Rattle.std.proofs.lemmas.List.{length-map}
use Rattle.vpg_game.specs.Game.{NamedVertex, graph_of}
use Rattle.vpg_game.proofs.Graphs.{same_count}
use Rattle.vpg_hope.specs.Selection.{vertex_under}
use Rattle.vpg_hope.specs.declared.selection.Selection.TheVariants.{Product}
use Rattle.vpg_hope.proofs.plain.PlainGame.of.Goals as goal

pub invariant_of-result : goal.invariant_of-result
invariant_of-result c =
    let game = c.args.game.now in
    omega (
      arith,
      ap length c.in_ok-ids.ensures,
      length-map game.vertices (λ (x : NamedVertex). x.id),
      same_count game,
      length-map (graph_of game) (vertex_under (Product c.args.set)),
      ap length c.in_ok-arena.ensures,
    )

pub returns : goal.returns
returns c = grind (arith, common_steps)
