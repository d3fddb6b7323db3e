use Rattle.std.proofs.Common.{◌≡◌, ◌++◌, take}
use Rattle.std.specs.Prelude.{flat_map}
use Rattle.vpg_draw.specs.GameDrawing.{edge_text}
use Rattle.vpg_draw.proofs.game.edges.Given as goal

abbrev pub invariant-loop-e : goal.invariant-loop-e
invariant-loop-e l = l.out.items ≡ l.fn.out.items ++ flat_map (edge_text l.features l.known l.game.vertices l.id) (take l.e-index l.edges)
