use Rattle.std.proofs.Common.{◌≡◌, ◌++◌, take, map}
use Rattle.std.specs.Prelude.{flat_map}
use Rattle.vpg_game.specs.Game.{vertex_ids}
use Rattle.vpg_trail.specs.Shown.{entry_of}
use Rattle.vpg_texts.specs.Text.{entry_line}
use Rattle.vpg_texts.proofs.text.trail.Given as goal

abbrev pub invariant-loop-e : goal.invariant-loop-e
invariant-loop-e l = l.out.items ≡ l.fn.out.items ++ flat_map (entry_line l.names (vertex_ids l.game.vertices) l.labels.names) (map entry_of (take l.e-index l.entries))
