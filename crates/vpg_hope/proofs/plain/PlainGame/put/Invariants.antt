use Rattle.std.proofs.Common.{◌≡◌, ◌++◌, [], drop}
use Rattle.vpg_game.specs.Writing.{vertices_text}
use Rattle.vpg_hope.specs.Plain.{unguarded}
use Rattle.vpg_hope.proofs.plain.PlainGame.put.Given as goal

abbrev pub invariant-loop-v : goal.invariant-loop-v
invariant-loop-v l =
    let vertices = unguarded l.self.ids l.self.game in
    l.text.items ++ vertices_text [] vertices (drop l.v vertices) ≡ l.initial.text.items ++ vertices_text [] vertices vertices
