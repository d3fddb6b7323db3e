use Rattle.std.proofs.Common.{◌≡◌, ◌++◌, []}
use Rattle.vpg_game.specs.Game.{joined_edges, AllHeld}
use Rattle.vpg_game.specs.Edges.{ArePlaces}
use Rattle.vpg_game.proofs.making.joined.Given as goal

abbrev pub invariant-loop-successor : goal.invariant-loop-successor
invariant-loop-successor l =
    (l.edges.items ≡ joined_edges l.ids.keys [] l.yielded) × AllHeld l.ids.keys l.yielded × ArePlaces l.places l.edges.items × (l.yielded ++ l.successor-iterator.rest.items ≡ l.fn.successors.items)
