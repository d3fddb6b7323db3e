-- The texts that the parts of the code add when they write a plain game.
use Rattle.std.specs.Prelude.{ℕ, List, [], ◌∷◌, ◌++◌, decimal, slice_index, slice_index_or}
use Rattle.vpg_game.specs.Game.{no_vertex}
use Rattle.vpg_game.specs.Writing.{vertex_text}
use Rattle.vpg_hope.specs.Plain.{IdentifiedGame, unguarded}

-- the identifiers of successors, with a mark before the first and a comma before each other
abbrev pub marked_text : ℕ → List ℕ → List ℕ → List ℕ
marked_text mark ids [] = []
marked_text mark ids (w ∷ ws) = mark ∷ (decimal (slice_index ids w) ++ marked_text 44 ids ws)

-- the line of a vertex
abbrev pub line_text : IdentifiedGame → ℕ → List ℕ
line_text plain v =
    let vertices = unguarded plain.ids plain.game in vertex_text [] vertices (slice_index_or vertices v no_vertex)
