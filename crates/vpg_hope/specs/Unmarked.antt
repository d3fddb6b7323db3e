-- Games that differ only at marked vertices. This project's own.
use Rattle.std.specs.Prelude.{◌≡◌, ℕ, List, Bool, false, slice_index_or}
use Rattle.vpg_hope.specs.Games.{Game, isolated}

-- a vertex without a mark is the same in both: its owner, its priority and its edges
abbrev pub AreSameUnmarked : List Bool → Game → Game → Type 0
AreSameUnmarked marks before now =
    (v : ℕ) → slice_index_or marks v false ≡ false → slice_index_or before v isolated ≡ slice_index_or now v isolated
