-- Bounds to which a table may be raised, and the ranks that certify them. This project's own, over the progress
-- measures of Jurdzinski 2000. A bound is passed back along edges by prog. The ranks fit along the same edges in the
-- dual game, so that Odd wins each play that stays on them for ever.
use Rattle.std.specs.Prelude.{ℕ, suc, ◌<◌, ◌≤◌, List, length, slice_index}
use Rattle.vpg_game.specs.declared.levels.Level.{Level}
use Rattle.vpg_game.specs.Levels.{top_of, prog_of}
use Rattle.vpg_sides.specs.Players.{opponent}
use Rattle.vpg_hope.specs.Arena.{Vertex as Node, vertex_at}
use Rattle.vpg_measure.specs.Lifts.{FitsEdges}

-- The edge to w from a vertex of priority p with this bound and rank. The bound is at most the prog of w's bound, and
-- the rank at least that of w's rank in the dual.
abbrev pub Supports : (levels dual_levels : List Level) (bounds ranks : List ℕ) (p bound rank w : ℕ) → Type 0
Supports levels dual_levels bounds ranks p bound rank w =
    (bound ≤ prog_of levels p (slice_index bounds w)) × (prog_of dual_levels (suc p) (slice_index ranks w) ≤ rank)

-- the rank is below the dual's top; at Even's vertex every edge supports the bound, at Odd's some edge
pub record IsSupported (levels dual_levels : List Level) (bounds ranks : List ℕ) (x : Node)
    (bound rank : ℕ) : Type 0 where
  pub ranked : rank < top_of dual_levels
  pub edges : FitsEdges (opponent x.owner)
      (λ w. Supports levels dual_levels bounds ranks x.priority bound rank w) x.successors

-- every bound that exceeds the table is supported
abbrev pub AreSupported : (levels dual_levels : List Level) (arena : List Node) (table bounds ranks : List ℕ) → Type 0
AreSupported levels dual_levels arena table bounds ranks =
    (v : ℕ) → v < length arena → slice_index table v < slice_index bounds v →
    IsSupported levels dual_levels bounds ranks (vertex_at arena v) (slice_index bounds v) (slice_index ranks v)
