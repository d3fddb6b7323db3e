-- Which edges of a guarded game a plain game keeps. This project's own.
use Rattle.std.specs.Prelude.{ℕ, suc, List, length, map, filter, Bool, true, false}
use Rattle.vpg_guards.specs.Formula.{Formula, truth}
use Rattle.vpg_guards.specs.Known.{kleene}
use Rattle.vpg_guards.specs.declared.tri.Tri.{Tri}
use Rattle.vpg_guards.specs.declared.tri.Tri.TheVariants.{No, Unknown, Yes}
use Rattle.vpg_sides.specs.declared.player.Player.{Player}
use Rattle.vpg_sides.specs.declared.player.Player.TheVariants.{Even, Odd}
use Rattle.vpg_sides.specs.Players.{opponent}
use Rattle.vpg_game.specs.Edges.{GuardedEdge}
use Rattle.vpg_hope.specs.declared.selection.Selection.{Selection}
use Rattle.vpg_hope.specs.declared.selection.Selection.TheVariants.{Hopeful, HopefulOfDual, Cautious, CautiousOfDual, Product}

-- Even keeps the edges that may be there, Odd those that must
abbrev pub keeps_in_hope : Player → Tri → Bool
keeps_in_hope Even No = false
keeps_in_hope Even Unknown = true
keeps_in_hope Even Yes = true
keeps_in_hope Odd No = false
keeps_in_hope Odd Unknown = false
keeps_in_hope Odd Yes = true

-- the number of features that its guards may be over
abbrev pub features_under : Selection → ℕ
features_under (Hopeful known) = length known.now
features_under (HopefulOfDual known) = length known.now
features_under (Cautious known) = length known.now
features_under (CautiousOfDual known) = length known.now
features_under (Product set) = length set.now

-- who moves in the plain game, if this player moves in the guarded one
abbrev pub owner_under : Selection → Player → Player
owner_under (Hopeful known) owner = owner
owner_under (HopefulOfDual known) owner = opponent owner
owner_under (Cautious known) owner = owner
owner_under (CautiousOfDual known) owner = opponent owner
owner_under (Product set) owner = owner

-- the priority in the plain game if it is this one in the guarded one
abbrev pub priority_under : Selection → ℕ → ℕ
priority_under (Hopeful known) priority = priority
priority_under (HopefulOfDual known) priority = suc priority
priority_under (Cautious known) priority = priority
priority_under (CautiousOfDual known) priority = suc priority
priority_under (Product set) priority = priority

-- whether an edge of a vertex of this owner stays
abbrev pub is_kept : Selection → Player → Formula → Bool
is_kept (Hopeful known) owner guard = keeps_in_hope owner (kleene known.now guard)
is_kept (HopefulOfDual known) owner guard = keeps_in_hope (opponent owner) (kleene known.now guard)
is_kept (Cautious known) owner guard = keeps_in_hope (opponent owner) (kleene known.now guard)
is_kept (CautiousOfDual known) owner guard = keeps_in_hope (opponent (opponent owner)) (kleene known.now guard)
is_kept (Product set) owner guard = truth set.now guard

-- the targets of the edges that stay
abbrev pub kept_under : Selection → Player → List (GuardedEdge Formula) → List ℕ
kept_under selection owner edges = map (λ edge. edge.to) (filter (λ edge. is_kept selection owner edge.guard) edges)
