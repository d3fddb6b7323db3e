use Rattle.std.proofs.Common.{ℕ, ◌<◌, ◌≢◌, slice_index_or}
use Rattle.vpg_guards.specs.declared.tri.Tri.TheVariants.{Unknown}
use Rattle.vpg_why.proofs.features.first_open.Given as goal

abbrev pub invariant-loop-f : goal.invariant-loop-f
invariant-loop-f l = (g : ℕ) → g < l.f → slice_index_or l.known g Unknown ≢ Unknown
