use Rattle.std.proofs.Common.{◌≡◌, drop}
use Rattle.vpg_formula.specs.Standings.{standing_in, standing_of}
use Rattle.vpg_formula.specs.EntryCode.{bounds, context_of, earlier_of}
use Rattle.vpg_formula.proofs.uses.standing_of.Given as goal

abbrev pub invariant-loop-bound : goal.invariant-loop-bound
invariant-loop-bound l = standing_of (earlier_of l.entries) (context_of l.context) l.name ≡ standing_in l.context.is_odd (bounds (drop l.bound-index l.context.scope.items)) l.standing l.name
