use Rattle.std.proofs.Common.{◌≡◌, ℕ, ◌<◌, false, get_or}
use Rattle.vpg_model.specs.Departures.{Departure}
use Rattle.vpg_trace.specs.Taking.{fits}
use Rattle.vpg_trace.proofs.taking.first_of.Given as goal

-- none before fits
abbrev pub invariant-loop-i : goal.invariant-loop-i
invariant-loop-i l = (k : ℕ) (d : Departure) → k < l.i →
    fits l.known l.source.sets.items l.source.parts.items l.wanted.set l.wanted.place l.wanted.to l.wanted.value (get_or l.transitions k d) ≡ false
