use Rattle.std.proofs.Common.{◌≡◌, ℕ, ◌<◌, List, Bool, false, true}
use Rattle.vpg_zielonka.specs.Universes.{has, IsInside, IsGrown}
use Rattle.vpg_zielonka.specs.Parts.{set_at}
use Rattle.vpg_zielonka.proofs.parts.occupied.Given as goal

abbrev pub invariant-loop-v : goal.invariant-loop-v
invariant-loop-v l =
    IsGrown l.fn.sets l.sets × IsInside l.sets l.some ×
    ((p : List Bool) → has l.sets l.some p ≡ false → (v : ℕ) → v < l.v → has l.fn.sets (set_at l.part v) p ≡ false) ×
    ((p : List Bool) → has l.sets l.some p ≡ true →
    (v : ℕ) × (v < l.v) × (has l.fn.sets (set_at l.part v) p ≡ true))
