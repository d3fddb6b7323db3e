use Rattle.std.proofs.Common.{◌≡◌, ℕ, ◌++◌, map, take, drop}
use Rattle.vpg_winners.specs.Joined.{PartView, cut_by}
use Rattle.vpg_winners.specs.Numbered.{AreNumberedBy}
use Rattle.vpg_winners.specs.Winners.{views}
use Rattle.vpg_winners.proofs.pairing.cut_each.Given as goal

-- the first parts have the literal
abbrev pub invariant-loop-part : goal.invariant-loop-part
invariant-loop-part l = record {
  same : views (take l.part-index l.part-items) ++ map (cut_by l.literal) (views (drop l.part-index l.part-items))
      ≡ map (cut_by l.literal) (views l.fn.parts.items);
  numbers : (measure : PartView → ℕ) → AreNumberedBy (λ part. measure (cut_by l.literal part)) l.fn.parts.items →
      AreNumberedBy measure (take l.part-index l.part-items) ×
      AreNumberedBy (λ part. measure (cut_by l.literal part)) (drop l.part-index l.part-items);
}
