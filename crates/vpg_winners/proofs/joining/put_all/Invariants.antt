use Rattle.std.proofs.Common.{ℕ, List, map, drop}
use Rattle.vpg_winners.specs.Joined.{PartView, ArePut, cut_by}
use Rattle.vpg_winners.specs.Numbered.{AreNumberedBy, IsAdditive}
use Rattle.vpg_winners.specs.Winners.{views}
use Rattle.vpg_winners.proofs.joining.put_all.Given as goal

-- what the parts that are left make of the others, all of them make; and those are numbered
abbrev pub invariant-loop-part : goal.invariant-loop-part
invariant-loop-part l = record {
  made : (new : List PartView) →
      ArePut (views l.all.items) (map (cut_by l.literal) (views (drop l.part-index l.parts))) new →
      ArePut (views l.initial.all.items) (map (cut_by l.literal) (views l.parts)) new;
  numbers : (measure : PartView → ℕ) → IsAdditive measure → AreNumberedBy measure l.initial.all.items →
      AreNumberedBy (λ part. measure (cut_by l.literal part)) l.parts → AreNumberedBy measure l.all.items;
}
