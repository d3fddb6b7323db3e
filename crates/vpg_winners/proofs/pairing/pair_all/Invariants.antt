use Rattle.std.proofs.Common.{◌≡◌, ℕ, ◌++◌, List, true, false, map, take, drop}
use Rattle.vpg_why.specs.Suffices.{choice}
use Rattle.vpg_winners.specs.Joined.{PartView, cut_by, ArePut}
use Rattle.vpg_winners.specs.Numbered.{AreNumberedBy, IsAdditive}
use Rattle.vpg_winners.specs.Pairs.{AreFlagged, mark_of, AreBehind}
use Rattle.vpg_winners.specs.Winners.{AreJoined, views}
use Rattle.vpg_winners.proofs.SameParts.{AreApart}
use Rattle.vpg_winners.proofs.pairing.pair_all.Given as goal

-- the first parts are paired; what they and the rest make, all of them make
abbrev pub invariant-loop-part : goal.invariant-loop-part
invariant-loop-part l = record {
  made : (new : List PartView) → ArePut (map (cut_by (choice l.feature true)) (views l.left.items) ++ views (take l.part-index l.part-items))
      (map (cut_by (choice l.feature false)) (views (drop l.part-index l.part-items))) new →
      ArePut (map (cut_by (choice l.feature true)) (views l.fn.left.items))
      (map (cut_by (choice l.feature false)) (views l.fn.without.items)) new;
  marks : l.marks.items ≡ map mark_of l.left.items;
  flags : AreFlagged l.flags.items l.marks.items;
  apart : AreApart l.feature (views (take l.part-index l.part-items)) (views (drop l.part-index l.part-items));
  joined : AreJoined (views (drop l.part-index l.part-items));
  behind : AreBehind l.feature (views (drop l.part-index l.part-items));
  numbers : (measure : PartView → ℕ) → IsAdditive measure →
      AreNumberedBy (λ p. measure (cut_by (choice l.feature true) p)) l.fn.left.items →
      AreNumberedBy (λ p. measure (cut_by (choice l.feature false) p)) l.fn.without.items →
      AreNumberedBy (λ p. measure (cut_by (choice l.feature true) p)) l.left.items ×
      AreNumberedBy measure (take l.part-index l.part-items) ×
      AreNumberedBy (λ p. measure (cut_by (choice l.feature false) p)) (drop l.part-index l.part-items);
}
