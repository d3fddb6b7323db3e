use Rattle.std.proofs.Common.{ℕ, List, vec_len}
use Rattle.vpg_winners.specs.Joined.{PartView, IsPut}
use Rattle.vpg_winners.specs.Numbered.{AreNumberedBy, IsAdditive, IsNumberedBy}
use Rattle.vpg_winners.specs.Winners.{view_of, views}
use Rattle.vpg_winners.proofs.joining.put.Given as goal

-- what the part that is left makes of the others that are left, the first one makes of them all; and they are numbered
abbrev pub invariant-joining : goal.invariant-joining
invariant-joining l = record {
  made : (new : List PartView) → IsPut (views l.parts.items) (view_of l.part) new →
      IsPut (views l.fn.parts.items) (view_of l.fn.part) new;
  numbers : (measure : PartView → ℕ) → IsAdditive measure → AreNumberedBy measure l.fn.parts.items →
      IsNumberedBy measure l.fn.part → AreNumberedBy measure l.parts.items × IsNumberedBy measure l.part;
}

abbrev pub decreases-joining : goal.decreases-joining
decreases-joining l = vec_len l.parts
