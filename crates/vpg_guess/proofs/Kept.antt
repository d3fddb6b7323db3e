-- What raising keeps of a table.
use Rattle.std.proofs.Common.{◌≡◌, ◌∙◌, ℕ, ◌<◌, List, length, refl, sym, ap, subst}
use Rattle.vpg_measure.specs.Lifts.{IsTableOf, IsProgressTable, IsBelowTable, raised}
use Rattle.vpg_measure.proofs.Monotone.{after_grows}
use Rattle.vpg_measure.proofs.Rounds.{below_self, below_trans, after_stays, raised_table, raised_above, raised_stays}
use Rattle.vpg_guess.specs.Kept.{RaisingView, IsSettled, IsRaisedFrom, after_round}

pub kept_self : (one : RaisingView) → IsRaisedFrom one one
kept_self one = record {
  same = refl;
  above = below_self one.table;
  round = below_self (after_round one);
  below = λ other t p h. h;
}

pub kept_then : (old mid new : RaisingView) → IsRaisedFrom old mid → IsRaisedFrom mid new → IsRaisedFrom old new
kept_then old mid new a b = record {
  same = b.same ∙ ap (λ (one : RaisingView). record one { table = new.table }) a.same;
  above = below_trans old.table mid.table new.table a.above b.above;
  round = below_trans (after_round old) (after_round mid) (after_round new) a.round b.round;
  below = λ other t p h. b.below other (subst (λ (one : RaisingView). IsTableOf one.levels one.arena other) (sym a.same) t)
      (subst (λ (one : RaisingView). IsProgressTable one.levels one.arena other) (sym a.same) p) (a.below other t p h);
}

pub kept_table : (old : RaisingView) (table : List ℕ) → IsTableOf old.levels old.arena old.table → IsTableOf old.levels old.arena table →
    IsBelowTable old.table table → ((other : List ℕ) → IsTableOf old.levels old.arena other → IsProgressTable old.levels old.arena other →
    IsBelowTable old.table other → IsBelowTable table other) → IsRaisedFrom old (record old { table = table })
kept_table old table is table_is above below =
    record { same = refl; above = above; round = after_grows old.levels old.arena 1 old.table table is table_is above; below = below }

pub kept_lifted : (old : RaisingView) (v : ℕ) → IsTableOf old.levels old.arena old.table → v < length old.arena →
    IsRaisedFrom old (record old { table = raised old.levels old.arena old.table v })
kept_lifted old v is inside = kept_table old (raised old.levels old.arena old.table v) is (raised_table old.levels old.arena old.table v is)
    (raised_above old.levels old.arena old.table v) (λ other t p h. raised_stays old.levels old.arena old.table other v is t p inside h)

-- a progress table is on or above what a round of lifts makes of it
pub round_stays : (one : RaisingView) → IsTableOf one.levels one.arena one.table → IsSettled one → IsBelowTable (after_round one) one.table
round_stays one is p = after_stays one.levels one.arena 1 one.table one.table is is p (below_self one.table)

pub round_above : (old mid new : RaisingView) → IsRaisedFrom old mid → IsBelowTable (after_round mid) new.table → IsBelowTable (after_round old) new.table
round_above old mid new a b = below_trans (after_round old) (after_round mid) new.table a.round b
