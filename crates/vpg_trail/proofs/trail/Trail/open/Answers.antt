use Rattle.std.proofs.Common.{List, sym, subst, map}
use Rattle.vpg_trail.specs.Page.{Hopeful, Dual}
use Rattle.vpg_trail.specs.declared.entry.Entry.{Entry}
use Rattle.vpg_trail.specs.Shown.{entry_of, IsTracked}
use Rattle.vpg_trail.proofs.Tracking.{opened_zero, tracked_start}
use Rattle.vpg_trail.proofs.trail.Trail.open.Goals as goal

pub invariant_of-result : goal.invariant_of-result
invariant_of-result c =
    subst (λ (l : List Entry). IsTracked c.args.vertices (map entry_of l) c.in_ok-zero.field-0 c.in_ok-zero-2.field-0) (sym c.new.ensures.items)
    (tracked_start c.args.vertices c.in_ok-zero.field-0 c.in_ok-zero-2.field-0 c.in_ok-zero.ensures.zero c.in_ok-zero-2.ensures.zero)

pub returns-clause-hopeful : goal.returns-clause-hopeful
returns-clause-hopeful c =
    opened_zero Hopeful c.args.vertices c.new.result.items c.args.hopeful.now c.in_ok-zero.field-0 c.new.ensures.items c.in_ok-zero.ensures.zero c.in_ok-zero.ensures.measures

pub returns-clause-dual : goal.returns-clause-dual
returns-clause-dual c =
    opened_zero Dual c.args.vertices c.new.result.items c.args.dual.now c.in_ok-zero-2.field-0 c.new.ensures.items c.in_ok-zero-2.ensures.zero c.in_ok-zero-2.ensures.measures
