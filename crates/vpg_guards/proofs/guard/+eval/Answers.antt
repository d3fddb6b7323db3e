use Rattle.std.proofs.Common.{arith, length, ap, subst}
use Rattle.std.proofs.lemmas.Grind.{common_steps}
use Rattle.vpg_guards.specs.Formula.{IsBelow, AreBelow, all_true, any_true}
use Rattle.vpg_guards.proofs.Views.{seen_feature, seen_not, seen_all, seen_any, less_not, less_all, less_any, less_part, parts_start, parts_more}
use Rattle.vpg_guards.proofs.guard.+eval.Goals as goal

pub Guards::all_hold-loop-part-preserved : goal.Guards::all_hold-loop-part-preserved
Guards::all_hold-loop-part-preserved t c = grind (arith, common_steps)

pub Guards::any_holds-loop-part-preserved : goal.Guards::any_holds-loop-part-preserved
Guards::any_holds-loop-part-preserved t c = grind (arith, common_steps)

pub Guards::all_hold-returns-then-not-eval : goal.Guards::all_hold-returns-then-not-eval
Guards::all_hold-returns-then-not-eval t c = grind (arith, common_steps)

pub Guards::any_holds-returns-then-eval : goal.Guards::any_holds-returns-then-eval
Guards::any_holds-returns-then-eval t c = grind (arith, common_steps)

pub Guards::any_holds-returns : goal.Guards::any_holds-returns
Guards::any_holds-returns t c = grind (arith, common_steps)

pub Guards::all_hold-returns : goal.Guards::all_hold-returns
Guards::all_hold-returns t c = grind (arith, common_steps)

pub Guards::all_hold-loop-part-smaller : goal.Guards::all_hold-loop-part-smaller
Guards::all_hold-loop-part-smaller t c = grind (arith, common_steps)

pub Guards::any_holds-loop-part-smaller : goal.Guards::any_holds-loop-part-smaller
Guards::any_holds-loop-part-smaller t c = grind (arith, common_steps)

pub Guard::eval-bounds-set-f : goal.Guard::eval-bounds-set-f
Guard::eval-bounds-set-f t c = subst (IsBelow (length c.args.set.now)) (seen_feature c.args.self.now c.in-Feature.f c.in-Feature.is) c.requires

pub Guard::eval-eval-requires : goal.Guard::eval-eval-requires
Guard::eval-eval-requires t c =
    let inner = c.deref.result.now in (
      omega (arith, less_not c.args.self.now c.in-Not.inner inner c.in-Not.is c.deref.ensures, c.decreases),
      subst (IsBelow (length c.args.set.now)) (seen_not c.args.self.now c.in-Not.inner inner c.in-Not.is c.deref.ensures) c.requires,
    )

pub Guard::eval-all_hold-requires : goal.Guard::eval-all_hold-requires
Guard::eval-all_hold-requires t c = (
  omega (arith, less_all c.args.self.now c.in-All.parts c.in-All.is, c.decreases),
  subst (IsBelow (length c.args.set.now)) (seen_all c.args.self.now c.in-All.parts c.in-All.is) c.requires,
)

pub Guards::all_hold-eval-requires : goal.Guards::all_hold-eval-requires
Guards::all_hold-eval-requires t c =
    let l = c.loop-part in
    let items = c.deref-part-items.result.now in
    let part = c.part-item.result in (
      omega (arith, less_part c.args.self.now items l.part-index part c.deref-part-items.ensures.value c.loop-part-test.true c.part-item.is, c.decreases),
      (subst (AreBelow (length c.args.set.now)) (parts_more items l.part-index part c.loop-part-test.true c.part-item.is) l.invariant.0).0,
    )

pub Guards::all_hold-loop-part-init : goal.Guards::all_hold-loop-part-init
Guards::all_hold-loop-part-init t c =
    let start = parts_start c.args.self.now c.deref-part-items.result.now c.deref-part-items.ensures.value in (subst (AreBelow (length c.args.set.now)) start c.requires, ap (all_true c.args.set.now) start)

pub Guard::eval-any_holds-requires : goal.Guard::eval-any_holds-requires
Guard::eval-any_holds-requires t c = (
  omega (arith, less_any c.args.self.now c.in-Any.parts c.in-Any.is, c.decreases),
  subst (IsBelow (length c.args.set.now)) (seen_any c.args.self.now c.in-Any.parts c.in-Any.is) c.requires,
)

pub Guards::any_holds-eval-requires : goal.Guards::any_holds-eval-requires
Guards::any_holds-eval-requires t c =
    let l = c.loop-part in
    let items = c.deref-part-items.result.now in
    let part = c.part-item.result in (
      omega (arith, less_part c.args.self.now items l.part-index part c.deref-part-items.ensures.value c.loop-part-test.true c.part-item.is, c.decreases),
      (subst (AreBelow (length c.args.set.now)) (parts_more items l.part-index part c.loop-part-test.true c.part-item.is) l.invariant.0).0,
    )

pub Guards::any_holds-loop-part-init : goal.Guards::any_holds-loop-part-init
Guards::any_holds-loop-part-init t c =
    let start = parts_start c.args.self.now c.deref-part-items.result.now c.deref-part-items.ensures.value in (subst (AreBelow (length c.args.set.now)) start c.requires, ap (any_true c.args.set.now) start)
