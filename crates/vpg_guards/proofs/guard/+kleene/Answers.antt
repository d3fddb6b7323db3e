use Rattle.std.proofs.Common.{arith, length, ap, subst, rules, ◌<◌}
use Rattle.std.proofs.lemmas.Grind.{common_steps}
use Rattle.vpg_guards.specs.Formula.{IsBelow, AreBelow}
use Rattle.vpg_guards.specs.Known.{kleene_all, kleene_any}
use Rattle.vpg_guards.proofs.Views.{seen_feature, seen_not, seen_all, seen_any, less_not, less_all, less_any, less_part, parts_start, parts_more}
use Rattle.std.proofs.lemmas.List.{get_or_default}
use Rattle.vpg_guards.specs.declared.tri.Tri.TheVariants.{No, Unknown}
use Rattle.vpg_guards.proofs.guard.+kleene.Goals as goal

pub Guards::kleene_all-loop-part-preserved : goal.Guards::kleene_all-loop-part-preserved
Guards::kleene_all-loop-part-preserved t c = grind (arith, common_steps)

pub Guards::kleene_any-loop-part-preserved : goal.Guards::kleene_any-loop-part-preserved
Guards::kleene_any-loop-part-preserved t c = grind (arith, common_steps)

pub Guards::kleene_all-returns : goal.Guards::kleene_all-returns
Guards::kleene_all-returns t c = grind (arith, common_steps)

pub Guards::kleene_any-returns : goal.Guards::kleene_any-returns
Guards::kleene_any-returns t c = grind (arith, common_steps)

pub Guard::kleene-bounds-known-f : goal.Guard::kleene-bounds-known-f
Guard::kleene-bounds-known-f t c = subst (IsBelow (length c.args.known.now)) (seen_feature c.args.self.now c.in-Feature.f c.in-Feature.is) c.requires

pub Guard::kleene-kleene-requires : goal.Guard::kleene-kleene-requires
Guard::kleene-kleene-requires t c =
    let inner = c.deref.result.now in (
      omega (arith, less_not c.args.self.now c.in-Not.inner inner c.in-Not.is c.deref.ensures, c.decreases),
      subst (IsBelow (length c.args.known.now)) (seen_not c.args.self.now c.in-Not.inner inner c.in-Not.is c.deref.ensures) c.requires,
    )

pub Guard::kleene-kleene_all-requires : goal.Guard::kleene-kleene_all-requires
Guard::kleene-kleene_all-requires t c = (
  omega (arith, less_all c.args.self.now c.in-All.parts c.in-All.is, c.decreases),
  subst (IsBelow (length c.args.known.now)) (seen_all c.args.self.now c.in-All.parts c.in-All.is) c.requires,
)

pub Guards::kleene_all-kleene-requires : goal.Guards::kleene_all-kleene-requires
Guards::kleene_all-kleene-requires t c =
    let l = c.loop-part in
    let items = c.deref-part-items.result.now in
    let part = c.part-item.result in (
      omega (arith, less_part c.args.self.now items l.part-index part c.deref-part-items.ensures.value c.loop-part-test.true c.part-item.is, c.decreases),
      (subst (AreBelow (length c.args.known.now)) (parts_more items l.part-index part c.loop-part-test.true c.part-item.is) l.invariant.0).0,
    )

pub Guards::kleene_all-loop-part-init : goal.Guards::kleene_all-loop-part-init
Guards::kleene_all-loop-part-init t c =
    let start = parts_start c.args.self.now c.deref-part-items.result.now c.deref-part-items.ensures.value in (subst (AreBelow (length c.args.known.now)) start c.requires, ap (kleene_all c.args.known.now) start)

pub Guard::kleene-kleene_any-requires : goal.Guard::kleene-kleene_any-requires
Guard::kleene-kleene_any-requires t c = (
  omega (arith, less_any c.args.self.now c.in-Any.parts c.in-Any.is, c.decreases),
  subst (IsBelow (length c.args.known.now)) (seen_any c.args.self.now c.in-Any.parts c.in-Any.is) c.requires,
)

pub Guards::kleene_any-kleene-requires : goal.Guards::kleene_any-kleene-requires
Guards::kleene_any-kleene-requires t c =
    let l = c.loop-part in
    let items = c.deref-part-items.result.now in
    let part = c.part-item.result in (
      omega (arith, less_part c.args.self.now items l.part-index part c.deref-part-items.ensures.value c.loop-part-test.true c.part-item.is, c.decreases),
      (subst (AreBelow (length c.args.known.now)) (parts_more items l.part-index part c.loop-part-test.true c.part-item.is) l.invariant.0).0,
    )

pub Guards::kleene_any-loop-part-init : goal.Guards::kleene_any-loop-part-init
Guards::kleene_any-loop-part-init t c =
    let start = parts_start c.args.self.now c.deref-part-items.result.now c.deref-part-items.ensures.value in (subst (AreBelow (length c.args.known.now)) start c.requires, ap (kleene_any c.args.known.now) start)

pub Guard::kleene-returns-in-Feature : goal.Guard::kleene-returns-in-Feature
Guard::kleene-returns-in-Feature t c =
    let within : c.in-Feature.f < length c.args.known.now = subst (IsBelow (length c.args.known.now)) (seen_feature c.args.self.now c.in-Feature.f c.in-Feature.is) c.requires in
    rw (seen_feature c.args.self.now c.in-Feature.f c.in-Feature.is) (get_or_default c.args.known.now c.in-Feature.f No Unknown within)
