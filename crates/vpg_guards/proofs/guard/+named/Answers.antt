use Rattle.std.proofs.Common.{arith}
use Rattle.std.proofs.lemmas.Grind.{common_steps}
use Rattle.vpg_guards.proofs.Views.{seen_feature, seen_not, seen_all, seen_any, less_part}
use Rattle.vpg_guards.proofs.guard.+named.Goals as goal

pub Guards::push_features-loop-part-preserved : goal.Guards::push_features-loop-part-preserved
Guards::push_features-loop-part-preserved t c = grind (arith, common_steps)

pub Guards::push_features-returns : goal.Guards::push_features-returns
Guards::push_features-returns t c = grind (arith, common_steps)

pub Guard::push_features-returns-in_ok-push-in-Feature : goal.Guard::push_features-returns-in_ok-push-in-Feature
Guard::push_features-returns-in_ok-push-in-Feature t c = rw (seen_feature c.args.self.now c.in-Feature.f c.in-Feature.is) c.in_ok-push-in-Feature.ensures.items

pub Guard::push_features-returns-in_ok-push_features-in-Not : goal.Guard::push_features-returns-in_ok-push_features-in-Not
Guard::push_features-returns-in_ok-push_features-in-Not t c = rw (seen_not c.args.self.now c.in-Not.inner c.deref.result.now c.in-Not.is c.deref.ensures) c.in_ok-push_features-in-Not.ensures

pub Guard::push_features-returns-in_ok-push_features-in-All : goal.Guard::push_features-returns-in_ok-push_features-in-All
Guard::push_features-returns-in_ok-push_features-in-All t c = rw (seen_all c.args.self.now c.in-All.parts c.in-All.is) c.in_ok-push_features-in-All.ensures

pub Guard::push_features-returns-in_ok-push_features-in-Any : goal.Guard::push_features-returns-in_ok-push_features-in-Any
Guard::push_features-returns-in_ok-push_features-in-Any t c = rw (seen_any c.args.self.now c.in-Any.parts c.in-Any.is) c.in_ok-push_features-in-Any.ensures

pub Guards::push_features-push_features-requires : goal.Guards::push_features-push_features-requires
Guards::push_features-push_features-requires t c =
    let part = c.part-item.result in
    (omega (arith, less_part c.args.self.now c.deref-part-items.result.now c.loop-part.part-index part c.deref-part-items.ensures.value c.loop-part-test.true c.part-item.is, c.decreases), tt)
