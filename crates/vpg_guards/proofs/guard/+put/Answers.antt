use Rattle.std.proofs.Common.{arith, ◌≡◌, ℕ, ◌+◌, Bool, cond, List, [], ◌++◌, length, drop, sym, ap, subst, ◌∙◌, rules}
use Rattle.std.proofs.lemmas.Grind.{common_steps}
use Rattle.std.specs.Prelude.{codes}
use Rattle.std.specs.Global.{Vec}
use Rattle.std.proofs.lemmas.List.{append-nil}
use Rattle.vpg_guards.specs.Formula.{Parts, IsBelow, AreBelow, is_any}
use Rattle.vpg_guards.specs.View.{formula_of, parts_in, formulas_of}
use Rattle.vpg_guards.specs.Writing.{enclosed_if, guard_text, all_text, more_all_text, any_text, more_any_text, is_group}
use Rattle.vpg_guards.proofs.Views.{seen_always, seen_never, seen_feature, seen_not, seen_all, seen_any, less_not, less_all, less_any, less_part, parts_start, parts_more, parts_end}
use Rattle.vpg_guards.proofs.Turns.{written_on, all_written, behind_sign}
use Rattle.vpg_guards.proofs.guard.+put.Goals.{Guards::put_any-then-not-is_first+in_ok-extend_from_slice, Guards::put_any-else-not-is_first, Guards::put_all-then-not-is_first+in_ok-extend_from_slice, Guards::put_all-else-not-is_first}
use Rattle.vpg_guards.specs.declared.guard.Guard.{Guard}
use Rattle.vpg_guards.proofs.guard.+put.Goals as goal

pub Guard::put_enclosed-returns : goal.Guard::put_enclosed-returns
Guard::put_enclosed-returns t c = grind (arith, common_steps)

pub Guard::put_enclosed-put-requires-2 : goal.Guard::put_enclosed-put-requires-2
Guard::put_enclosed-put-requires-2 t c = grind (arith, common_steps)

pub Guard::put_enclosed-put-requires : goal.Guard::put_enclosed-put-requires
Guard::put_enclosed-put-requires t c = grind (arith, common_steps)

pub Guard::put_enclosed-returns-then-not-enclosed : goal.Guard::put_enclosed-returns-then-not-enclosed
Guard::put_enclosed-returns-then-not-enclosed t c = grind (arith, common_steps)

pub Guards::put_all-loop-part-smaller : goal.Guards::put_all-loop-part-smaller
Guards::put_all-loop-part-smaller t c = grind (arith, common_steps)

pub Guards::put_any-loop-part-smaller : goal.Guards::put_any-loop-part-smaller
Guards::put_any-loop-part-smaller t c = grind (arith, common_steps)

pub Guard::put-name-requires : goal.Guard::put-name-requires
Guard::put-name-requires t c = subst (IsBelow (length c.args.names.now)) (seen_feature c.args.self.now c.in-Feature.f c.in-Feature.is) c.requires

pub Guard::put-put_enclosed-requires : goal.Guard::put-put_enclosed-requires
Guard::put-put_enclosed-requires t c =
    let inner = c.deref-in-Not.result.now in (
      omega (arith, less_not c.args.self.now c.in-Not.inner c.deref.result.now c.in-Not.is c.deref.ensures, c.decreases),
      subst (IsBelow (length c.args.names.now)) (seen_not c.args.self.now c.in-Not.inner c.deref.result.now c.in-Not.is c.deref.ensures) c.requires,
    )

pub Guard::put-put_all-requires : goal.Guard::put-put_all-requires
Guard::put-put_all-requires t c = (
  omega (arith, less_all c.args.self.now c.in-All.parts c.in-All.is, c.decreases),
  subst (IsBelow (length c.args.names.now)) (seen_all c.args.self.now c.in-All.parts c.in-All.is) c.requires,
)

pub Guard::put-returns-in-All : goal.Guard::put-returns-in-All
Guard::put-returns-in-All t c = rw (seen_all c.args.self.now c.in-All.parts c.in-All.is) c.put_all.ensures

pub Guards::put_all-put_enclosed-requires : goal.Guards::put_all-put_enclosed-requires
Guards::put_all-put_enclosed-requires t c =
    let l = c.loop-part in
    let items = c.deref-part-items.result.now in
    let part = c.part-item.result in (
      omega (arith, less_part c.args.self.now items l.part-index part c.deref-part-items.ensures.value c.loop-part-test.true c.part-item.is, c.decreases),
      (subst (AreBelow (length c.args.names.now)) (parts_more items l.part-index part c.loop-part-test.true c.part-item.is) l.invariant.0).0,
    )

pub Guards::put_all-loop-part-init : goal.Guards::put_all-loop-part-init
Guards::put_all-loop-part-init t c =
    let names = c.args.names.now in
    let start = parts_start c.args.self.now c.deref-part-items.result.now c.deref-part-items.ensures.value in
    (subst (AreBelow (length names)) start c.requires, ap (λ (gs : Parts). c.args.out.now.items ++ all_text names gs) (sym start))

pub Guards::put_all-loop-part-preserved : goal.Guards::put_all-loop-part-preserved
Guards::put_all-loop-part-preserved t c =
    let l = c.loop-part in
    let names = c.args.names.now in
    let items = c.deref-part-items.result.now in
    let part = c.part-item.result in
    let rest = formulas_of (drop (l.part-index + 1) items) in
    let more = parts_more items l.part-index part c.loop-part-test.true c.part-item.is in
    let whole = c.args.out.now.items ++ all_text names (parts_in c.args.self.now) in
    let mid : c.if-not-is_first.out.items ≡ l.out.items ++ cond l.is_first [] (codes " & ") = elim c.if-not-is_first.branch [
      | Guards::put_all-then-not-is_first+in_ok-extend_from_slice w ↦ ap (λ (v : Vec ℕ). v.items) w.out-is ∙ w.in_ok-extend_from_slice.ensures.items ∙ ap (λ (b : Bool). l.out.items ++ cond b [] (codes " & ")) (sym w.if-not-is_first.true)
      | Guards::put_all-else-not-is_first w ↦ ap (λ (v : Vec ℕ). v.items) w.out-is ∙ sym (append-nil l.out.items) ∙ ap (λ (b : Bool). l.out.items ++ cond b [] (codes " & ")) (sym w.if-not-is_first.false)
    ] in
    let text = c.in_ok-put_enclosed.ensures ∙ ap (λ (b : Bool). c.if-not-is_first.out.items ++ enclosed_if b (guard_text names (formula_of part))) c.is_any.ensures in
    let left = subst (λ (gs : Parts). l.out.items ++ cond l.is_first (all_text names gs) (more_all_text names gs) ≡ whole) more l.invariant.1 in (
      (subst (AreBelow (length names)) more l.invariant.0).1,
      written_on l.is_first l.out.items c.if-not-is_first.out.items c.put_enclosed.new.out.items whole (codes " & ") (enclosed_if (is_any (formula_of part)) (guard_text names (formula_of part))) (more_all_text names rest) left mid text,
    )

pub Guards::put_all-returns : goal.Guards::put_all-returns
Guards::put_all-returns t c =
    let l = c.loop-part in
    let names = c.args.names.now in
    let whole = c.args.out.now.items ++ all_text names (parts_in c.args.self.now) in
    let none = parts_end c.deref-part-items.result.now l.part-index c.loop-part-test.false in
    all_written l.is_first l.out.items whole (subst (λ (gs : Parts). l.out.items ++ cond l.is_first (all_text names gs) (more_all_text names gs) ≡ whole) none l.invariant.1)

pub Guard::put-put_any-requires : goal.Guard::put-put_any-requires
Guard::put-put_any-requires t c = (
  omega (arith, less_any c.args.self.now c.in-Any.parts c.in-Any.is, c.decreases),
  subst (IsBelow (length c.args.names.now)) (seen_any c.args.self.now c.in-Any.parts c.in-Any.is) c.requires,
)

pub Guard::put-returns-in-Any : goal.Guard::put-returns-in-Any
Guard::put-returns-in-Any t c = rw (seen_any c.args.self.now c.in-Any.parts c.in-Any.is) c.put_any.ensures

pub Guards::put_any-put-requires : goal.Guards::put_any-put-requires
Guards::put_any-put-requires t c =
    let l = c.loop-part in
    let items = c.deref-part-items.result.now in
    let part = c.part-item.result in (
      omega (arith, less_part c.args.self.now items l.part-index part c.deref-part-items.ensures.value c.loop-part-test.true c.part-item.is, c.decreases),
      (subst (AreBelow (length c.args.names.now)) (parts_more items l.part-index part c.loop-part-test.true c.part-item.is) l.invariant.0).0,
    )

pub Guards::put_any-loop-part-init : goal.Guards::put_any-loop-part-init
Guards::put_any-loop-part-init t c =
    let names = c.args.names.now in
    let start = parts_start c.args.self.now c.deref-part-items.result.now c.deref-part-items.ensures.value in
    (subst (AreBelow (length names)) start c.requires, ap (λ (gs : Parts). c.args.out.now.items ++ any_text names gs) (sym start))

pub Guards::put_any-loop-part-preserved : goal.Guards::put_any-loop-part-preserved
Guards::put_any-loop-part-preserved t c =
    let l = c.loop-part in
    let names = c.args.names.now in
    let items = c.deref-part-items.result.now in
    let part = c.part-item.result in
    let rest = formulas_of (drop (l.part-index + 1) items) in
    let more = parts_more items l.part-index part c.loop-part-test.true c.part-item.is in
    let whole = c.args.out.now.items ++ any_text names (parts_in c.args.self.now) in
    let mid : c.if-not-is_first.out.items ≡ l.out.items ++ cond l.is_first [] (codes " | ") = elim c.if-not-is_first.branch [
      | Guards::put_any-then-not-is_first+in_ok-extend_from_slice w ↦ ap (λ (v : Vec ℕ). v.items) w.out-is ∙ w.in_ok-extend_from_slice.ensures.items ∙ ap (λ (b : Bool). l.out.items ++ cond b [] (codes " | ")) (sym w.if-not-is_first.true)
      | Guards::put_any-else-not-is_first w ↦ ap (λ (v : Vec ℕ). v.items) w.out-is ∙ sym (append-nil l.out.items) ∙ ap (λ (b : Bool). l.out.items ++ cond b [] (codes " | ")) (sym w.if-not-is_first.false)
    ] in
    let left = subst (λ (gs : Parts). l.out.items ++ cond l.is_first (any_text names gs) (more_any_text names gs) ≡ whole) more l.invariant.1 in (
      (subst (AreBelow (length names)) more l.invariant.0).1,
      written_on l.is_first l.out.items c.if-not-is_first.out.items c.put.new.out.items whole (codes " | ") (guard_text names (formula_of part)) (more_any_text names rest) left mid c.in_ok-put.ensures,
    )

pub Guards::put_any-returns : goal.Guards::put_any-returns
Guards::put_any-returns t c =
    let l = c.loop-part in
    let names = c.args.names.now in
    let whole = c.args.out.now.items ++ any_text names (parts_in c.args.self.now) in
    let none = parts_end c.deref-part-items.result.now l.part-index c.loop-part-test.false in
    all_written l.is_first l.out.items whole (subst (λ (gs : Parts). l.out.items ++ cond l.is_first (any_text names gs) (more_any_text names gs) ≡ whole) none l.invariant.1)

pub Guard::put-returns-in-Always : goal.Guard::put-returns-in-Always
Guard::put-returns-in-Always t c = rw (seen_always c.args.self.now c.in-Always.is) (search rules)

pub Guard::put-returns-in-Never : goal.Guard::put-returns-in-Never
Guard::put-returns-in-Never t c = rw (seen_never c.args.self.now c.in-Never.is) (search rules)

pub Guard::put-returns-in_ok-extend_from_slice-in-Feature : goal.Guard::put-returns-in_ok-extend_from_slice-in-Feature
Guard::put-returns-in_ok-extend_from_slice-in-Feature t c = rw (seen_feature c.args.self.now c.in-Feature.f c.in-Feature.is) (grind (arith, common_steps))

pub Guard::put-returns-in_ok-put_enclosed-in-Not : goal.Guard::put-returns-in_ok-put_enclosed-in-Not
Guard::put-returns-in_ok-put_enclosed-in-Not t c =
    let names = c.args.names.now in
    let inner = c.deref.result.now in
    let group : c.is_group.result ≡ is_group (formula_of inner) = c.is_group.ensures ∙ ap (λ (g : Guard). is_group (formula_of g)) (c.deref-in-Not.ensures ∙ sym c.deref.ensures) in
    let text = c.in_ok-put_enclosed-in-Not.ensures ∙ ap (λ (b : Bool). c.push.new.self.items ++ enclosed_if b (guard_text names (formula_of inner))) group in
    rw (seen_not c.args.self.now c.in-Not.inner inner c.in-Not.is c.deref.ensures) (behind_sign 33 c.args.out.now.items c.push.new.self.items c.put_enclosed.new.out.items _ c.in_ok-push-in-Not.ensures.items text)
