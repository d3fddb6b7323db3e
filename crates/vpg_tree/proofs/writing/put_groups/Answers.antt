use Rattle.std.proofs.Common.{◌<◌, ℕ, length, sym, subst, ◌∙◌, arith}
use Rattle.std.specs.List.{AllByRecursion}
use Rattle.std.proofs.lemmas.List.{drop_more}
use Rattle.vpg_tree.proofs.Grouped.{members_below, groups_more}
use Rattle.vpg_tree.proofs.writing.put_groups.Goals as goal

pub put_group-requires-clause-members : goal.put_group-requires-clause-members
put_group-requires-clause-members c =
    let n = length c.args.names.now in
    let are = c.deref.ensures.value ∙ c.in_ok-members.ensures in
    subst (AllByRecursion (λ (f : ℕ). f < n)) (sym are) (members_below n 1 c.args.places.now c.loop-number.number (omega (arith, c.requires.places)))

pub loop-number-preserved : goal.loop-number-preserved
loop-number-preserved c =
    let are = c.deref.ensures.value ∙ c.in_ok-members.ensures in
    groups_more c.args.names.now c.args.places.now c.args.groups.now c.loop-number.number _ c.deref.result.now c.loop-number.out.items c.put_group.new.out.items _
    (drop_more c.args.groups.now c.loop-number.number _ c.loop-number-test.true) are c.loop-number.invariant c.in_ok-put_group.ensures
