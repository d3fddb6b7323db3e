use Rattle.std.proofs.Common.{refl, ap, sym, ◌∙◌}
use Rattle.std.specs.Bool.{beq}
use Rattle.std.specs.Cmp.Lexicographic.{pointwise}
use Rattle.std.proofs.lemmas.Slice.Eq.{slice_eq-Decides}
use Rattle.vpg_blake.proofs.Cubes.{same_value}
use Rattle.vpg_blake.specs.Blake.{cubes_in}
use Rattle.vpg_blake.proofs.Steps.{merged_made, same_made}
use Rattle.vpg_blake.proofs.Rows.{nowhere_none}
use Rattle.vpg_blake.proofs.implicants.+implicants.Goals as goal

pub returns : goal.returns
returns t c =
    merged_made c.in-Some.first.now c.in-Some.rest.now c.args.features.now c.args.table.now c.split_at.result.0.now c.split_at.result.1.now c.deref.result.now
    c.in_ok-shared.shared.items c.deref-2.result.now c.deref-3.result.now c.in_ok-ins.ins.items c.in_ok-outs.outs.items
    c.new-cubes.result.items c.push_others.new.out.items c.push_others-2.new.out.items c.append.new.self.items
    c.in-Some.ensures.cases.0 c.split_at.ensures.front c.split_at.ensures.back (c.deref.ensures.value ∙ c.in_ok-both_hold.ensures)
    c.in_ok-shared.ensures c.in_ok-ins.ensures c.in_ok-outs.ensures
    c.new-cubes.ensures.items c.deref-2.ensures.value c.deref-3.ensures.value
    c.in_ok-push_others.ensures c.in_ok-push_others-2.ensures c.in_ok-append.ensures.items

pub returns-then-not-contains : goal.returns-then-not-contains
returns-then-not-contains t c =
    ap cubes_in c.new-cubes.ensures.items ∙ sym (nowhere_none c.args.features.now c.args.table.now (sym c.contains.ensures.value ∙ c.if-not-contains.true))

pub returns-then-eq-2 : goal.returns-then-eq-2
returns-then-eq-2 t c =
    let with = c.split_at.result.0.now in
    let without = c.split_at.result.1.now in
    same_made c.in-Some.first.now c.in-Some.rest.now c.args.features.now c.args.table.now with without c.implicants.result
    c.in-Some.ensures.cases.0 c.split_at.ensures.front c.split_at.ensures.back
    ((slice_eq-Decides same_value with without (pointwise beq with without) refl).0 (sym c.eq-2.ensures ∙ c.if-eq-2.true)) c.implicants.ensures
