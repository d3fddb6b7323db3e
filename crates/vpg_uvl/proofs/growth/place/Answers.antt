use Rattle.std.proofs.Common.{◌≡◌, ◌≢◌, ◌<◌, ◌≤◌, length, Some, Ok, sym, ap, subst, ◌∙◌, arith}
use Rattle.vpg_features.specs.Names.{IsRefused}
use Rattle.vpg_features.specs.declared.fault.NameFault.{NameFault}
use Rattle.vpg_features.specs.declared.fault.NameFault.TheVariants.{Memory}
use Rattle.vpg_uvl.specs.Nesting.{last_of, placed_below}
use Rattle.vpg_uvl.specs.Items.{Item}
use Rattle.vpg_uvl.specs.Views.{growth_of, item_in}
use Rattle.vpg_uvl.proofs.Growing.{numbered_last, number_of_group, number_of_feature}
use Rattle.vpg_uvl.proofs.Steps.{not_false, placed_named, placed_twice, placed_many}
use Rattle.vpg_uvl.proofs.growth.place.Goals as goal

pub place_group-requires-clause-parent : goal.place_group-requires-clause-parent
place_group-requires-clause-parent c =
    let last : last_of c.args.parents.items ≡ Some c.in-Some.parent = sym (c.in-Some.ensures ∙ ap last_of c.deref.ensures.value) in
    number_of_feature c.args.growth.now.tree c.in-Some.parent (numbered_last c.args.growth.now.tree c.args.parents.items c.in-Some.parent c.requires.parents last) c.if-parent.false

pub overflow_cast-parent : goal.overflow_cast-parent
overflow_cast-parent c =
    let last : last_of c.args.parents.items ≡ Some c.in-Some.parent = sym (c.in-Some.ensures ∙ ap last_of c.deref.ensures.value) in
    let lt : c.in-Some.parent.number < length c.args.growth.now.tree.names = number_of_feature c.args.growth.now.tree c.in-Some.parent (numbered_last c.args.growth.now.tree c.args.parents.items c.in-Some.parent c.requires.parents last) c.if-parent.false in
    let few : length c.args.growth.now.tree.names ≤ 512 = c.names-names.ensures.tree.names.few in
    omega (arith, lt, few)

pub place_feature-requires-clause-group : goal.place_feature-requires-clause-group
place_feature-requires-clause-group c =
    let last : last_of c.args.parents.items ≡ Some c.in-Some.parent = sym (c.in-Some.ensures ∙ ap last_of c.deref.ensures.value) in
    number_of_group c.args.growth.now.tree c.in-Some.parent (numbered_last c.args.growth.now.tree c.args.parents.items c.in-Some.parent c.requires.parents last) (not_false c.in-Some.parent.is_group c.if-not-parent.false)

pub returns-in-Ok-place_feature-clause-grown : goal.returns-in-Ok-place_feature-clause-grown
returns-in-Ok-place_feature-clause-grown c =
    let last : last_of c.args.parents.items ≡ Some c.in-Some.parent = sym (c.in-Some.ensures ∙ ap last_of c.deref.ensures.value) in
    let g = growth_of c.args.growth.now in
    ap (λ (i : Item). placed_below g c.args.indent c.args.body.now c.args.parents.items (last_of c.args.parents.items) i) (ap item_in c.in-Named.is)
    ∙ placed_named g c.args.indent c.args.body.now c.args.parents.items c.in-Some.parent c.in-Named.name.now last (not_false c.in-Some.parent.is_group c.if-not-parent.false) c.in-Ok-place_feature.ensures.added.0 c.in-Ok-place_feature.ensures.added.1
    ∙ ap Ok (sym c.in-Ok-place_feature.ensures.grown)

pub returns-in-Err-Twice-clause-refused : goal.returns-in-Err-Twice-clause-refused
returns-in-Err-Twice-clause-refused c =
    let last : last_of c.args.parents.items ≡ Some c.in-Some.parent = sym (c.in-Some.ensures ∙ ap last_of c.deref.ensures.value) in
    let g = growth_of c.args.growth.now in
    let held = subst (λ (f : NameFault). f ≢ Memory → IsRefused c.args.growth.now.tree.names c.in-Named.name.now f) c.in-Err-Twice.field-0-is c.in-Err-Twice.ensures.refused in
    ap (λ (i : Item). placed_below g c.args.indent c.args.body.now c.args.parents.items (last_of c.args.parents.items) i) (ap item_in c.in-Named.is)
    ∙ placed_twice g c.args.indent c.args.body.now c.args.parents.items c.in-Some.parent c.in-Named.name.now _ last (not_false c.in-Some.parent.is_group c.if-not-parent.false) c.names-names.ensures.tree.names (held (λ e. cc))

pub returns-in-Err-TooMany-clause-refused : goal.returns-in-Err-TooMany-clause-refused
returns-in-Err-TooMany-clause-refused c =
    let last : last_of c.args.parents.items ≡ Some c.in-Some.parent = sym (c.in-Some.ensures ∙ ap last_of c.deref.ensures.value) in
    let g = growth_of c.args.growth.now in
    let full = subst (λ (f : NameFault). f ≢ Memory → IsRefused c.args.growth.now.tree.names c.in-Named.name.now f) c.in-Err-TooMany.field-0-is c.in-Err-TooMany.ensures.refused (λ e. cc) in
    ap (λ (i : Item). placed_below g c.args.indent c.args.body.now c.args.parents.items (last_of c.args.parents.items) i) (ap item_in c.in-Named.is)
    ∙ placed_many g c.args.indent c.args.body.now c.args.parents.items c.in-Some.parent c.in-Named.name.now last (not_false c.in-Some.parent.is_group c.if-not-parent.false) full.0 full.1
