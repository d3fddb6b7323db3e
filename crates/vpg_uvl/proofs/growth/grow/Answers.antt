use Rattle.std.proofs.Common.{◌≡◌, Result, Ok, None, sym, ap, subst, ◌∙◌}
use Rattle.std.specs.Prelude.{IfOk, IfErr}
use Rattle.std.specs.List.{AllByRecursion}
use Rattle.vpg_uvl.specs.Items.{Stop, item_of}
use Rattle.vpg_uvl.specs.Nesting.{Growth, narrower, early_stop}
use Rattle.vpg_uvl.specs.Views.{growth_of, item_in, IsNumbered, IsRowError}
use Rattle.vpg_uvl.proofs.Growing.{numbered_narrower}
use Rattle.vpg_uvl.proofs.Steps.{grown_is}
use Rattle.vpg_uvl.proofs.growth.grow.Goals as goal

pub place-requires-clause-parents : goal.place-requires-clause-parents
place-requires-clause-parents c =
    let rows : c.in-Ok-narrower.parents.items ≡ narrower c.indentation-indent.result c.args.growth.now.open_rows.items = c.in-Ok-narrower.ensures ∙ ap (narrower c.indentation-indent.result) c.deref-2.ensures.value in
    subst (AllByRecursion (IsNumbered c.args.growth.now.tree)) (sym rows) (numbered_narrower c.args.growth.now.tree c.indentation-indent.result c.args.growth.now.open_rows.items c.requires.each)

pub returns-clause-grown : goal.returns-clause-grown
returns-clause-grown c =
    let g = growth_of c.args.growth.now in
    let rows : c.in-Ok-narrower.parents.items ≡ narrower c.indentation-indent.result c.args.growth.now.open_rows.items = c.in-Ok-narrower.ensures ∙ ap (narrower c.indentation-indent.result) c.deref-2.ensures.value in
    let free : early_stop c.indentation-indent.result g.open_rows ≡ None = cc in
    let is : item_of c.after_blanks-body.result.now ≡ Ok (item_in c.in-Ok.item) = c.in-Ok.ensures.gives in
    let same = grown_is g c.args.bytes.now c.indentation-indent.result c.after_blanks-body.result.now c.in-Ok-narrower.parents.items (item_in c.in-Ok.item) c.indentation-indent.ensures c.after_blanks-body.ensures free is rows in
    subst (λ (r : Result Growth Stop). IfOk c.place.result (λ _. r ≡ Ok (growth_of c.place.new.growth))) (sym same) c.place.ensures.grown

pub returns-clause-refused : goal.returns-clause-refused
returns-clause-refused c =
    let g = growth_of c.args.growth.now in
    let rows : c.in-Ok-narrower.parents.items ≡ narrower c.indentation-indent.result c.args.growth.now.open_rows.items = c.in-Ok-narrower.ensures ∙ ap (narrower c.indentation-indent.result) c.deref-2.ensures.value in
    let free : early_stop c.indentation-indent.result g.open_rows ≡ None = cc in
    let is : item_of c.after_blanks-body.result.now ≡ Ok (item_in c.in-Ok.item) = c.in-Ok.ensures.gives in
    let same = grown_is g c.args.bytes.now c.indentation-indent.result c.after_blanks-body.result.now c.in-Ok-narrower.parents.items (item_in c.in-Ok.item) c.indentation-indent.ensures c.after_blanks-body.ensures free is rows in
    subst (λ (r : Result Growth Stop). IfErr c.place.result (IsRowError r)) (sym same) c.place.ensures.refused
