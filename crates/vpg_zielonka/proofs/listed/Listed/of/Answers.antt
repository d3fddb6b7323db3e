use Rattle.std.proofs.Common.{◌^◌, ℕ, List, Bool, length, map, sym, ◌∙◌, ap, subst, arith}
use Rattle.std.specs.Global.{Vec}
use Rattle.vpg_zielonka.specs.Words.{AreColumns, columns_of, rows}
use Rattle.vpg_zielonka.proofs.Columns.{are_columns, rows_of, items_long, items_count}
use Rattle.vpg_zielonka.proofs.listed.Listed.of.Goals as goal

pub invariant_of-result : goal.invariant_of-result
invariant_of-result c = subst (λ n. AreColumns c.args.features n c.all_of-all.result c.in_ok-columns.columns.items)
    (items_count c.args.products.now)
    (are_columns (map (λ (p : Vec Bool). p.items) c.args.products.now) c.args.features c.all_of-all.result
    c.in_ok-columns.columns.items c.in_ok-columns.ensures
    (items_long c.args.products.now c.args.features c.requires.long)
    (omega (arith, c.requires.few, items_count c.args.products.now))
    (c.all_of-all.ensures ∙ ap (λ n. 2 ^ n) (sym (items_count c.args.products.now))) c.requires.distinct)

pub returns-clause-products : goal.returns-clause-products
returns-clause-products c =
    ap (λ (xs : List ℕ). rows xs (length c.args.products.now)) c.in_ok-columns.ensures
    ∙ ap (λ n. rows (columns_of (map (λ (p : Vec Bool). p.items) c.args.products.now) c.args.features) n)
    (sym (items_count c.args.products.now))
    ∙ rows_of (map (λ (p : Vec Bool). p.items) c.args.products.now) c.args.features
    (items_long c.args.products.now c.args.features c.requires.long)
