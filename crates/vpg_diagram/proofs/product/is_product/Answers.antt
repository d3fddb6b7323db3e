use Rattle.std.proofs.Common.{List, sym, subst₂}
use Rattle.vpg_diagram.specs.Tally.{Tally}
use Rattle.vpg_diagram.specs.Clauses.{MeetsAll}
use Rattle.vpg_diagram.specs.declared.clause.Literal.{Literal}
use Rattle.vpg_diagram.proofs.ProductLemmas.{lines_from_product, product_from_lines}
use Rattle.vpg_diagram.proofs.FormulaLemmas.{formula_from_lines, lines_from_formula}
use Rattle.vpg_diagram.proofs.product.is_product.Goals as goal

pub returns : goal.returns
returns c lines ok e n l =
    let s = c.args.features.now in (
      λ t. product_from_lines lines s ok (lines_from_formula lines s l
          (subst₂ (λ (cs : List (List Literal)) (ns : List Tally). MeetsAll cs ns s) e n (c.meets_all.ensures.0 t))),
      λ p. c.meets_all.ensures.1 (subst₂ (λ (cs : List (List Literal)) (ns : List Tally). MeetsAll cs ns s) (sym e) (sym n) (formula_from_lines lines s (lines_from_product lines s ok p))),
    )
