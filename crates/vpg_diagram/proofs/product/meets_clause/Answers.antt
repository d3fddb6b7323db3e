use Rattle.std.proofs.Common.{◌≡◌, sym, ◌∙◌}
use Rattle.std.specs.List.{list_any}
use Rattle.vpg_diagram.specs.Clauses.{is_true_in}
use Rattle.vpg_diagram.proofs.ProductCode.{clause_from_test, test_from_clause}
use Rattle.vpg_diagram.proofs.product.meets_clause.Goals as goal

pub returns : goal.returns
returns c =
    let e : c.has_true.result ≡ list_any (λ l. is_true_in c.args.features.now l) c.args.clause.now = rw c.literals.ensures at c.has_true.ensures in
    (λ t. clause_from_test c.args.features.now c.args.clause.now (sym e ∙ t), λ m. e ∙ test_from_clause c.args.features.now c.args.clause.now m)
