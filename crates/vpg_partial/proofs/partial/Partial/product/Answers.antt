use Rattle.std.proofs.Common.{List, true, map, ap, ◌∙◌}
use Rattle.vpg_guards.specs.declared.tri.Tri.{Tri}
use Rattle.vpg_partial.specs.KnownTable.{is_known_as}
use Rattle.vpg_partial.proofs.OneProduct.{only_remaining}
use Rattle.vpg_partial.proofs.partial.Partial.product.Goals as goal

pub returns-clause-product : goal.returns-clause-product
returns-clause-product c =
    λ lines choices ok below table. only_remaining lines choices c.args.self.now c.in_ok-features_in.field-0.items ok below table (c.is_full.ensures.known.0 c.if-not-is_full.false)
    (c.in_ok-features_in.ensures ∙ ap (λ (values : List Tri). map (λ value. is_known_as value true) values) (c.deref.ensures.value ∙ c.self.view_is))
