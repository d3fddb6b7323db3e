use Rattle.std.proofs.Common.{rules, tests}
use Rattle.std.specs.Prelude.{not}
use Rattle.std.proofs.lemmas.Iterator.Splits.{YieldsList-from_slice_split}
use Rattle.std.proofs.lemmas.Iterator.Search.{any_from_yields_List}
use Rattle.vpg_features.specs.Names.{is_name_byte}
use Rattle.vpg_uvl.specs.Items.{is_constraint_word}
use Rattle.vpg_uvl.proofs.item.names_constraint.Goals as goal

pub returns : goal.returns
returns c =
    any_from_yields_List is_constraint_word _ _ _ c.any.ensures.ran
    (YieldsList-from_slice_split _ (λ b. not (is_name_byte b)) c.args.text.now (cc) (cc) (cc) (λ x r q k. search (rules, tests)))
    (λ x b q k. search (rules, tests))
