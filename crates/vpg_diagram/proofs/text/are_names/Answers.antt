use Rattle.std.proofs.Common.{rules, ◌∙◌}
use borrow.Author.Tests.{tests}
use Rattle.std.proofs.lemmas.Iterator.{YieldsList-from_slice}
use Rattle.std.proofs.lemmas.Iterator.Search.{all_from_yields_List}
use Rattle.vpg_diagram.specs.DiagramReading.{is_feature_name}
use Rattle.vpg_diagram.proofs.FormCode.{names_of_texts}
use Rattle.vpg_diagram.proofs.text.are_names.Goals as goal

pub returns : goal.returns
returns c =
    all_from_yields_List (λ w. is_feature_name w.now) _ _ _ c.all.ensures.ran (YieldsList-from_slice c.args.words.now (cc)) (λ x b q k. search (rules, tests))
    ∙ names_of_texts c.args.words.now
