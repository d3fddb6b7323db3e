use Rattle.std.proofs.Common.{rules, ◌∙◌}
use borrow.Author.Tests.{tests}
use Rattle.std.proofs.lemmas.Iterator.{YieldsList-from_slice}
use Rattle.std.proofs.lemmas.Iterator.Search.{all_from_yields_List}
use Rattle.vpg_diagram.specs.DiagramText.{is_blank}
use Rattle.vpg_diagram.proofs.LineCode.{blank_words}
use Rattle.vpg_diagram.proofs.text.is_blank_line.Goals as goal

pub returns : goal.returns
returns c =
    all_from_yields_List is_blank _ _ _ c.all.ensures.ran (YieldsList-from_slice c.args.line.now (cc)) (λ x b q k. search (rules, tests))
    ∙ blank_words c.args.line.now
