use Rattle.std.proofs.Common.{◌≡◌, ap, ◌∙◌}
use Rattle.vpg_formula.specs.Words.{words_of}
use Rattle.vpg_formula.specs.RegularGrammar.{SpellsRegular}
use Rattle.vpg_formula.specs.Marks.{regular_marks}
use Rattle.vpg_formula.specs.Reading.{regular_at}
use Rattle.vpg_formula.specs.ReadCode.{texts}
use Rattle.vpg_formula.proofs.Regulars.{regular_found, regular_again}
use Rattle.vpg_formula.proofs.Parsing.{parsed_found, parsed_only, failed_only}
use Rattle.vpg_formula.proofs.parse.parse_regular.Goals as goal

pub returns-in-Ok-whole_regular-clause-found : goal.returns-in-Ok-whole_regular-clause-found
returns-in-Ok-whole_regular-clause-found c =
    let same : texts c.deref.result.now ≡ words_of c.args.text.now = ap texts c.deref.ensures.value ∙ c.in-Ok.ensures.words in
    parsed_found regular_marks regular_at _ _ same (SpellsRegular c.args.text.now) _ (regular_found (words_of c.args.text.now)) c.in-Ok-whole_regular.ensures

pub returns-in-Ok-whole_regular-clause-only : goal.returns-in-Ok-whole_regular-clause-only
returns-in-Ok-whole_regular-clause-only c x spells =
    let same : texts c.deref.result.now ≡ words_of c.args.text.now = ap texts c.deref.ensures.value ∙ c.in-Ok.ensures.words in
    parsed_only regular_marks regular_at _ _ same _ x c.in-Ok-whole_regular.ensures (regular_again (words_of c.args.text.now) x spells)

pub returns-clause-only : goal.returns-clause-only
returns-clause-only c x spells =
    let same : texts c.deref.result.now ≡ words_of c.args.text.now = ap texts c.deref.ensures.value ∙ c.in-Ok.ensures.words in
    failed_only regular_marks regular_at _ _ same c.in-Err.stop c.fault.result x c.fault.ensures c.in-Err.ensures (regular_again (words_of c.args.text.now) x spells)
