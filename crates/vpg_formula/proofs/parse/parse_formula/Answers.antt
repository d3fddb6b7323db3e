use Rattle.std.proofs.Common.{◌≡◌, ap, ◌∙◌}
use Rattle.vpg_formula.specs.Words.{words_of}
use Rattle.vpg_formula.specs.FormulaGrammar.{SpellsFormula}
use Rattle.vpg_formula.specs.Marks.{phrase_marks}
use Rattle.vpg_formula.specs.Reading.{formula_at}
use Rattle.vpg_formula.specs.ReadCode.{texts}
use Rattle.vpg_formula.proofs.Phrases.{formula_found, formula_reread}
use Rattle.vpg_formula.proofs.Parsing.{parsed_found, parsed_only, failed_only}
use Rattle.vpg_formula.proofs.parse.parse_formula.Goals as goal

pub returns-in-Ok-whole_formula-clause-found : goal.returns-in-Ok-whole_formula-clause-found
returns-in-Ok-whole_formula-clause-found c =
    let same : texts c.deref.result.now ≡ words_of c.args.text.now = ap texts c.deref.ensures.value ∙ c.in-Ok.ensures.words in
    parsed_found phrase_marks formula_at _ _ same (SpellsFormula c.args.text.now) _ (formula_found (words_of c.args.text.now)) c.in-Ok-whole_formula.ensures

pub returns-in-Ok-whole_formula-clause-only : goal.returns-in-Ok-whole_formula-clause-only
returns-in-Ok-whole_formula-clause-only c x spells =
    let same : texts c.deref.result.now ≡ words_of c.args.text.now = ap texts c.deref.ensures.value ∙ c.in-Ok.ensures.words in
    parsed_only phrase_marks formula_at _ _ same _ x c.in-Ok-whole_formula.ensures (formula_reread (words_of c.args.text.now) x spells)

pub returns-clause-only : goal.returns-clause-only
returns-clause-only c x spells =
    let same : texts c.deref.result.now ≡ words_of c.args.text.now = ap texts c.deref.ensures.value ∙ c.in-Ok.ensures.words in
    failed_only phrase_marks formula_at _ _ same c.in-Err.stop c.fault.result x c.fault.ensures c.in-Err.ensures (formula_reread (words_of c.args.text.now) x spells)
