use Rattle.std.proofs.Common.{Option, sym, ap, subst}
use Rattle.vpg_diagram.specs.DiagramText.{Form}
use Rattle.vpg_diagram.specs.DiagramReading.{after_root, form_by_word}
use Rattle.vpg_diagram.specs.ReadCode.{IsReadingFault}
use Rattle.vpg_diagram.proofs.reading.root_name.Goals as goal

pub returns-in-Some-clause-refused : goal.returns-in-Some-clause-refused
returns-in-Some-clause-refused c rest =
    subst (λ (o : Option Form). IsReadingFault (after_root c.args.number o rest) c.root_rule.result) (ap (form_by_word c.args.line.now) c.in-Some.ensures) (c.root_rule.ensures rest)
