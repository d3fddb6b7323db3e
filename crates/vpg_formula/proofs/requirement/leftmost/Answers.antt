use Rattle.std.proofs.Common.{sym, ap, ◌∙◌}
use Rattle.vpg_formula.specs.ReadCode.{texts}
use Rattle.vpg_formula.specs.EntryCode.{earlier_of}
use Rattle.vpg_formula.specs.Naming.{first_unknown}
use Rattle.vpg_formula.specs.NamingCode.{pairs}
use Rattle.vpg_formula.proofs.NamingCode.{unknown_before}
use Rattle.vpg_formula.proofs.StopCode.{way_stops}
use Rattle.vpg_formula.proofs.requirement.leftmost.Goals as goal

pub returns-in-Some-clause-at : goal.returns-in-Some-clause-at
returns-in-Some-clause-at c in_entry =
    unknown_before (earlier_of c.args.entries.now) (texts c.args.words.now) c.args.left c.in-Some.left
    (sym (c.first_unknown.ensures ∙ ap first_unknown (ap pairs c.deref.ensures.value ∙ c.in-Ok.ensures)) ∙ c.in-Some.is)

pub returns-clause-at : goal.returns-clause-at
returns-clause-at c in_entry =
    way_stops (earlier_of c.args.entries.now) (texts c.args.words.now) c.args.left c.args.halt c.requires.at
    (sym (c.first_unknown.ensures ∙ ap first_unknown (ap pairs c.deref.ensures.value ∙ c.in-Ok.ensures)) ∙ c.in-None.is) in_entry
