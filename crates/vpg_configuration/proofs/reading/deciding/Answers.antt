use Rattle.std.proofs.Common.{ap, ◌∙◌}
use Rattle.vpg_configuration.specs.Deciding.{told}
use Rattle.vpg_configuration.proofs.Decided.{same_lines, only_memory}
use Rattle.vpg_configuration.proofs.reading.deciding.Goals as goal

pub returns-in-Ok-clause-only : goal.returns-in-Ok-clause-only
returns-in-Ok-clause-only c lines k = same_lines k.document c.in-Ok.lines.items lines (c.in-Ok.ensures.only k.document k.spells) k.is

pub returns-in-Err-clause-only : goal.returns-in-Err-clause-only
returns-in-Err-clause-only c lines k =
    c.told.ensures ∙ ap (told c.args.text.now) (only_memory k.document lines c.in-Err.fault k.is (c.in-Err.ensures.refused k.document k.spells))

pub returns-in-Err-clause-refused : goal.returns-in-Err-clause-refused
returns-in-Err-clause-refused c = (c.in-Err.fault, c.in-Err.ensures.fault, c.told.ensures)
