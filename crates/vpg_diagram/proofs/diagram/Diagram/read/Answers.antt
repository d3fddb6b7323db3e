use Rattle.std.proofs.Common.{sym, ◌∙◌, subst}
use Rattle.vpg_diagram.specs.DiagramText.{IsTextOf}
use Rattle.vpg_diagram.proofs.TextLemmas.{text_from_reading}
use Rattle.vpg_diagram.proofs.TextReading.{read_as, spelled_or_memory, fault_is_first}
use Rattle.vpg_diagram.proofs.diagram.Diagram.read.Goals as goal

pub returns-in-Err-clause-refused : goal.returns-in-Err-clause-refused
returns-in-Err-clause-refused c other d t = other (spelled_or_memory c.args.text.now c.in-Err.fault c.in-Err.ensures.refused d t)

pub returns-in-Err-clause-fault : goal.returns-in-Err-clause-fault
returns-in-Err-clause-fault c = fault_is_first c.args.text.now c.in-Err.fault c.in-Err.ensures.refused

pub returns-in-Err-clause-only : goal.returns-in-Err-clause-only
returns-in-Err-clause-only c d t = spelled_or_memory c.args.text.now c.in-Err.fault c.in-Err.ensures.refused d t

pub of-requires : goal.of-requires
of-requires c = (text_from_reading c.args.text.now _ c.in-Ok.ensures.read).named_diagram

pub returns-in-Ok-of-clause-found : goal.returns-in-Ok-of-clause-found
returns-in-Ok-of-clause-found c = subst (IsTextOf c.args.text.now) (sym c.in-Ok-of.ensures) (text_from_reading c.args.text.now _ c.in-Ok.ensures.read)

pub returns-in-Ok-of-clause-only : goal.returns-in-Ok-of-clause-only
returns-in-Ok-of-clause-only c d t = c.in-Ok-of.ensures ∙ read_as c.args.text.now _ d c.in-Ok.ensures.read t
