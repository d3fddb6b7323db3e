use Rattle.std.proofs.Common.{◌≡◌, sym, ◌∙◌, subst}
use Rattle.vpg_system.specs.SystemText.{IsTextOf}
use Rattle.vpg_system.specs.SystemView.{header_of}
use Rattle.vpg_system.specs.ReadCode.{seen_in}
use Rattle.vpg_system.proofs.TextLemmas.{text_sound}
use Rattle.vpg_system.proofs.TextComplete.{read_as, spelled_or_memory, fault_through}
use Rattle.vpg_system.proofs.TextFault.{first_fault}
use Rattle.vpg_system.proofs.Systems.{counted, spelled_is_system}
use Rattle.vpg_system.proofs.system.System.read.Goals as goal

pub invariant_of-result : goal.invariant_of-result
invariant_of-result c =
    spelled_is_system c.args.features.now c.args.text.now _ (subst
    (λ n. IsTextOf c.args.features.now c.args.text.now (counted n (header_of c.in-Ok.head.header) (seen_in c.read_lines.new.reader)))
    (sym c.len-count.ensures.len) (text_sound c.args.features.now c.args.text.now _ (c.in-Ok.ensures.head ∙ c.in-Ok-read_lines.ensures.read)))

pub returns-in-Ok-read_lines-clause-found : goal.returns-in-Ok-read_lines-clause-found
returns-in-Ok-read_lines-clause-found c =
    subst (λ n. IsTextOf c.args.features.now c.args.text.now (counted n (header_of c.in-Ok.head.header) (seen_in c.read_lines.new.reader)))
    (sym c.len-count.ensures.len) (text_sound c.args.features.now c.args.text.now _ (c.in-Ok.ensures.head ∙ c.in-Ok-read_lines.ensures.read))

pub returns-in-Ok-read_lines-clause-only : goal.returns-in-Ok-read_lines-clause-only
returns-in-Ok-read_lines-clause-only c s t =
    subst (λ n. counted n (header_of c.in-Ok.head.header) (seen_in c.read_lines.new.reader) ≡ s) (sym c.len-count.ensures.len)
    (read_as c.args.features.now c.args.text.now c.len-count.ensures.names _ s (c.in-Ok.ensures.head ∙ c.in-Ok-read_lines.ensures.read) t)

pub returns-in-Err-clause-refused : goal.returns-in-Err-clause-refused
returns-in-Err-clause-refused c other s t = other (spelled_or_memory c.args.features.now c.args.text.now c.len-count.ensures.names c.in-Err.fault c.in-Err.ensures.refused s t)

pub returns-in-Err-clause-only : goal.returns-in-Err-clause-only
returns-in-Err-clause-only c s t = spelled_or_memory c.args.features.now c.args.text.now c.len-count.ensures.names c.in-Err.fault c.in-Err.ensures.refused s t

pub returns-in-Err-read_lines-clause-refused : goal.returns-in-Err-read_lines-clause-refused
returns-in-Err-read_lines-clause-refused c other s t =
    other (spelled_or_memory c.args.features.now c.args.text.now c.len-count.ensures.names c.in-Err-read_lines.fault
    (fault_through _ _ c.in-Err-read_lines.fault c.in-Ok.ensures.head c.in-Err-read_lines.ensures.refused) s t)

pub returns-in-Err-read_lines-clause-only : goal.returns-in-Err-read_lines-clause-only
returns-in-Err-read_lines-clause-only c s t =
    spelled_or_memory c.args.features.now c.args.text.now c.len-count.ensures.names c.in-Err-read_lines.fault
    (fault_through _ _ c.in-Err-read_lines.fault c.in-Ok.ensures.head c.in-Err-read_lines.ensures.refused) s t

pub returns-in-Err-clause-fault : goal.returns-in-Err-clause-fault
returns-in-Err-clause-fault c = first_fault c.args.features.now c.args.text.now c.in-Err.fault c.len-count.ensures.names c.in-Err.ensures.refused

pub returns-in-Err-read_lines-clause-fault : goal.returns-in-Err-read_lines-clause-fault
returns-in-Err-read_lines-clause-fault c =
    first_fault c.args.features.now c.args.text.now c.in-Err-read_lines.fault c.len-count.ensures.names
    (fault_through _ _ c.in-Err-read_lines.fault c.in-Ok.ensures.head c.in-Err-read_lines.ensures.refused)
