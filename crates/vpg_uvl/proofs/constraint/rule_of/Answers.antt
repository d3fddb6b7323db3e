use Rattle.std.proofs.Common.{◌≡◌, true, sym, ◌∙◌}
use Rattle.vpg_uvl.specs.Arrows.{is_chained, enclosed}
use Rattle.vpg_uvl.specs.Views.{row_of}
use Rattle.vpg_uvl.proofs.RowFaults.{rule_is_faulty, chain_spelled}
use Rattle.vpg_uvl.proofs.constraint.rule_of.Goals as goal

pub returns-in-Err-clause-refused : goal.returns-in-Err-clause-refused
returns-in-Err-clause-refused c =
    rule_is_faulty (row_of c.args.row) c.args.text.now c.in-Err.fault c.fault_of.result c.fault_of.ensures.placed c.fault_of.ensures.memory
    (λ d spells. c.in-Err.ensures.only spells.right_first spells.is_rule) c.fault_of.ensures.tells

pub returns-in-Err-clause-only : goal.returns-in-Err-clause-only
returns-in-Err-clause-only c d spells = c.fault_of.ensures.memory (c.in-Err.ensures.only spells.right_first spells.is_rule)

pub returns-clause-refused : goal.returns-clause-refused
returns-clause-refused c =
    let chained : is_chained 0 c.args.text.now ≡ true = sym c.is_chained.ensures ∙ c.if-not-is_chained.false in
    let chain : c.deref.result.now ≡ enclosed c.args.text.now = c.deref.ensures.value ∙ c.in-Ok-enclosed.ensures in
    rule_is_faulty (row_of c.args.row) c.args.text.now c.in-Err-parse_rule.fault c.chain_fault.result c.chain_fault.ensures.placed c.chain_fault.ensures.memory
    (λ d spells. c.in-Err-parse_rule.ensures.only d (chain_spelled c.args.text.now c.deref.result.now d chained chain spells)) c.chain_fault.ensures.tells

pub returns-clause-only : goal.returns-clause-only
returns-clause-only c d spells =
    let chained : is_chained 0 c.args.text.now ≡ true = sym c.is_chained.ensures ∙ c.if-not-is_chained.false in
    let chain : c.deref.result.now ≡ enclosed c.args.text.now = c.deref.ensures.value ∙ c.in-Ok-enclosed.ensures in
    c.chain_fault.ensures.memory (c.in-Err-parse_rule.ensures.only d (chain_spelled c.args.text.now c.deref.result.now d chained chain spells))
