use Rattle.std.proofs.Common.{◌≡◌, [], false, sym, ◌∙◌}
use Rattle.vpg_formula.specs.ReadCode.{texts}
use Rattle.vpg_formula.specs.Requirements.{begins_entry}
use Rattle.vpg_formula.specs.FaultCode.{HaltsAt, BodyAt, NegatedIn, NegatedAt}
use Rattle.vpg_formula.proofs.Faults.{alone_at, alone_negated, ok_more, err_more}
use Rattle.vpg_formula.proofs.requirement.read_all.Goals as goal

pub returns-else-begins_entry-clause-negated : goal.returns-else-begins_entry-clause-negated
returns-else-begins_entry-clause-negated c =
    let ws = texts c.args.words.now in
    let none : begins_entry ws ≡ false = sym c.begins_entry.ensures ∙ c.if-begins_entry.false in
    ok_more c.alone.result (λ i. NegatedIn [] ws [] i.negated) (λ i. NegatedAt ws i.negated) (λ i n. alone_negated ws i.negated none n) c.alone.ensures.negated

pub returns-else-begins_entry-clause-at : goal.returns-else-begins_entry-clause-at
returns-else-begins_entry-clause-at c =
    let ws = texts c.args.words.now in
    let none : begins_entry ws ≡ false = sym c.begins_entry.ensures ∙ c.if-begins_entry.false in
    err_more c.alone.result (BodyAt false [] ws) (HaltsAt ws) (λ h b. alone_at ws h none b) c.alone.ensures.at
