use Rattle.std.proofs.Common.{sym, ◌∙◌}
use Rattle.vpg_diagram.proofs.ReadCodeLemmas.{place_is, rule_without_first, rule_without_second, rule_over, rule_there}
use Rattle.vpg_diagram.proofs.reading.rule_of.Goals as goal

pub returns-in_default-clause-err : goal.returns-in_default-clause-err
returns-in_default-clause-err c line =
    rule_without_first c.args.names.now c.args.rules c.args.first.now c.args.second.now line (sym (c.get.ensures.index ∙ place_is c.args.names.now c.args.first.now) ∙ c.in_default.is)

pub returns-in_default-get-clause-err : goal.returns-in_default-get-clause-err
returns-in_default-get-clause-err c line =
    rule_without_second c.args.names.now c.args.rules c.args.first.now c.args.second.now line c.in-Some.first (sym (c.get.ensures.index ∙ place_is c.args.names.now c.args.first.now) ∙ c.in-Some.is)
    (sym (c.get-2.ensures.index ∙ place_is c.args.names.now c.args.second.now) ∙ c.in_default-get.is)

pub returns-then-rules-ge-MOST_RULES-clause-err : goal.returns-then-rules-ge-MOST_RULES-clause-err
returns-then-rules-ge-MOST_RULES-clause-err c line =
    rule_over c.args.names.now c.args.rules c.args.first.now c.args.second.now line c.in-Some.first c.in-Some-get.second (sym (c.get.ensures.index ∙ place_is c.args.names.now c.args.first.now) ∙ c.in-Some.is)
    (sym (c.get-2.ensures.index ∙ place_is c.args.names.now c.args.second.now) ∙ c.in-Some-get.is) c.if-rules-ge-MOST_RULES.true

pub returns-clause-ok : goal.returns-clause-ok
returns-clause-ok c line =
    rule_there c.args.names.now c.args.rules c.args.first.now c.args.second.now line c.in-Some.first c.in-Some-get.second (sym (c.get.ensures.index ∙ place_is c.args.names.now c.args.first.now) ∙ c.in-Some.is)
    (sym (c.get-2.ensures.index ∙ place_is c.args.names.now c.args.second.now) ∙ c.in-Some-get.is) c.if-rules-ge-MOST_RULES.false
