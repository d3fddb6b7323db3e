use Rattle.std.proofs.Common.{◌≡◌, ℕ, ◌<◌, ◌≤◌, Ok, length, map, vec_len, rules, sym, ap, ◌∙◌, arith}
use Rattle.std.proofs.lemmas.List.{length-map}
use Rattle.vpg_rules.specs.Constraint.{Constraint, Parts, any}
use Rattle.vpg_rules.specs.View.{constraint_of, parts_in}
use Rattle.vpg_rules.specs.declared.rule.Rule.{Any, the_lemmas}
use Rattle.vpg_xml.proofs.StepCode.{if_err_by}
use Rattle.vpg_featureide.proofs.Formed.{several_few, several_more}
use Rattle.vpg_featureide.proofs.formula.disjunction.Goals as goal

pub returns-then-len-lt2-clause-err : goal.returns-then-len-lt2-clause-err
returns-then-len-lt2-clause-err c =
    let xs = c.args.parts.items in
    let count : vec_len c.args.parts ≡ length xs = search rules in
    let few : length (map constraint_of xs) < 2 = omega (arith, count, c.len.ensures, c.if-len-lt2.true, length-map xs constraint_of) in
    if_err_by c.only.result (λ e h. several_few c.args.at (λ x. any x) (map constraint_of xs) e few h) c.only.ensures.err

pub returns-clause-ok : goal.returns-clause-ok
returns-clause-ok c =
    let xs = c.args.parts.items in
    let count : vec_len c.args.parts ≡ length xs = search rules in
    let many : 2 ≤ length (map constraint_of xs) = omega (arith, count, c.len.ensures, c.if-len-lt2.false, length-map xs constraint_of) in
    let is : constraint_of (Any c.new.result) ≡ any (parts_in c.new.result) = search (rules, the_lemmas) in
    several_more c.args.at (λ x. any x) (map constraint_of xs) many ∙ (ap (λ (ps : Parts ℕ). Ok (any ps)) (sym c.new.ensures) ∙ ap (λ (x : Constraint ℕ). Ok x) (sym is))
