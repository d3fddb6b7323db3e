-- The constraint that a rule stands for, and the constraints of a list of rules.
use Rattle.std.specs.Prelude.{ℕ, List, [], ◌∷◌, map}
use Rattle.vpg_rules.specs.Constraint.{Constraint, Parts, always, never, feature, negation, all, any, implication, equivalence, no_parts, part}
use Rattle.vpg_rules.specs.declared.rule.Rule.{Rule}
use Rattle.vpg_rules.specs.declared.rule.Rules.{Rules}
use Rattle.vpg_rules.specs.declared.rule.Rule.TheOpen.{Rule-F, Rules-F}
use Rattle.vpg_rules.specs.declared.rule.Rule.TheFolds.{fold-Rule, fold-Rules}

abbrev pub parts_of : List (Constraint ℕ) → Parts ℕ
parts_of [] = no_parts
parts_of (c ∷ cs) = part c (parts_of cs)

-- one level, with each rule inside seen as its constraint
abbrev pub rule_step : Rule-F (Constraint ℕ) (Parts ℕ) → Constraint ℕ
rule_step Rule-F.Always = always
rule_step Rule-F.Never = never
rule_step (Rule-F.Feature f) = feature f
rule_step (Rule-F.Not c) = negation c.value
rule_step (Rule-F.All cs) = all cs
rule_step (Rule-F.Any cs) = any cs
rule_step (Rule-F.Implies c d) = implication c.value d.value
rule_step (Rule-F.Iff c d) = equivalence c.value d.value

abbrev pub rules_step : Rules-F (Constraint ℕ) (Parts ℕ) → Parts ℕ
rules_step cs = parts_of cs.items.items

-- the constraint that a rule of the code stands for
abbrev pub constraint_of : Rule → Constraint ℕ
constraint_of = fold-Rule (Constraint ℕ) (Parts ℕ) rule_step rules_step

-- the parts that a list stands for
abbrev pub parts_in : Rules → Parts ℕ
parts_in = fold-Rules (Constraint ℕ) (Parts ℕ) rule_step rules_step

-- the constraints of rules
abbrev pub constraints_of : List Rule → Parts ℕ
constraints_of rules = parts_of (map constraint_of rules)
