-- The two sides of reading, for what the code answers.
use Rattle.std.proofs.Common.{◌≡◌, ℕ, List, length, Option, Some, None, Result, Ok, Err, refl, sym, ap, ◌∙◌}
use Rattle.std.specs.Prelude.{IfOk, MatchResult}
use Rattle.vpg_rules.specs.declared.fault.RuleFault.{RuleFault}
use Rattle.vpg_rules.specs.declared.fault.RuleFault.TheVariants as faults
use Rattle.vpg_rules.specs.declared.rule.Rule.{Rule}
use Rattle.vpg_rules.specs.Constraint.{Constraint, renamed}
use Rattle.vpg_rules.specs.View.{constraint_of}
use Rattle.vpg_rules.specs.Grammar.{NamedRule, Spells}
use Rattle.vpg_rules.specs.Reading.{Gives, whole_at, named_rule_at}
use Rattle.vpg_rules.proofs.Levels.{rule_found, rule_again}
use Rattle.vpg_rules.proofs.Renaming.{renamed_rule, whole_seen}

module _ (to : List ℕ → ℕ) (text : List ℕ) where
  abbrev pub IsRead : Rule → Type 0
  IsRead rule = (c : NamedRule) × Spells text c × (constraint_of rule ≡ renamed to c)

  read_as : (c : Constraint ℕ) (o : Option NamedRule) → Some c ≡ renamed_rule to o → (d : NamedRule) × (o ≡ Some d) × (c ≡ renamed to d)
  read_as c None e = absurd cc
  read_as c (Some d) e = (d, refl, cc)

  pub is_found : (r : Result Rule RuleFault) → Gives (λ c. constraint_of c) r (whole_at to text) → IfOk r IsRead
  is_found (Ok c) e =
      let h = read_as (constraint_of c) (named_rule_at text) (sym e ∙ whole_seen to text) in
      (h.0, rule_found text h.0 h.1, h.2)
  is_found (Err e) h = tt

  again : (c : NamedRule) → Spells text c → whole_at to text ≡ Some (renamed to c)
  again c spells = whole_seen to text ∙ ap (renamed_rule to) (rule_again text c spells)

  pub only_that : (r : Result Rule RuleFault) → Gives (λ c. constraint_of c) r (whole_at to text) → (c : NamedRule) → Spells text c
      → MatchResult r (λ d. constraint_of d ≡ renamed to c) (λ e. e ≡ faults.Memory)
  only_that (Ok d) e c spells = let is = again c spells in cc
  only_that (Err faults.Memory) h c spells = refl
  only_that (Err (faults.Syntax at)) h c spells = let is = again c spells in absurd cc
  only_that (Err (faults.TooDeep at)) h c spells = let is = again c spells in absurd cc
