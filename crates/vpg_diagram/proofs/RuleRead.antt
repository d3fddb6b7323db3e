-- Reading the rule of a formula.
use Rattle.std.proofs.Common.{◌≡◌, ℕ, ◌+◌, ◌<◌, ◌≤◌, Bool, true, false, nat_le, List, [], length, Option, Some, None, Result, Ok, Err, refl, sym, ap, ◌∙◌, inr, arith, append-nil}
use Rattle.std.specs.Prelude.{option_map}
use Rattle.std.proofs.lemmas.Bool.{le-leb}
use Rattle.std.proofs.lemmas.Bool.Decides.{nat_tests}
use Rattle.vpg_rules.specs.declared.fault.RuleFault.{RuleFault}
use Rattle.vpg_rules.specs.declared.fault.RuleFault.TheVariants as faults
use Rattle.vpg_rules.specs.declared.rule.Rule.{Rule}
use Rattle.vpg_rules.specs.Constraint.{Constraint, renamed, features_in, IsBelow}
use Rattle.vpg_rules.specs.Clauses.{clauses_of, clause_count}
use Rattle.vpg_rules.specs.Grammar.{NamedRule, Spells, index_or_end}
use Rattle.vpg_rules.specs.Reading.{named_rule_at}
use Rattle.vpg_rules.specs.View.{constraint_of}
use Rattle.vpg_rules.proofs.Features.{renamed_below, below_renamed, count_renamed, count_is}
use Rattle.vpg_rules.proofs.Levels.{rule_found, rule_again}
use Rattle.vpg_diagram.specs.FeatureDiagram.{Line, Formula}
use Rattle.vpg_diagram.specs.DiagramText.{FormulaLine}
use Rattle.vpg_diagram.specs.DiagramReading.{LineFault, UnknownFeature, Syntax, TooManyClauses, TooMany, checked, are_known, formula_line, At, after_root, behind_rule, form_by_word}
use Rattle.vpg_diagram.specs.ReadCode.{IsReadRule, ReadsRule, ReadsLine, IsReadingFault}
use Rattle.vpg_diagram.specs.declared.fault.LineError.TheVariants.{Memory}
use Rattle.vpg_diagram.specs.declared.fault.DiagramFault.TheVariants as whole
use Rattle.vpg_diagram.proofs.RuleLemmas.{known_each, each_known}

pub read_some : (names : List (List ℕ)) (text : List ℕ) (rule : Rule) → ((c : NamedRule) × Spells text c × (constraint_of rule ≡ renamed (index_or_end names) c)) → IsReadRule names text (Some rule)
read_some names text rule h = (h.0, rule_again text h.0 h.1, h.2)

pub read_none : (text : List ℕ) (fault : RuleFault) → (fault ≡ faults.Memory → ⊥) → ((c : NamedRule) → Spells text c → fault ≡ faults.Memory) → named_rule_at text ≡ None
read_none text fault other only = go (named_rule_at text) refl
  where
    go : (o : Option NamedRule) → named_rule_at text ≡ o → o ≡ None
    go None e = refl
    go (Some c) e = absurd (other (only c (rule_found text c e)))

not_syntax : (at : ℕ) → faults.Syntax at ≡ faults.Memory → ⊥
not_syntax at e = cc

not_deep : (at : ℕ) → faults.TooDeep at ≡ faults.Memory → ⊥
not_deep at e = cc

pub none_at_syntax : (text : List ℕ) (fault : RuleFault) (at : ℕ) → fault ≡ faults.Syntax at → ((c : NamedRule) → Spells text c → fault ≡ faults.Memory) → named_rule_at text ≡ None
none_at_syntax text fault at is only = read_none text fault (λ m. not_syntax at (sym is ∙ m)) only

pub none_at_deep : (text : List ℕ) (fault : RuleFault) (at : ℕ) → fault ≡ faults.TooDeep at → ((c : NamedRule) → Spells text c → fault ≡ faults.Memory) → named_rule_at text ≡ None
none_at_deep text fault at is only = read_none text fault (λ m. not_deep at (sym is ∙ m)) only

module _ (names : List (List ℕ)) (rules : ℕ) (c : NamedRule) where
  last : Result Line LineFault
  last = Ok (Formula (renamed (index_or_end names) c))

  pub line_unknown : (IsBelow (length names) (renamed (index_or_end names) c) → ⊥) → formula_line names rules c ≡ Err UnknownFeature
  line_unknown absent = go (are_known names (features_in c)) refl
    where
      go : (t : Bool) → are_known names (features_in c) ≡ t → checked t UnknownFeature (checked (nat_le (clause_count c) 64) TooManyClauses (checked (nat_le (rules + clause_count c) 16384) TooMany (Ok (Formula (renamed (index_or_end names) c))))) ≡ Err UnknownFeature
      go true e = absurd (absent (renamed_below (length names) (index_or_end names) c (known_each names (features_in c) e)))
      go false e = refl

  module _ (below : IsBelow (length names) (renamed (index_or_end names) c)) where
    known : are_known names (features_in c) ≡ true
    known = each_known names (features_in c) (below_renamed (length names) (index_or_end names) c below)

    pub line_long : 64 < clause_count c → formula_line names rules c ≡ Err TooManyClauses
    line_long lt =
        let large : nat_le (clause_count c) 64 ≡ false = over (clause_count c) 64 lt in
        ap (λ (t : Bool). checked t UnknownFeature (checked (nat_le (clause_count c) 64) TooManyClauses (checked (nat_le (rules + clause_count c) 16384) TooMany (Ok (Formula (renamed (index_or_end names) c)))))) known
        ∙ ap (λ (t : Bool). checked t TooManyClauses (checked (nat_le (rules + clause_count c) 16384) TooMany (Ok (Formula (renamed (index_or_end names) c))))) large
      where
        over : (n m : ℕ) → m < n → nat_le n m ≡ false
        over n m lt = grind (arith, nat_tests)

    pub line_full : clause_count c ≤ 64 → 16384 < rules + clause_count c → formula_line names rules c ≡ Err TooMany
    line_full le lt =
        let large : nat_le (rules + clause_count c) 16384 ≡ false = over (rules + clause_count c) 16384 lt in
        ap (λ (t : Bool). checked t UnknownFeature (checked (nat_le (clause_count c) 64) TooManyClauses (checked (nat_le (rules + clause_count c) 16384) TooMany (Ok (Formula (renamed (index_or_end names) c)))))) known
        ∙ ap (λ (t : Bool). checked t TooManyClauses (checked (nat_le (rules + clause_count c) 16384) TooMany (Ok (Formula (renamed (index_or_end names) c))))) (le-leb (clause_count c) 64 le)
        ∙ ap (λ (t : Bool). checked t TooMany (Ok (Formula (renamed (index_or_end names) c)))) large
      where
        over : (n m : ℕ) → m < n → nat_le n m ≡ false
        over n m lt = grind (arith, nat_tests)

    pub line_read : clause_count c ≤ 64 → rules + clause_count c ≤ 16384 → formula_line names rules c ≡ Ok (Formula (renamed (index_or_end names) c))
    line_read le room =
        ap (λ (t : Bool). checked t UnknownFeature (checked (nat_le (clause_count c) 64) TooManyClauses (checked (nat_le (rules + clause_count c) 16384) TooMany (Ok (Formula (renamed (index_or_end names) c)))))) known
        ∙ ap (λ (t : Bool). checked t TooManyClauses (checked (nat_le (rules + clause_count c) 16384) TooMany (Ok (Formula (renamed (index_or_end names) c))))) (le-leb (clause_count c) 64 le)
        ∙ ap (λ (t : Bool). checked t TooMany (Ok (Formula (renamed (index_or_end names) c)))) (le-leb (rules + clause_count c) 16384 room)

-- the clauses of the rule over indices
pub count_at : (names : List (List ℕ)) (c : NamedRule) (r : Constraint ℕ) → r ≡ renamed (index_or_end names) c → length (clauses_of r) ≡ clause_count c
count_at names c r e = ap (λ (x : Constraint ℕ). length (clauses_of x)) e ∙ count_is (renamed (index_or_end names) c) ∙ count_renamed (index_or_end names) c

-- a first line that is a rule
pub root_found : (number : ℕ) (rest : List (List ℕ)) (o : Option NamedRule) (c : NamedRule) → o ≡ Some c → IsReadingFault (after_root number (option_map FormulaLine o) rest) (whole.UnknownFeature number)
root_found number rest o c e = inr (At number UnknownFeature, ap (λ (x : Option NamedRule). after_root number (option_map FormulaLine x) rest) e, refl)

pub root_none : (number : ℕ) (rest : List (List ℕ)) (o : Option NamedRule) → o ≡ None → IsReadingFault (after_root number (option_map FormulaLine o) rest) (whole.Syntax number)
root_none number rest o e = inr (At number Syntax, ap (λ (x : Option NamedRule). after_root number (option_map FormulaLine x) rest) e, refl)

-- a line that begins with the word
pub rule_line : (names after : List (List ℕ)) (rules : ℕ) (bytes text : List ℕ) (rule : Constraint ℕ) (count : ℕ) → behind_rule bytes ≡ Some text → after ≡ names → ReadsRule names rules text rule count
    → ReadsLine names rules bytes after (Formula rule) count
rule_line names after rules bytes text rule count w n r = record {
  form = FormulaLine r.named;
  form_is = ap (form_by_word bytes) w ∙ ap (option_map FormulaLine) r.named_is;
  line_is = r.line_is;
  names_are = n ∙ sym (append-nil names);
  count_is = r.count_is;
}
