use Rattle.std.proofs.Common.{◌≡◌, ℕ, length, Ok, inr, sym, ap, ◌∙◌, subst, arith}
use Rattle.vpg_rules.specs.Constraint.{Constraint, renamed, IsBelow}
use Rattle.vpg_rules.specs.Clauses.{clause_count}
use Rattle.vpg_rules.specs.Grammar.{index_or_end}
use Rattle.vpg_rules.specs.View.{constraint_of}
use Rattle.vpg_diagram.specs.FeatureDiagram.{Formula}
use Rattle.vpg_diagram.specs.ReadCode.{IsReadRule}
use Rattle.vpg_diagram.proofs.RuleRead.{line_unknown, line_long, line_full, line_read, count_at}
use Rattle.vpg_diagram.proofs.reading.formula_line.Goals as goal

pub returns-then-not-is_below-clause-refused : goal.returns-then-not-is_below-clause-refused
returns-then-not-is_below-clause-refused c =
    let names = c.args.names.now in
    let h = subst (IsReadRule names c.args.text.now) c.in-Some.is c.in_ok-rule.ensures in
    inr (
      h.0,
      h.1,
      line_unknown names c.args.rules h.0 (λ b.
          let yes = c.is_below.ensures.1 (subst (λ (k : ℕ). IsBelow k (constraint_of c.in-Some.rule)) (sym c.len.ensures.len) (subst (IsBelow (length names)) (sym h.2) b)) in cc),
    )

pub returns-in-Err-TooMany-clause-refused : goal.returns-in-Err-TooMany-clause-refused
returns-in-Err-TooMany-clause-refused c =
    let names = c.args.names.now in
    let h = subst (IsReadRule names c.args.text.now) c.in-Some.is c.in_ok-rule.ensures in
    let below : IsBelow (length names) (renamed (index_or_end names) h.0) =
    subst (IsBelow (length names)) h.2 (subst (λ (k : ℕ). IsBelow k (constraint_of c.in-Some.rule)) c.len.ensures.len (c.is_below.ensures.0 c.if-not-is_below.false)) in
    let count = count_at names h.0 (constraint_of c.in-Some.rule) h.2 in
    let many = c.in-Err-TooMany.ensures.refused c.in-Err-TooMany.field-0-is in
    inr (h.0, h.1, line_long names c.args.rules h.0 below (omega (arith, count, many)))

pub returns-then-count-rules-clause-refused : goal.returns-then-count-rules-clause-refused
returns-then-count-rules-clause-refused c =
    let names = c.args.names.now in
    let h = subst (IsReadRule names c.args.text.now) c.in-Some.is c.in_ok-rule.ensures in
    let below : IsBelow (length names) (renamed (index_or_end names) h.0) =
    subst (IsBelow (length names)) h.2 (subst (λ (k : ℕ). IsBelow k (constraint_of c.in-Some.rule)) c.len.ensures.len (c.is_below.ensures.0 c.if-not-is_below.false)) in
    let count = count_at names h.0 (constraint_of c.in-Some.rule) h.2 in
    let n : length c.in-Ok.clauses.items ≡ clause_count h.0 = ap length c.in-Ok.ensures.clauses ∙ count in
    let few = c.in-Ok.ensures.few in
    inr (h.0, h.1, line_full names c.args.rules h.0 below (omega (arith, n, few)) (omega (arith, n, c.len-count.ensures, c.if-count-rules.true, c.in-Ok.clauses.ok.0)))

pub returns-clause-line : goal.returns-clause-line
returns-clause-line c =
    let names = c.args.names.now in
    let h = subst (IsReadRule names c.args.text.now) c.in-Some.is c.in_ok-rule.ensures in
    let below : IsBelow (length names) (renamed (index_or_end names) h.0) =
    subst (IsBelow (length names)) h.2 (subst (λ (k : ℕ). IsBelow k (constraint_of c.in-Some.rule)) c.len.ensures.len (c.is_below.ensures.0 c.if-not-is_below.false)) in
    let count = count_at names h.0 (constraint_of c.in-Some.rule) h.2 in
    let n : length c.in-Ok.clauses.items ≡ clause_count h.0 = ap length c.in-Ok.ensures.clauses ∙ count in
    let few = c.in-Ok.ensures.few in
    record {
      named = h.0;
      named_is = h.1;
      line_is = line_read names c.args.rules h.0 below (omega (arith, n, few)) (omega (arith, n, c.len-count.ensures, c.if-count-rules.false, c.in-Ok.clauses.ok.0))
          ∙ ap (λ (x : Constraint ℕ). Ok (Formula x)) (sym h.2);
      count_is = omega (arith, n, c.len-count.ensures, c.in-Ok.clauses.ok.0);
    }
