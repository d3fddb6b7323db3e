use Rattle.std.proofs.Common.{ℕ, [], true, false, sym, subst, arith}
use Rattle.std.specs.Prelude.{IfOk}
use Rattle.vpg_rules.specs.Constraint.{Constraint, Parts}
use Rattle.vpg_rules.specs.Clauses.{clauses_when, each_when, some_when, no_way}
use Rattle.vpg_rules.specs.Distributing.{AreLimited}
use Rattle.vpg_rules.proofs.Views.{parts_before, parts_end, seen_never, seen_implies, seen_iff}
use Rattle.vpg_rules.proofs.rule.+normal.Goals as goal

pub Rule::normal_forms-returns-in_ok-always-in-Never : goal.Rule::normal_forms-returns-in_ok-always-in-Never
Rule::normal_forms-returns-in_ok-always-in-Never t c =
    let seen = seen_never c.args.self.now c.in-Never.is in
    subst (λ (d : Constraint ℕ). AreLimited c.inverted.result (clauses_when true d) (clauses_when false d)) (sym seen) (c.inverted.ensures [] no_way c.in_ok-always-in-Never.ensures)

pub Rule::normal_forms-returns-in_ok-right-in-Implies : goal.Rule::normal_forms-returns-in_ok-right-in-Implies
Rule::normal_forms-returns-in_ok-right-in-Implies t c =
    let seen = seen_implies c.args.self.now c.in-Implies.left c.in-Implies.right c.deref-in-Implies.result.now c.deref-in-Implies-2.result.now c.in-Implies.is c.deref-in-Implies.ensures c.deref-in-Implies-2.ensures in
    subst (λ (d : Constraint ℕ). IfOk c.or.result (λ forms. AreLimited forms (clauses_when true d) (clauses_when false d))) (sym seen)
    (c.or.ensures _ _ _ _ (c.inverted-in-Implies.ensures _ _ c.in_ok-left-in-Implies.ensures) c.in_ok-right-in-Implies.ensures)

pub Rule::normal_forms-returns-in_ok-right-in-Iff : goal.Rule::normal_forms-returns-in_ok-right-in-Iff
Rule::normal_forms-returns-in_ok-right-in-Iff t c =
    let seen = seen_iff c.args.self.now c.in-Iff.left c.in-Iff.right c.deref-in-Iff.result.now c.deref-in-Iff-2.result.now c.in-Iff.is c.deref-in-Iff.ensures c.deref-in-Iff-2.ensures in
    subst (λ (d : Constraint ℕ). IfOk c.equal.result (λ forms. AreLimited forms (clauses_when true d) (clauses_when false d))) (sym seen)
    (c.equal.ensures _ _ _ _ c.in_ok-left-in-Iff.ensures c.in_ok-right-in-Iff.ensures)

pub Rules::all_forms-loop-place-preserved : goal.Rules::all_forms-loop-place-preserved
Rules::all_forms-loop-place-preserved t c =
    let items = c.args.self.now.items.items in
    let place = c.loop-place.place in
    let here = parts_before items place c.index.result.now (omega arith) (omega (arith, c.len-place.ensures, c.args.self.now.items.ok.0)) c.index.ensures in
    subst (λ (cs : Parts ℕ). AreLimited c.in_ok-whole-2.whole (each_when true cs) (some_when false cs)) (sym here) (c.in_ok-whole-2.ensures _ _ _ _ c.in_ok-normal_forms.ensures c.loop-place.invariant)

pub Rules::any_forms-loop-place-init : goal.Rules::any_forms-loop-place-init
Rules::any_forms-loop-place-init t c =
    let items = c.args.self.now.items.items in
    let nothing = parts_end items c.len-place.result (omega (arith, c.len-place.ensures, c.args.self.now.items.ok.0)) in
    subst (λ (cs : Parts ℕ). AreLimited c.inverted-whole.result (some_when true cs) (each_when false cs)) (sym nothing) (c.inverted-whole.ensures [] no_way c.in_ok-always.ensures)

pub Rules::any_forms-loop-place-preserved : goal.Rules::any_forms-loop-place-preserved
Rules::any_forms-loop-place-preserved t c =
    let items = c.args.self.now.items.items in
    let place = c.loop-place.place in
    let here = parts_before items place c.index.result.now (omega arith) (omega (arith, c.len-place.ensures, c.args.self.now.items.ok.0)) c.index.ensures in
    subst (λ (cs : Parts ℕ). AreLimited c.in_ok-whole.whole (some_when true cs) (each_when false cs)) (sym here) (c.in_ok-whole.ensures _ _ _ _ c.in_ok-normal_forms.ensures c.loop-place.invariant)
