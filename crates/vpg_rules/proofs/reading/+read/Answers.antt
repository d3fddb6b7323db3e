use Rattle.std.proofs.Common.{ℕ, ◌-◌, ◌<◌, List, suc, length, Some, sym, ap, ap₂, ◌∙◌, ◌∷◌, ◌++◌, [], arith}
use Rattle.std.specs.Prelude.{codes}
use Rattle.std.proofs.lemmas.Result.{err_from_is_err_and}
use Rattle.vpg_guards.specs.Reading.{◌>>=◌}
use Rattle.vpg_rules.specs.Constraint.{Constraint, Parts, all, any, negation, implication, equivalence}
use Rattle.vpg_rules.specs.View.{constraint_of, constraints_of}
use Rattle.vpg_rules.specs.declared.rule.Rule.{Rule}
use Rattle.vpg_rules.specs.Grammar.{index_or_end}
use Rattle.vpg_rules.specs.Reading.{Read, after_mark, factor_at, conjunction_with, disjunction_with, implication_at, rule_at, close, made, more, inverted_with, enclosed_with, word_at}
use Rattle.vpg_rules.proofs.Series.{more_goes, more_stops}
use Rattle.vpg_rules.proofs.Steps.{fails_too, series_fails, series_starts, more_fails, factor_inverted, factor_enclosed, too_deep_inverted, too_deep_enclosed, factor_word, implication_fails, implication_stops, implication_goes, too_deep_implication, rule_fails, rule_stops, rule_goes, too_deep_rule}
use Rattle.vpg_rules.proofs.Views.{one_more, constraint_of-not, constraint_of-implies, constraint_of-iff}
use Rattle.vpg_rules.proofs.reading.+read.Goals as goal

pub conjunction-returns-in_err-first-clause-gives : goal.conjunction-returns-in_err-first-clause-gives
conjunction-returns-in_err-first-clause-gives t c =
    let p = err_from_is_err_and c.from_residual.result c.from_residual.ensures.1 in
    let read = factor_at (index_or_end c.args.names.now) (suc c.args.depth) in
    rw (p.1, p.2) (fails_too c.in_err-first.field-0.0 (read c.args.text.now) (conjunction_with (factor_at (index_or_end c.args.names.now) (suc c.args.depth)) c.args.text.now) (series_fails read (codes "&") all c.args.text.now) c.in_err-first.ensures.gives)

pub conjunction-loop-behind-init : goal.conjunction-loop-behind-init
conjunction-loop-behind-init t c =
    let read = factor_at (index_or_end c.args.names.now) (suc c.args.depth) in
    let rest = c.in_ok-first.rest.now in
    let items = c.in-Ok.ensures.items ∙ ap (λ (rules : List Rule). rules ++ c.in_ok-first.first ∷ []) c.new-parts.ensures.items in (
      length rest,
      omega arith,
      c.in_ok-first.ensures.shorter,
      series_starts read (codes "&") all c.args.text.now _ c.in_ok-first.ensures.gives
          ∙ ap (λ (rules : List Rule). made all (more read (codes "&") (length rest) (constraints_of rules) rest)) (sym items),
    )

pub conjunction-returns-in_err-next-clause-gives : goal.conjunction-returns-in_err-next-clause-gives
conjunction-returns-in_err-next-clause-gives t c =
    let p = err_from_is_err_and c.from_residual-in_err-next.result c.from_residual-in_err-next.ensures.1 in
    let read = factor_at (index_or_end c.args.names.now) (suc c.args.depth) in
    let l = c.loop-behind in
    let n = l.invariant.0 in
    let cs = constraints_of l.parts.items in
    let positive : 0 < n = omega (arith, l.invariant.1, c.in-Some.ensures.shorter) in
    rw (p.1, p.2, l.invariant.3) (fails_too c.in_err-next.field-0.0 (read c.in-Some.behind.now) (made all (more read (codes "&") n cs l.rest.now))
    (λ e. ap (made all) (more_fails read (codes "&") n cs l.rest.now c.in-Some.behind.now positive (sym c.in-Some.ensures.rest) e)) c.in_err-next.ensures.gives)

pub conjunction-loop-behind-preserved : goal.conjunction-loop-behind-preserved
conjunction-loop-behind-preserved t c =
    let read = factor_at (index_or_end c.args.names.now) (suc c.args.depth) in
    let l = c.loop-behind in
    let n = l.invariant.0 in
    let shorter = c.in-Some.ensures.shorter in
    let no_longer = c.in_ok-next.ensures.shorter in
    let left = c.in_ok-next.left.now in
    let items = ap constraints_of c.in-Ok-push.ensures.items ∙ one_more l.parts.items c.in_ok-next.next in
    let turn = more_goes read (codes "&") n (constraints_of l.parts.items) l.rest.now c.in-Some.behind.now _ (omega (arith, l.invariant.1)) (sym c.in-Some.ensures.rest) c.in_ok-next.ensures.gives in (
      n - 1,
      omega (arith, l.invariant.1),
      omega (arith, l.invariant.2),
      l.invariant.3 ∙ ap (made all) (turn ∙ ap (λ (cs : Parts ℕ). more read (codes "&") (n - 1) cs left) (sym items)),
    )

pub conjunction-returns-clause-gives : goal.conjunction-returns-clause-gives
conjunction-returns-clause-gives t c =
    let l = c.loop-behind in
    l.invariant.3 ∙ ap (made all) (more_stops (factor_at (index_or_end c.args.names.now) (suc c.args.depth)) (codes "&") l.invariant.0 (constraints_of l.parts.items) l.rest.now (sym c.in_default-after_mark.ensures.rest))
    ∙ ap (λ (d : Constraint ℕ). Some (d, l.rest.now)) (sym c.all_of.ensures)

pub disjunction-returns-in_err-first-clause-gives : goal.disjunction-returns-in_err-first-clause-gives
disjunction-returns-in_err-first-clause-gives t c =
    let p = err_from_is_err_and c.from_residual.result c.from_residual.ensures.1 in
    let read = conjunction_with (factor_at (index_or_end c.args.names.now) (suc c.args.depth)) in
    rw (p.1, p.2) (fails_too c.in_err-first.field-0.0 (read c.args.text.now) (disjunction_with (factor_at (index_or_end c.args.names.now) (suc c.args.depth)) c.args.text.now) (series_fails read (codes "|") any c.args.text.now) c.in_err-first.ensures.gives)

pub disjunction-loop-behind-init : goal.disjunction-loop-behind-init
disjunction-loop-behind-init t c =
    let read = conjunction_with (factor_at (index_or_end c.args.names.now) (suc c.args.depth)) in
    let rest = c.in_ok-first.rest.now in
    let items = c.in-Ok.ensures.items ∙ ap (λ (rules : List Rule). rules ++ c.in_ok-first.first ∷ []) c.new-parts.ensures.items in (
      length rest,
      omega arith,
      c.in_ok-first.ensures.shorter,
      series_starts read (codes "|") any c.args.text.now _ c.in_ok-first.ensures.gives
          ∙ ap (λ (rules : List Rule). made any (more read (codes "|") (length rest) (constraints_of rules) rest)) (sym items),
    )

pub disjunction-returns-in_err-next-clause-gives : goal.disjunction-returns-in_err-next-clause-gives
disjunction-returns-in_err-next-clause-gives t c =
    let p = err_from_is_err_and c.from_residual-in_err-next.result c.from_residual-in_err-next.ensures.1 in
    let read = conjunction_with (factor_at (index_or_end c.args.names.now) (suc c.args.depth)) in
    let l = c.loop-behind in
    let n = l.invariant.0 in
    let cs = constraints_of l.parts.items in
    let positive : 0 < n = omega (arith, l.invariant.1, c.in-Some.ensures.shorter) in
    rw (p.1, p.2, l.invariant.3) (fails_too c.in_err-next.field-0.0 (read c.in-Some.behind.now) (made any (more read (codes "|") n cs l.rest.now))
    (λ e. ap (made any) (more_fails read (codes "|") n cs l.rest.now c.in-Some.behind.now positive (sym c.in-Some.ensures.rest) e)) c.in_err-next.ensures.gives)

pub disjunction-loop-behind-preserved : goal.disjunction-loop-behind-preserved
disjunction-loop-behind-preserved t c =
    let read = conjunction_with (factor_at (index_or_end c.args.names.now) (suc c.args.depth)) in
    let l = c.loop-behind in
    let n = l.invariant.0 in
    let shorter = c.in-Some.ensures.shorter in
    let no_longer = c.in_ok-next.ensures.shorter in
    let left = c.in_ok-next.left.now in
    let items = ap constraints_of c.in-Ok-push.ensures.items ∙ one_more l.parts.items c.in_ok-next.next in
    let turn = more_goes read (codes "|") n (constraints_of l.parts.items) l.rest.now c.in-Some.behind.now _ (omega (arith, l.invariant.1)) (sym c.in-Some.ensures.rest) c.in_ok-next.ensures.gives in (
      n - 1,
      omega (arith, l.invariant.1),
      omega (arith, l.invariant.2),
      l.invariant.3 ∙ ap (made any) (turn ∙ ap (λ (cs : Parts ℕ). more read (codes "|") (n - 1) cs left) (sym items)),
    )

pub disjunction-returns-clause-gives : goal.disjunction-returns-clause-gives
disjunction-returns-clause-gives t c =
    let l = c.loop-behind in
    l.invariant.3 ∙ ap (made any) (more_stops (conjunction_with (factor_at (index_or_end c.args.names.now) (suc c.args.depth))) (codes "|") l.invariant.0 (constraints_of l.parts.items) l.rest.now (sym c.in_default-after_mark.ensures.rest))
    ∙ ap (λ (d : Constraint ℕ). Some (d, l.rest.now)) (sym c.any_of.ensures)

pub factor-returns-then-depth-eq0-clause-gives : goal.factor-returns-then-depth-eq0-clause-gives
factor-returns-then-depth-eq0-clause-gives t c = too_deep_inverted (index_or_end c.args.names.now) c.args.depth c.args.text.now c.in-Some.rest.now (omega arith) (sym c.in-Some.ensures.rest)

pub factor-returns-in_err-inner-clause-gives : goal.factor-returns-in_err-inner-clause-gives
factor-returns-in_err-inner-clause-gives t c =
    let p = err_from_is_err_and c.from_residual.result c.from_residual.ensures.1 in
    let read = factor_at (index_or_end c.args.names.now) (suc (c.args.depth - 1)) in
    let is = factor_inverted (index_or_end c.args.names.now) c.args.depth c.args.text.now c.in-Some.rest.now (omega arith) (sym c.in-Some.ensures.rest) in
    rw (p.1, p.2, is) (fails_too c.in_err-inner.field-0.0 (read c.in-Some.rest.now) (inverted_with read c.in-Some.rest.now) (λ e. ap (λ (r : Read ℕ). r >>= λ y. Some (negation y.0, y.1)) e) c.in_err-inner.ensures.gives)

pub factor-returns-in-Some-clause-gives : goal.factor-returns-in-Some-clause-gives
factor-returns-in-Some-clause-gives t c =
    let is = factor_inverted (index_or_end c.args.names.now) c.args.depth c.args.text.now c.in-Some.rest.now (omega arith) (sym c.in-Some.ensures.rest) in
    let seen = constraint_of-not c.in-Ok.inner in
    is ∙ ap (λ (r : Read ℕ). r >>= λ y. Some (negation y.0, y.1)) c.in_ok-inner.ensures.gives
    ∙ ap (λ (d : Constraint ℕ). Some (d, c.in_ok-inner.rest.now)) (sym (seen ∙ ap (λ (r : Rule). negation (constraint_of r)) c.in-Ok.ensures.ok))

pub factor-returns-then-depth-eq0-2-clause-gives : goal.factor-returns-then-depth-eq0-2-clause-gives
factor-returns-then-depth-eq0-2-clause-gives t c =
    too_deep_enclosed (index_or_end c.args.names.now) c.args.depth c.args.text.now c.in-Some-after_mark.rest.now (omega arith) (sym c.in_default.ensures.rest) (sym c.in-Some-after_mark.ensures.rest)

pub factor-returns-in_err-inner-2-clause-gives : goal.factor-returns-in_err-inner-2-clause-gives
factor-returns-in_err-inner-2-clause-gives t c =
    let p = err_from_is_err_and c.from_residual-in_err-inner-2.result c.from_residual-in_err-inner-2.ensures.1 in
    let read = rule_at (index_or_end c.args.names.now) (suc (c.args.depth - 1)) in
    let rest = c.in-Some-after_mark.rest.now in
    let is = factor_enclosed (index_or_end c.args.names.now) c.args.depth c.args.text.now rest (omega arith) (sym c.in_default.ensures.rest) (sym c.in-Some-after_mark.ensures.rest) in
    rw (p.1, p.2, is) (fails_too c.in_err-inner-2.field-0.0 (read rest) (enclosed_with read rest) (λ e. ap (λ (r : Read ℕ). r >>= λ y. close y.0 (after_mark (codes ")") y.1)) e) c.in_err-inner-2.ensures.gives)

pub factor-returns-in-Some-after_mark-2-clause-gives : goal.factor-returns-in-Some-after_mark-2-clause-gives
factor-returns-in-Some-after_mark-2-clause-gives t c =
    let rest = c.in-Some-after_mark.rest.now in
    let is = factor_enclosed (index_or_end c.args.names.now) c.args.depth c.args.text.now rest (omega arith) (sym c.in_default.ensures.rest) (sym c.in-Some-after_mark.ensures.rest) in
    is ∙ ap (λ (r : Read ℕ). r >>= λ y. close y.0 (after_mark (codes ")") y.1)) c.in_ok-inner-2.ensures.gives
    ∙ ap (close (constraint_of c.in_ok-inner-2.inner)) (sym c.in-Some-after_mark-2.ensures.rest)

pub factor-returns-in-None-clause-gives : goal.factor-returns-in-None-clause-gives
factor-returns-in-None-clause-gives t c =
    let rest = c.in-Some-after_mark.rest.now in
    let is = factor_enclosed (index_or_end c.args.names.now) c.args.depth c.args.text.now rest (omega arith) (sym c.in_default.ensures.rest) (sym c.in-Some-after_mark.ensures.rest) in
    is ∙ ap (λ (r : Read ℕ). r >>= λ y. close y.0 (after_mark (codes ")") y.1)) c.in_ok-inner-2.ensures.gives
    ∙ ap (close (constraint_of c.in_ok-inner-2.inner)) (sym c.in-None.ensures.rest)

pub factor-returns-clause-gives : goal.factor-returns-clause-gives
factor-returns-clause-gives t c =
    let names = (index_or_end c.args.names.now) in
    let is = factor_word names c.args.depth c.args.text.now (sym c.in_default.ensures.rest) (sym c.in_default-after_mark.ensures.rest) in
    let here = is ∙ ap (word_at names) (sym c.after_blanks-word_text.ensures.rest) in
    rw here c.word.ensures.gives

pub implication-returns-in_err-left-clause-gives : goal.implication-returns-in_err-left-clause-gives
implication-returns-in_err-left-clause-gives t c =
    let p = err_from_is_err_and c.from_residual.result c.from_residual.ensures.1 in
    rw (p.1, p.2) (fails_too c.in_err-left.field-0.0 (disjunction_with (factor_at (index_or_end c.args.names.now) (suc c.args.depth)) c.args.text.now) (implication_at (index_or_end c.args.names.now) (suc c.args.depth) c.args.text.now)
    (implication_fails (index_or_end c.args.names.now) c.args.depth c.args.text.now) c.in_err-left.ensures.gives)

pub implication-returns-in_default-clause-gives : goal.implication-returns-in_default-clause-gives
implication-returns-in_default-clause-gives t c =
    implication_stops (index_or_end c.args.names.now) c.args.depth c.args.text.now _ c.in_ok-left.ensures.gives (sym c.in_default.ensures.rest)

pub implication-returns-then-depth-eq0-clause-gives : goal.implication-returns-then-depth-eq0-clause-gives
implication-returns-then-depth-eq0-clause-gives t c =
    too_deep_implication (index_or_end c.args.names.now) c.args.depth c.args.text.now _ c.in-Some.behind.now (omega arith) c.in_ok-left.ensures.gives (sym c.in-Some.ensures.rest)

pub implication-returns-in_err-right-clause-gives : goal.implication-returns-in_err-right-clause-gives
implication-returns-in_err-right-clause-gives t c =
    let p = err_from_is_err_and c.from_residual-in_err-right.result c.from_residual-in_err-right.ensures.1 in
    let is = implication_goes (index_or_end c.args.names.now) c.args.depth c.args.text.now _ c.in-Some.behind.now (omega arith) c.in_ok-left.ensures.gives (sym c.in-Some.ensures.rest) in
    rw (p.1, p.2, is) (fails_too c.in_err-right.field-0.0 (implication_at (index_or_end c.args.names.now) (suc (c.args.depth - 1)) c.in-Some.behind.now) _
    (λ e. ap (λ (r : Read ℕ). r >>= λ y. Some (implication (constraint_of c.in_ok-left.left) y.0, y.1)) e) c.in_err-right.ensures.gives)

pub implication-returns-clause-gives : goal.implication-returns-clause-gives
implication-returns-clause-gives t c =
    let is = implication_goes (index_or_end c.args.names.now) c.args.depth c.args.text.now _ c.in-Some.behind.now (omega arith) c.in_ok-left.ensures.gives (sym c.in-Some.ensures.rest) in
    is ∙ ap (λ (r : Read ℕ). r >>= λ y. Some (implication (constraint_of c.in_ok-left.left) y.0, y.1)) c.in_ok-right.ensures.gives
    ∙ ap (λ (d : Constraint ℕ). Some (d, c.in_ok-right.rest.now))
    (sym (constraint_of-implies c.in-Ok.left c.in-Ok-new.right ∙ ap₂ (λ (a b : Rule). implication (constraint_of a) (constraint_of b)) c.in-Ok.ensures.ok c.in-Ok-new.ensures.ok))

pub rule-returns-in_err-left-clause-gives : goal.rule-returns-in_err-left-clause-gives
rule-returns-in_err-left-clause-gives t c =
    let p = err_from_is_err_and c.from_residual.result c.from_residual.ensures.1 in
    rw (p.1, p.2) (fails_too c.in_err-left.field-0.0 (implication_at (index_or_end c.args.names.now) (suc c.args.depth) c.args.text.now) (rule_at (index_or_end c.args.names.now) (suc c.args.depth) c.args.text.now)
    (rule_fails (index_or_end c.args.names.now) c.args.depth c.args.text.now) c.in_err-left.ensures.gives)

pub rule-returns-in_default-clause-gives : goal.rule-returns-in_default-clause-gives
rule-returns-in_default-clause-gives t c =
    rule_stops (index_or_end c.args.names.now) c.args.depth c.args.text.now _ c.in_ok-left.ensures.gives (sym c.in_default.ensures.rest)

pub rule-returns-then-depth-eq0-clause-gives : goal.rule-returns-then-depth-eq0-clause-gives
rule-returns-then-depth-eq0-clause-gives t c =
    too_deep_rule (index_or_end c.args.names.now) c.args.depth c.args.text.now _ c.in-Some.behind.now (omega arith) c.in_ok-left.ensures.gives (sym c.in-Some.ensures.rest)

pub rule-returns-in_err-right-clause-gives : goal.rule-returns-in_err-right-clause-gives
rule-returns-in_err-right-clause-gives t c =
    let p = err_from_is_err_and c.from_residual-in_err-right.result c.from_residual-in_err-right.ensures.1 in
    let is = rule_goes (index_or_end c.args.names.now) c.args.depth c.args.text.now _ c.in-Some.behind.now (omega arith) c.in_ok-left.ensures.gives (sym c.in-Some.ensures.rest) in
    rw (p.1, p.2, is) (fails_too c.in_err-right.field-0.0 (rule_at (index_or_end c.args.names.now) (suc (c.args.depth - 1)) c.in-Some.behind.now) _
    (λ e. ap (λ (r : Read ℕ). r >>= λ y. Some (equivalence (constraint_of c.in_ok-left.left) y.0, y.1)) e) c.in_err-right.ensures.gives)

pub rule-returns-clause-gives : goal.rule-returns-clause-gives
rule-returns-clause-gives t c =
    let is = rule_goes (index_or_end c.args.names.now) c.args.depth c.args.text.now _ c.in-Some.behind.now (omega arith) c.in_ok-left.ensures.gives (sym c.in-Some.ensures.rest) in
    is ∙ ap (λ (r : Read ℕ). r >>= λ y. Some (equivalence (constraint_of c.in_ok-left.left) y.0, y.1)) c.in_ok-right.ensures.gives
    ∙ ap (λ (d : Constraint ℕ). Some (d, c.in_ok-right.rest.now))
    (sym (constraint_of-iff c.in-Ok.left c.in-Ok-new.right ∙ ap₂ (λ (a b : Rule). equivalence (constraint_of a) (constraint_of b)) c.in-Ok.ensures.ok c.in-Ok-new.ensures.ok))
