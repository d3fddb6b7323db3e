use Rattle.std.proofs.Common.{◌≡◌, ℕ, suc, ◌+◌, ◌*◌, ◌≤◌, length}
use Rattle.std.specs.Prelude.{codes}
use Rattle.vpg_rules.specs.Constraint.{all, any}
use Rattle.vpg_rules.specs.View.{constraints_of}
use Rattle.vpg_rules.specs.Grammar.{index_or_end}
use Rattle.vpg_rules.specs.Reading.{factor_at, conjunction_with, disjunction_with, more, made}
use Rattle.vpg_rules.proofs.reading.+read.Given as goal

abbrev pub decreases-factor : goal.decreases-factor
decreases-factor l = 5 * l.depth

abbrev pub decreases-conjunction : goal.decreases-conjunction
decreases-conjunction l = 5 * l.depth + 1

abbrev pub decreases-disjunction : goal.decreases-disjunction
decreases-disjunction l = 5 * l.depth + 2

abbrev pub decreases-implication : goal.decreases-implication
decreases-implication l = 5 * l.depth + 3

abbrev pub decreases-rule : goal.decreases-rule
decreases-rule l = 5 * l.depth + 4

-- what the conjunction reads is what is read from here on
abbrev pub invariant-conjunction-loop-behind : goal.invariant-conjunction-loop-behind
invariant-conjunction-loop-behind l =
    let read = factor_at (index_or_end l.names) (suc l.depth) in
    (n : ℕ) × (length l.rest ≤ n) × (length l.rest ≤ length l.text) × (conjunction_with read l.text ≡ made all (more read (codes "&") n (constraints_of l.parts.items) l.rest))

abbrev pub decreases-conjunction-loop-behind : goal.decreases-conjunction-loop-behind
decreases-conjunction-loop-behind l = length l.rest

abbrev pub invariant-disjunction-loop-behind : goal.invariant-disjunction-loop-behind
invariant-disjunction-loop-behind l =
    let read = conjunction_with (factor_at (index_or_end l.names) (suc l.depth)) in
    (n : ℕ) × (length l.rest ≤ n) × (length l.rest ≤ length l.text) × (disjunction_with (factor_at (index_or_end l.names) (suc l.depth)) l.text ≡ made any (more read (codes "|") n (constraints_of l.parts.items) l.rest))

abbrev pub decreases-disjunction-loop-behind : goal.decreases-disjunction-loop-behind
decreases-disjunction-loop-behind l = length l.rest
