use Rattle.std.proofs.Common.{sym, ◌∙◌}
use Rattle.vpg_written.specs.Parsing.{below_top}
use Rattle.vpg_written.proofs.Parsing.{nothing_taken, two_operands}
use Rattle.vpg_written.proofs.terms.operands.Goals as goal

pub returns-then-count-eq0-clause-operands : goal.returns-then-count-eq0-clause-operands
returns-then-count-eq0-clause-operands c = λ names actions ts h. nothing_taken names actions _ ts c.args.pieces.now _ _ (sym c.operand_count-count.ensures ∙ c.if-count-eq0.true) c.split_at.ensures.front c.split_at.ensures.front h

pub returns-clause-operands : goal.returns-clause-operands
returns-clause-operands c = λ names actions ts h. let last = c.last_term.ensures.last names actions ts h in
    two_operands names actions _ ts c.args.pieces.now _ _ _ _ last (c.last_term-2.ensures.last names actions (below_top ts) last.below) (λ e. c.if-count-eq0.false (c.operand_count-count.ensures ∙ e)) (λ e. c.if-count-eq1.false (c.operand_count-count.ensures ∙ e))
