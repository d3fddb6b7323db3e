use Rattle.std.proofs.Common.{sym, ◌∙◌}
use Rattle.std.proofs.lemmas.Bool.{false≢true}
use Rattle.vpg_diagram.proofs.product.meets_all.Goals as goal

pub returns-then-meets_clauses : goal.returns-then-meets_clauses
returns-then-meets_clauses c = (
  λ t. record { each_clause = c.meets_clauses.ensures.0 c.if-meets_clauses.true; each_count = c.meets_counts.ensures.0 t },
  λ meets. c.meets_counts.ensures.1 meets.each_count,
)

pub returns-else-meets_clauses : goal.returns-else-meets_clauses
returns-else-meets_clauses c = (
  λ t. absurd (false≢true (sym c.if-meets_clauses.false ∙ t)),
  λ meets. c.meets_clauses.ensures.1 meets.each_clause,
)
