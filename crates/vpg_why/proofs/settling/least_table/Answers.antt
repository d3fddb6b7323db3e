use Rattle.std.proofs.Common.{◌∙◌, ℕ, List, replicate, sym, ap, subst}
use Rattle.vpg_measure.specs.Lifts.{IsBelowTable}
use Rattle.vpg_measure.proofs.Below.{zeros_are_below}
use Rattle.vpg_why.proofs.settling.least_table.Goals as goal

pub returns-then-settled-clause-least : goal.returns-then-settled-clause-least
returns-then-settled-clause-least c = record {
  is_table = c.raise.ensures.table;
  settled = c.in_ok-settled.ensures.settled.0 c.if-settled.true;
  below = λ other t p. c.raise.ensures.below other t p
      (subst (λ (zeros : List ℕ). IsBelowTable zeros other) (sym (c.in_ok-table.ensures.zero ∙ ap (λ n. replicate n 0) c.vertices.ensures))
      ((zeros_are_below c.args.shape.now c.args.arena.now).1 other t p));
}
