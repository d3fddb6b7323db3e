use Rattle.std.proofs.Common.{List, sym, subst}
use Rattle.vpg_written.proofs.Cutting.{parts_are, second_operand}
use Rattle.vpg_written.proofs.Tasks.{one_negation, other_negation, empty_negation}
use Rattle.vpg_written.specs.Openings.{IsNegation}
use Rattle.vpg_written.specs.declared.piece.Piece.{Piece}
use Rattle.vpg_written.proofs.opening.negation.Goals as goal

pub returns-in-Not-clause-some : goal.returns-in-Not-clause-some
returns-in-Not-clause-some c = λ g t h. subst (λ (ps : List Piece). IsNegation g t ps) (sym (second_operand c.args.term.now c.in-Some.it c.in-Some.ensures.some))
    (one_negation g t c.in-Some.it (parts_are g.names g.actions t c.args.term.now c.in-Some.it c.in-Some.ensures.some h) c.in-Not.is)

pub returns-in_default-clause-none : goal.returns-in_default-clause-none
returns-in_default-clause-none c = λ g t h. other_negation g t c.in-Some.it (parts_are g.names g.actions t c.args.term.now c.in-Some.it c.in-Some.ensures.some h) c.in_default.not-Not

pub returns-in-None-clause-none : goal.returns-in-None-clause-none
returns-in-None-clause-none c = λ g t h. empty_negation g t c.args.term.now h c.in-None.ensures.none
