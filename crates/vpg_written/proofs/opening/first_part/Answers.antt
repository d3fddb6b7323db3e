use Rattle.std.proofs.Common.{List, sym, subst}
use Rattle.vpg_written.proofs.Cutting.{parts_are, first_operand, second_operand}
use Rattle.vpg_written.proofs.Tasks.{sequence_first, repeated_first, other_series, empty_series}
use Rattle.vpg_written.specs.Openings.{IsSeries}
use Rattle.vpg_written.specs.declared.piece.Piece.{Piece}
use Rattle.vpg_written.proofs.opening.first_part.Goals as goal

pub returns-in-Sequence-clause-some : goal.returns-in-Sequence-clause-some
returns-in-Sequence-clause-some c = λ g t f h. subst (λ (ps : List Piece). IsSeries g c.args.is_every t c.once.result ps f) (sym (first_operand c.args.term.now c.in-Some.it c.in-Some.ensures.some))
    (sequence_first g c.args.is_every t c.in-Some.it c.once.result f (parts_are g.names g.actions t c.args.term.now c.in-Some.it c.in-Some.ensures.some h) c.in-Sequence.is (λ u a. c.once.ensures g u f a))

pub returns-in-RepeatedOnce-clause-some : goal.returns-in-RepeatedOnce-clause-some
returns-in-RepeatedOnce-clause-some c = λ g t f h. subst (λ (ps : List Piece). IsSeries g c.args.is_every t c.many.result ps f) (sym (second_operand c.args.term.now c.in-Some.it c.in-Some.ensures.some))
    (repeated_first g c.args.is_every t c.in-Some.it c.many.result f (parts_are g.names g.actions t c.args.term.now c.in-Some.it c.in-Some.ensures.some h) c.in-RepeatedOnce.is (λ u a. c.many.ensures g u f a))

pub returns-in_default-clause-none : goal.returns-in_default-clause-none
returns-in_default-clause-none c = λ g t h. other_series g t c.in-Some.it (parts_are g.names g.actions t c.args.term.now c.in-Some.it c.in-Some.ensures.some h) c.in_default.not-Sequence c.in_default.not-RepeatedOnce

pub returns-in-None-clause-none : goal.returns-in-None-clause-none
returns-in-None-clause-none c = λ g t h. empty_series g t c.args.term.now h c.in-None.ensures.none
