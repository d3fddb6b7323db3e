use Rattle.std.proofs.Common.{◌-◌, List, length, take, drop, refl, sym, subst, ◌∙◌, ap, arith}
use Rattle.vpg_written.proofs.Cutting.{inner_part, whole_part}
use Rattle.vpg_written.proofs.Tasks.{along_already, along_further, along_last}
use Rattle.vpg_written.specs.Tasks.{IsTree}
use Rattle.vpg_written.specs.Openings.{IsAlong, IsSeries}
use Rattle.vpg_written.specs.Trees.{along}
use Rattle.vpg_written.specs.declared.piece.Piece.{Piece}
use Rattle.vpg_written.proofs.opening.along.Goals as goal

pub loop-step-init : goal.loop-step-init
loop-step-init c = record {
  start = omega arith;
  end = omega arith;
  goes = λ g t f h task. subst (λ (ps : List Piece). IsAlong g c.args.is_every ps c.args.task (along g.names c.args.is_every t f)) (sym (whole_part (length c.args.regular.now) c.args.regular.now refl)) (along_already g c.args.is_every t c.args.regular.now c.args.task f h task);
}

pub loop-step-preserved : goal.loop-step-preserved
loop-step-preserved c =
    let i = c.loop-step.invariant in
    let s = c.in-Some.ensures in
    let from = c.loop-step.from in
    let to = c.loop-step.to in record {
      start = omega (arith, s.start);
      end = omega (arith, s.end, c.part.ensures.len, i.start, i.end);
      goes = λ g t f h task. along_further g c.args.is_every (take (to - from) (drop from c.args.regular.now)) _ c.loop-step.rest _ c.in-Some.step _ (i.goes g t f h task)
          (λ u k a. subst (λ (ps : List Piece). IsSeries g c.args.is_every u c.in-Some.step ps k)
          (ap (λ (xs : List Piece). take (c.in-Some.end - c.in-Some.start) (drop c.in-Some.start xs)) c.part.ensures.is ∙ inner_part from to c.in-Some.start c.in-Some.end _ _ c.args.regular.now s.start (omega (arith, s.end, c.part.ensures.len)) refl refl)
          (s.some g u k (subst (IsTree g u) (sym c.part.ensures.is) a))) (λ k m a b. c.in_ok-rest.ensures g k m a b);
    }

pub returns : goal.returns
returns c = λ g t f h task. along_last g c.args.is_every (take (c.loop-step.to - c.loop-step.from) (drop c.loop-step.from c.args.regular.now)) c.loop-step.rest c.in_ok-along_one.field-0 _ (c.loop-step.invariant.goes g t f h task)
    (λ u m a is. c.in_ok-along_one.ensures g u m (subst (IsTree g u) (sym c.part-2.ensures.is) a) (c.in_default.ensures.none g u (subst (IsTree g u) (sym c.part.ensures.is) a)) is)
