use Rattle.std.proofs.Common.{◌-◌, List, length, take, drop, refl, sym, subst, ◌∙◌, ap, arith}
use Rattle.vpg_written.proofs.Cutting.{inner_part, whole_part}
use Rattle.vpg_written.proofs.Tasks.{one_less, same_already}
use Rattle.vpg_written.specs.Tasks.{IsTree}
use Rattle.vpg_written.specs.Openings.{IsSame, IsNegation}
use Rattle.vpg_written.specs.declared.piece.Piece.{Piece}
use Rattle.vpg_written.proofs.opening.without_negations.Goals as goal

pub loop-start-init : goal.loop-start-init
loop-start-init c = record {
  start = omega arith;
  end = omega arith;
  goes = λ g t h. subst (λ (ps : List Piece). IsSame g t c.args.is_negated ps c.args.is_negated) (sym (whole_part (length c.args.formula.now) c.args.formula.now refl)) (same_already g t c.args.is_negated c.args.formula.now h);
}

pub loop-start-preserved : goal.loop-start-preserved
loop-start-preserved c =
    let i = c.loop-start.invariant in
    let s = c.in-Some.ensures in
    let from = c.loop-start.from in
    let to = c.loop-start.to in record {
      start = omega (arith, s.start);
      end = omega (arith, s.end, c.part.ensures.len, i.start, i.end);
      goes = λ g t h. one_less g t c.args.is_negated c.loop-start.sign (take (to - from) (drop from c.args.formula.now)) _ (i.goes g t h)
          (λ u a. subst (λ (ps : List Piece). IsNegation g u ps)
          (ap (λ (xs : List Piece). take (c.in-Some.end - c.in-Some.start) (drop c.in-Some.start xs)) c.part.ensures.is ∙ inner_part from to c.in-Some.start c.in-Some.end _ _ c.args.formula.now s.start (omega (arith, s.end, c.part.ensures.len)) refl refl)
          (s.some g u (subst (IsTree g u) (sym c.part.ensures.is) a)));
    }

pub returns : goal.returns
returns c = λ g t h.
    let s = c.loop-start.invariant.goes g t h in
    let k = subst (λ (ps : List Piece). IsSame g t c.args.is_negated ps c.loop-start.sign) (sym c.part-2.ensures.is) s in record {
      same = k;
      bare = c.in_default.ensures.none g k.tree (subst (IsTree g k.tree) (c.part-2.ensures.is ∙ sym c.part.ensures.is) k.term);
    }
