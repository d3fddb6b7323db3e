use Rattle.std.proofs.Common.{rules, List, [], ◌∷◌, ◌++◌, sym, ◌∙◌, ap, subst, append_assoc}
use Rattle.vpg_model.specs.Departures.{PairMove}
use Rattle.vpg_model.specs.Searching.{AreSuccessors, IsGrowthFault}
use Rattle.vpg_model.proofs.Search.{none_yet, one_more, fault_at}
use Rattle.std.proofs.lemmas.Result.{err_from_is_err_and}
use Rattle.vpg_model.proofs.building.successors.Goals as goal

pub loop-step-init : goal.loop-step-init
loop-step-init c = record { successors = none_yet c.args.pairs.now.keys c.in_ok-successors.successors.items c.in_ok-successors.ensures.items; moves = search rules }

pub loop-step-preserved : goal.loop-step-preserved
loop-step-preserved c =
    let l = c.loop-step in record {
      successors = subst (λ (m : PairMove). AreSuccessors c.args.pairs.now.keys c.place.new.pairs.keys (l.yielded ++ m ∷ []) c.push.new.self.items) c.step.view_is
          (one_more _ _ _ _ _ _ _ _ l.invariant.successors c.in_ok-at.ensures.placed c.in_ok-push.ensures.items);
      moves = append_assoc l.yielded (c.in-Some.step ∷ []) c.next.new.self.rest.items ∙ ap (λ (xs : List PairMove). l.yielded ++ xs) (sym c.in-Some.ensures.steps.0) ∙ l.invariant.moves;
    }

pub returns-in_err-at-clause-refused : goal.returns-in_err-at-clause-refused
returns-in_err-at-clause-refused c =
    let l = c.loop-step in
    let p = err_from_is_err_and c.from_residual-in_err-at.result c.from_residual-in_err-at.ensures.1 in
    rw (p.1, p.2) (fault_at c.args.pairs.now.keys l.pairs.keys c.place.new.pairs.keys l.yielded c.next.new.self.rest.items c.args.moves.items c.in-Some.step c.in_err-at.field-0.0 l.invariant.successors.grown
    (subst (λ (m : PairMove). IsGrowthFault l.pairs.keys c.place.new.pairs.keys (m.to ∷ []) c.in_err-at.field-0.0) c.step.view_is c.in_err-at.ensures.refused)
    (ap (λ (xs : List PairMove). l.yielded ++ xs) (sym c.in-Some.ensures.steps.0) ∙ l.invariant.moves))
