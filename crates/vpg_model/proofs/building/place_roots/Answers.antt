use Rattle.std.proofs.Common.{ℕ, [], ◌∷◌, subst}
use Rattle.vpg_model.specs.Pairs.{pair_for}
use Rattle.vpg_model.specs.Searching.{IsPlaced, IsGrowthFault}
use Rattle.vpg_model.proofs.Search.{no_roots, roots_taken, fault_at_root}
use Rattle.std.proofs.lemmas.Result.{err_from_is_err_and}
use Rattle.vpg_model.proofs.building.place_roots.Goals as goal

pub loop-root-init : goal.loop-root-init
loop-root-init c = no_roots c.args.pairs.now.keys c.new-places.result.items c.new-places.ensures.items

pub loop-root-preserved : goal.loop-root-preserved
loop-root-preserved c = roots_taken _ _ _ (pair_for c.args.source.now.parts.items c.args.first) c.args.roots.now c.loop-root.root-index _ _ _ c.loop-root-test.true c.loop-root.invariant
    (subst (λ (p : ℕ × ℕ). IsPlaced c.loop-root.pairs.keys c.place.new.pairs.keys p c.in_ok-place.field-0) c.pair_for.ensures c.in_ok-place.ensures.placed) c.in_ok-push.ensures.items

pub returns-in_err-place-clause-refused : goal.returns-in_err-place-clause-refused
returns-in_err-place-clause-refused c =
    let l = c.loop-root in
    let p = err_from_is_err_and c.from_residual.result c.from_residual.ensures.1 in
    rw (p.1, p.2) (fault_at_root c.args.pairs.now.keys l.pairs.keys c.place.new.pairs.keys (pair_for c.args.source.now.parts.items c.args.first) c.args.roots.now l.root-index c.in_err-place.field-0.0 c.loop-root-test.true l.invariant.grown
    (subst (λ (q : ℕ × ℕ). IsGrowthFault l.pairs.keys c.place.new.pairs.keys (q ∷ []) c.in_err-place.field-0.0) c.pair_for.ensures c.in_err-place.ensures.refused))
