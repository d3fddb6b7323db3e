use Rattle.std.proofs.Common.{ℕ, false, replicate, ap, ◌∙◌, arith}
use Rattle.std.proofs.lemmas.Result.{err_from_is_err_and}
use Rattle.vpg_family.proofs.Naming.{named_first, named_next, named_within, unknown_first}
use Rattle.std.proofs.lemmas.Grind.{common_steps}
use Rattle.vpg_family.proofs.family.features_named.Goals as goal

pub loop-word-init : goal.loop-word-init
loop-word-init c = named_first c.args.names.now c.in_ok-set.set.items (c.in_ok-set.ensures.items_if_clones_equal (λ y e. e) ∙ ap (λ (n : ℕ). replicate n false) c.len.ensures.len)

pub returns-in_err-f-clause-unknown : goal.returns-in_err-f-clause-unknown
returns-in_err-f-clause-unknown c =
    let p = err_from_is_err_and c.from_residual-in_err-f.result c.from_residual-in_err-f.ensures.1 in
    rw (p.1, p.2) (unknown_first c.args.names.now c.args.words.now c.loop-word.word-index c.in_err-f.field-0.0 c.loop-word-test.true c.loop-word.invariant.known c.in_err-f.ensures.unknown)

pub index_mut-requires : goal.index_mut-requires
index_mut-requires c =
    omega (arith, named_within c.args.names.now _ _ c.in_ok-f.f c.loop-word.set.items c.in_ok-f.ensures.found c.loop-word.invariant, c.loop-word.set.ok.0)

pub loop-word-preserved : goal.loop-word-preserved
loop-word-preserved c =
    named_next c.args.names.now c.args.words.now c.loop-word.word-index c.in_ok-f.f c.loop-word.set.items c.loop-word-test.true c.len.ensures.names.distinct c.in_ok-f.ensures.found c.loop-word.invariant

pub returns-clause-set : goal.returns-clause-set
returns-clause-set c = grind (arith, common_steps)
