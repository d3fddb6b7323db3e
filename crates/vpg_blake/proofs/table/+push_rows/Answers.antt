use Rattle.std.proofs.Common.{◌≡◌, ℕ, true, refl, length, length-set, sym, ap, subst, ◌∙◌, arith}
use Rattle.vpg_guards.specs.Formula.{IsBelow}
use Rattle.vpg_guards.specs.View.{formula_of}
use Rattle.vpg_blake.proofs.Steps.{rows_within}
use Rattle.vpg_blake.proofs.table.+push_rows.Goals as goal

pub push_rows-requires : goal.push_rows-requires
push_rows-requires t c =
    let long : length c.deref.result.now ≡ length c.args.set.now =
    ap length (c.deref.ensures.value ∙ c.in_ok-with.ensures) ∙ length-set c.args.set.now c.in-Some.first.now true in (
      omega (arith, c.decreases, c.in-Some.ensures.cases.1),
      (
        subst (λ (n : ℕ). IsBelow n (formula_of c.args.guard.now)) (sym long) c.requires.below,
        rows_within c.in-Some.first.now c.in-Some.rest.now c.args.features.now (length c.args.set.now) (length c.deref.result.now) c.in-Some.ensures.cases.0 long c.requires.within,
      ),
    )

pub push_rows-requires-2 : goal.push_rows-requires-2
push_rows-requires-2 t c = (
  omega (arith, c.decreases, c.in-Some.ensures.cases.1),
  (
    c.requires.below,
    rows_within c.in-Some.first.now c.in-Some.rest.now c.args.features.now (length c.args.set.now) (length c.args.set.now) c.in-Some.ensures.cases.0 refl c.requires.within,
  ),
)
