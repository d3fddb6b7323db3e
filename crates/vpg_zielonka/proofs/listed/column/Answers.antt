use Rattle.std.proofs.Common.{◌≡◌, ℕ, ◌+◌, ◌-◌, ◌*◌, ◌<◌, Bool, true, false, cond, length, map, drop, sym, ◌∙◌, ap, subst, arith}
use Rattle.std.specs.Global.{Vec}
use Rattle.std.proofs.lemmas.List.{get_or_default}
use Rattle.vpg_zielonka.specs.Words.{word_of}
use Rattle.vpg_zielonka.proofs.Columns.{column_fits, column_more}
use Rattle.vpg_zielonka.proofs.listed.column.Goals as goal

pub overflow_mul-word : goal.overflow_mul-word
overflow_mul-word c = omega (
  arith,
  column_fits c.args.products.now c.args.feature c.loop-i.i c.loop-i.word c.requires.few
      c.loop-i-test.true c.loop-i.invariant.0 c.loop-i.invariant.1,
)

pub overflow_add-word : goal.overflow_add-word
overflow_add-word c = omega (
  arith,
  column_fits c.args.products.now c.args.feature c.loop-i.i c.loop-i.word c.requires.few
      c.loop-i-test.true c.loop-i.invariant.0 c.loop-i.invariant.1,
  small c.index.result.now c.digit.result c.digit.ensures,
)
  where
    small : (b : Bool) (n : ℕ) → n ≡ cond b 1 0 → n < 2
    small true n e = omega (arith, e)
    small false n e = omega (arith, e)

pub loop-i-preserved : goal.loop-i-preserved
loop-i-preserved c = (
  omega (arith, c.loop-i.invariant.0),
  ap (λ n. c.loop-i.word * 2 + n) (c.digit.ensures ∙ ap (λ (b : Bool). cond b 1 0) (c.index.ensures
      ∙ get_or_default c.index-products-i.result.items c.args.feature c.index.result.now false within))
      ∙ column_more c.args.products.now c.args.feature (c.loop-i.i - 1) c.index-products-i.result
      (omega (arith, c.loop-i.invariant.0, c.loop-i-test.true)) c.index-products-i.is c.loop-i.word
      (c.loop-i.invariant.1
      ∙ ap (λ n. word_of (map (λ (p : Vec Bool). p.items) (drop n c.args.products.now)) c.args.feature) back),
)
  where
    back : c.loop-i.i ≡ c.loop-i.i - 1 + 1
    back = omega (arith, c.loop-i-test.true)

    within : c.args.feature < length c.index-products-i.result.items
    within = subst (λ (p : Vec Bool). c.args.feature < length p.items) (sym c.index-products-i.is)
        (c.requires.long (c.loop-i.i - 1) c.index-products-i.result
        (omega (arith, c.loop-i.invariant.0, c.loop-i-test.true)))
