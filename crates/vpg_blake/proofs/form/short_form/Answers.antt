use Rattle.std.proofs.Common.{◌≡◌, ap, ◌∙◌, arith}
use Rattle.vpg_guards.specs.View.{formula_of}
use Rattle.vpg_blake.specs.Blake.{cubes_in, disjunction, prime_implicants}
use Rattle.vpg_blake.proofs.Steps.{named_within, primes_made, too_many, few_enough}
use Rattle.vpg_blake.proofs.form.short_form.Goals as goal

pub push_rows-requires-clause-within : goal.push_rows-requires-clause-within
push_rows-requires-clause-within c =
    named_within c.args.features (formula_of c.args.guard.now) c.in_ok-named.named.items c.deref.result.now c.in_ok-set.set.items c.deref-2.result.now
    c.in_ok-named.ensures c.deref.ensures.value (c.in_ok-set.ensures.items_if_clones_equal (λ y e. e)) c.deref-2.ensures.value

pub returns-then-len-gt-MOST_IMPLICANTS : goal.returns-then-len-gt-MOST_IMPLICANTS
returns-then-len-gt-MOST_IMPLICANTS c =
    let primes : cubes_in c.in_ok-cubes.cubes.items ≡ prime_implicants c.args.features (formula_of c.args.guard.now) =
    primes_made c.args.features (formula_of c.args.guard.now) c.in_ok-named.named.items c.deref.result.now c.deref-3.result.now c.in_ok-set.set.items
    c.deref-2.result.now c.new-table.result.items c.push_rows.new.table.items c.deref-4.result.now c.in_ok-cubes.cubes.items
    c.in_ok-named.ensures c.deref.ensures.value c.deref-3.ensures.value (c.in_ok-set.ensures.items_if_clones_equal (λ y e. e)) c.deref-2.ensures.value
    c.new-table.ensures.items c.in_ok-push_rows.ensures c.deref-4.ensures.value c.in_ok-cubes.ensures in
    too_many c.args.features (formula_of c.args.guard.now) c.in_ok-cubes.cubes.items primes (omega arith)

pub returns : goal.returns
returns c =
    let primes : cubes_in c.in_ok-cubes.cubes.items ≡ prime_implicants c.args.features (formula_of c.args.guard.now) =
    primes_made c.args.features (formula_of c.args.guard.now) c.in_ok-named.named.items c.deref.result.now c.deref-3.result.now c.in_ok-set.set.items
    c.deref-2.result.now c.new-table.result.items c.push_rows.new.table.items c.deref-4.result.now c.in_ok-cubes.cubes.items
    c.in_ok-named.ensures c.deref.ensures.value c.deref-3.ensures.value (c.in_ok-set.ensures.items_if_clones_equal (λ y e. e)) c.deref-2.ensures.value
    c.new-table.ensures.items c.in_ok-push_rows.ensures c.deref-4.ensures.value c.in_ok-cubes.ensures in (
      few_enough c.args.features (formula_of c.args.guard.now) c.in_ok-named.named.items c.in_ok-cubes.cubes.items c.in_ok-named.ensures (omega arith) primes (omega arith),
      c.in_ok-disjunction.ensures ∙ ap disjunction (ap cubes_in c.deref-5.ensures.value ∙ primes),
    )
