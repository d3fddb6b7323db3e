use Rattle.std.proofs.Common.{◌≡◌, ℕ, ◌+◌, ◌<◌, ◌≤◌, ◌⊎◌, inl, inr, Bool, true, false, ◌||◌, List, length, refl, sym, ◌∙◌, subst, arith}
use Rattle.std.proofs.lemmas.Bool.{cases_eq, cases_lt}
use Rattle.vpg_zielonka.specs.Universes.{has}
use Rattle.vpg_zielonka.proofs.Growing.{grown_then}
use Rattle.vpg_zielonka.specs.Parts.{set_at, part_in}
use Rattle.vpg_zielonka.proofs.Filling.{part_inside, part_beyond}
use Rattle.vpg_zielonka.proofs.parts.occupied.Goals as goal

left_none : (a b : Bool) → (a || b) ≡ false → a ≡ false
left_none a b e = elim a as (λ (x : Bool). (x || b) ≡ false → x ≡ false) [ true ↦ λ f. f | false ↦ λ f. refl ] e

right_none : (a b : Bool) → (a || b) ≡ false → b ≡ false
right_none a b e = elim a as (λ (x : Bool). (x || b) ≡ false → b ≡ false) [ true ↦ λ f. cc | false ↦ λ f. f ] e

either : (a b : Bool) → (a || b) ≡ true → (a ≡ true) ⊎ (b ≡ true)
either a b e = elim a as (λ (x : Bool). (x || b) ≡ true → (x ≡ true) ⊎ (b ≡ true)) [
  | true ↦ λ f. inl refl
  | false ↦ λ f. inr f
] e

pub loop-v-preserved : goal.loop-v-preserved
loop-v-preserved c = (
  grown_then c.args.sets.now c.loop-v.sets c.or.new.self c.loop-v.invariant.0 c.in_ok-some.ensures.grown,
  c.in_ok-some.ensures.set.inside,
  (λ p none v k. each p none v k (cases_eq v c.loop-v.v)),
  (λ p is. one p (either _ _ (sym (c.in_ok-some.ensures.set.each p) ∙ is))),
)
  where
    one : (p : List Bool) → (has c.loop-v.sets c.loop-v.some p ≡ true) ⊎
        (has c.loop-v.sets (set_at c.args.part.now c.loop-v.v) p ≡ true) →
        (v : ℕ) × (v < c.loop-v.v + 1) × (has c.args.sets.now (set_at c.args.part.now v) p ≡ true)
    one p (inl e) = let found = c.loop-v.invariant.3 p e in (found.0, omega (arith, found.1), found.2)
    one p (inr e) = (
      c.loop-v.v,
      omega arith,
      sym (c.loop-v.invariant.0.same (set_at c.args.part.now c.loop-v.v) (c.requires.inside c.loop-v.v c.loop-v-test.true) p) ∙ e,
    )

    each : (p : List Bool) → has c.or.new.self c.in_ok-some.some p ≡ false → (v : ℕ) → v < c.loop-v.v + 1 →
        (v ≡ c.loop-v.v) ⊎ (v ≡ c.loop-v.v → ⊥) → has c.args.sets.now (set_at c.args.part.now v) p ≡ false
    each p none v k (inl e) = subst (λ n. has c.args.sets.now (set_at c.args.part.now n) p ≡ false) (sym e)
        (sym (c.loop-v.invariant.0.same (set_at c.args.part.now c.loop-v.v) (c.requires.inside c.loop-v.v c.loop-v-test.true) p)
        ∙ right_none _ _ (sym (c.in_ok-some.ensures.set.each p) ∙ none))
    each p none v k (inr n) = c.loop-v.invariant.2 p (left_none _ _ (sym (c.in_ok-some.ensures.set.each p) ∙ none)) v
        (omega (arith, n))

pub returns-clause-none : goal.returns-clause-none
returns-clause-none c p none v = of (cases_lt v (length c.args.part.now))
  where
    of : (v < length c.args.part.now) ⊎ (length c.args.part.now ≤ v) → part_in c.args.sets.now c.args.part.now p v ≡ false
    of (inl k) = part_inside c.args.sets.now c.args.part.now p v k
        ∙ c.loop-v.invariant.2 p none v (omega (arith, c.loop-v-test.false))
    of (inr k) = part_beyond c.args.sets.now c.args.part.now p v k

pub returns-clause-some : goal.returns-clause-some
returns-clause-some c p is =
    let found = c.loop-v.invariant.3 p is
    in (
      found.0,
      part_inside c.args.sets.now c.args.part.now p found.0
          (omega (arith, found.1, c.loop-v-test.false, c.loop-v.auto.v-end)) ∙ found.2,
    )
