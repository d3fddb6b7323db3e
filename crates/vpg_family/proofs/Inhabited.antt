-- A count of a diagram's products shows whether there is one.
use Rattle.std.proofs.Common.{◌≡◌, zero, suc, ◌≤◌, Bool, List, [], ◌∷◌, length, arith}
use Rattle.vpg_diagram.specs.FeatureDiagram.{Line, IsProduct}
use Rattle.vpg_diagram.proofs.Lists.{Contains-nil}
use Rattle.vpg_number.specs.Counted.{AreRemaining, IsCount}
use Rattle.vpg_number.specs.declared.counted.Count.{Count}
use Rattle.vpg_number.specs.declared.counted.Count.TheVariants.{Exactly, AtLeast}
use Rattle.vpg_family.specs.Emptiness.{TellsProduct, any_of}

module _ (lines : List Line) where
  none_of : (sets : List (List Bool)) → AreRemaining lines [] sets → length sets ≡ 0 → (set : List Bool) → IsProduct lines set → ⊥
  none_of [] are e set product = Contains-nil set (are.all set (record { product = product; agrees = tt }))
  none_of (x ∷ xs) are e set product = absurd (omega (arith, e))

  one_of : (sets : List (List Bool)) → AreRemaining lines [] sets → 1 ≤ length sets → (set : List Bool) × IsProduct lines set
  one_of [] are l = absurd (omega (arith, l))
  one_of (x ∷ xs) are l = (x, are.each.0.product)

  pub counted : (count : Count) → IsCount lines [] count → TellsProduct lines (any_of count)
  counted (Exactly zero) c = none_of c.0 c.1 c.2
  counted (Exactly (suc n)) c = let e = c.2 in one_of c.0 c.1 (omega (arith, e))
  counted (AtLeast zero) c = tt
  counted (AtLeast (suc n)) c =
      let few = c.2 in
      let e = c.1.2 in
      one_of c.1.0 c.1.1 (omega (arith, few, e))
