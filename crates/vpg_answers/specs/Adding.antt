-- The law of the numbers of parts, as a statement. This project's own.
use Rattle.std.specs.Prelude.{◌≡◌, ℕ, List, map}
use Rattle.std.specs.List.{sum}
use Rattle.vpg_diagram.specs.declared.clause.Literal.{Literal}
use Rattle.vpg_number.specs.declared.counted.Count.TheVariants.{Exactly}
use Rattle.vpg_texts.specs.Scene.{Scene}
use Rattle.vpg_winners.specs.Joined.{PartView}
use Rattle.vpg_winners.specs.Winners.{ArePartition}
use Rattle.vpg_looks.specs.Numbers.{AreAmounts, IsAmount}

-- The numbers of the parts of one page, as of `winners V`, add up to the number of all products left, if no limit was
-- met, whatever the limits were.
abbrev pub NumbersAddUp : Type 0
NumbersAddUp =
    (scene : Scene) (looks others : ℕ) (choices : List Literal) (parts : List PartView) (numbers : List ℕ)
    (number : ℕ) → ArePartition scene.lines choices parts →
    AreAmounts scene looks choices parts (map Exactly numbers) → IsAmount scene.lines others choices (Exactly number) →
    sum numbers ≡ number
