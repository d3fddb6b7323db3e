-- Numbers of products, by answers. This project's own.
use Rattle.std.specs.Prelude.{ℕ, ◌+◌, ◌/◌, ◌^◌, ◌≤◌, ⊤, List, [], ◌∷◌, ◌++◌}
use Rattle.vpg_guards.specs.declared.tri.Tri.{Tri}
use Rattle.vpg_diagram.specs.FeatureDiagram.{Line}
use Rattle.vpg_diagram.specs.declared.clause.Literal.{Literal}
use Rattle.vpg_number.specs.Counted.{IsCount, IsExact, unknown_features}
use Rattle.vpg_number.specs.declared.counted.Count.{Count}
use Rattle.vpg_partial.specs.TableLaws.{IsKnownTable}
use Rattle.vpg_texts.specs.Scene.{Scene}
use Rattle.vpg_winners.specs.Joined.{PartView}

-- so many looks suffice for each case of the features that the choices leave unknown
abbrev pub CountEnds : List Line → (looks : ℕ) → List Literal → Type 0
CountEnds lines looks choices =
    (known : List Tri) × IsKnownTable lines choices known × (2 ^ (unknown_features known + 1) ≤ looks + 1)

-- The number of products that agree with the choices, or one that is not greater. It is the number if the looks
-- suffice.
pub record IsAmount (lines : List Line) (looks : ℕ) (choices : List Literal) (count : Count) : Type 0 where
  pub number : IsCount lines choices count
  pub settled : CountEnds lines looks choices → IsExact count

-- for each part the number of products that agree with the choices and with the part's literals
abbrev pub AreAmounts : Scene → (looks : ℕ) → List Literal → List PartView → List Count → Type 0
AreAmounts scene looks choices [] [] = ⊤
AreAmounts scene looks choices (part ∷ parts) (count ∷ counts) =
    IsAmount scene.lines looks (choices ++ part.literals) count × AreAmounts scene looks choices parts counts
AreAmounts scene looks choices [] (count ∷ counts) = ⊥
AreAmounts scene looks choices (part ∷ parts) [] = ⊥

-- Each part may take as many looks as the number of all products, if there are fewer than a hundred parts. Otherwise
-- they share about a hundred times as many.
abbrev pub looks_each : (looks parts : ℕ) → ℕ
looks_each looks parts = looks / (parts / 100 + 1)
