-- The theorem: in each product of a family, the game that is built from the family's system and a formula decides
-- whether the formula holds in the product's system. For plain systems and games it is that of Emerson and Jutla 1991
-- and of Stirling 1995; for families FASE 2020's.
use Rattle.std.specs.Prelude.{◌≡◌, ℕ, ◌<◌, ◌↔◌, List, [], length, Bool, false}
use Rattle.vpg_sides.specs.declared.player.Player.{Player}
use Rattle.vpg_sides.specs.declared.player.Player.TheVariants.{Even, Odd}
use Rattle.vpg_guards.specs.Formula.{Formula as Guard, truth}
use Rattle.vpg_diagram.specs.FeatureDiagram.{Line, IsProduct}
use Rattle.vpg_game.specs.Guarded.{GuardedGame}
use Rattle.vpg_hope.specs.Games.{Game}
use Rattle.vpg_hope.specs.Hope.{product_game}
use Rattle.vpg_hope.specs.Strategies.{Strategy, Wins}
use Rattle.vpg_requirement.specs.Systems.{System, PlainSystem, product_system, IsClosedSystem, IsClosedFamily}
use Rattle.vpg_requirement.specs.Formulas.{Formula, Means, IsPositive}
use Rattle.vpg_requirement.specs.NormalForms.{NormalForm, HasPriorities, Satisfies, positive_form}
use Rattle.vpg_requirement.specs.Priorities.{with_priorities, normal_form, IsClosedBelow}
use Rattle.vpg_requirement.specs.Situations.{Situation, situation, situation_at, IsGameOfSituations}
use Rattle.vpg_requirement.specs.Building.{IsBuiltOf, IsAlikeGame}

-- If a normal form holds at a state, Even has a winning strategy from its situation.
abbrev pub WhatHoldsIsWon : Type 0
WhatHoldsIsWon = (system : PlainSystem) (form : NormalForm) (places : List Situation) (game : Game) →
    IsClosedSystem system → HasPriorities 0 [] form → IsGameOfSituations Even 0 system places game →
    (s v : ℕ) → s < system.states → v < length game → situation_at places v ≡ situation s form [] →
    Satisfies system [] form s → (strategy : Strategy) × Wins game Even strategy v

-- If a normal form does not hold at a state, Odd has a winning strategy from its situation.
abbrev pub WhatFailsIsLost : Type 0
WhatFailsIsLost = (system : PlainSystem) (form : NormalForm) (places : List Situation) (game : Game) →
    IsClosedSystem system → HasPriorities 0 [] form → IsGameOfSituations Even 0 system places game →
    (s v : ℕ) → s < system.states → v < length game → situation_at places v ≡ situation s form [] →
    (Satisfies system [] form s → ⊥) → (strategy : Strategy) × Wins game Odd strategy v

-- In each product, the game that is built for the family is the game of the product's system.
abbrev pub BuiltIsGame : Type 0
BuiltIsGame = (mover : Player) (low : ℕ) (system : System Guard) (places : List Situation) (game : GuardedGame Guard) →
    IsBuiltOf mover low system places game → (set : List Bool) →
    IsGameOfSituations mover low (product_system (truth set) system) places (product_game (truth set) game)

-- The game decides a fact at a vertex: Even has a winning strategy from there exactly if the fact holds, and Odd
-- exactly if it does not.
pub record IsDecided (Fact : Type 0) (game : Game) (v : ℕ) : Type 0 where
  pub won : Fact ↔ ((strategy : Strategy) × Wins game Even strategy v)
  pub lost : (Fact → ⊥) ↔ ((strategy : Strategy) × Wins game Odd strategy v)
  -- if no strategy of Even wins, as at a hopeless vertex, it does not hold
  pub hopeless : ((strategy : Strategy) → Wins game Even strategy v → ⊥) → Fact → ⊥
  -- if no strategy of Odd wins, as at a sure vertex, it does
  pub sure : ((strategy : Strategy) → Wins game Odd strategy v → ⊥) → Fact

-- In each product, the game that is built for the family decides whether a normal form holds in the product's system.
abbrev pub GameDecides : Type 0
GameDecides = (system : System Guard) (form : NormalForm) (places : List Situation) (game : GuardedGame Guard) →
    IsClosedFamily system → HasPriorities 0 [] form → IsBuiltOf Even 0 system places game →
    (s v : ℕ) → s < system.states → v < length game → situation_at places v ≡ situation s form [] →
    (set : List Bool) →
    IsDecided (Satisfies (product_system (truth set) system) [] form s) (product_game (truth set) game) v

-- A normal form with a fixpoint for each variable gets priorities with which the game decides it, and keeps its
-- meaning.
abbrev pub PrioritiesAreRight : Type 0
PrioritiesAreRight = (form : NormalForm) → IsClosedBelow 0 form → HasPriorities 0 [] (with_priorities form) ×
    ((system : PlainSystem) (s : ℕ) → Satisfies system [] (with_priorities form) s ↔ Satisfies system [] form s)

-- The positive form of a formula has the formula's meaning, if each variable stands under an even number of negations
-- within its fixpoint.
abbrev pub PositiveFormMeansTheSame : Type 0
PositiveFormMeansTheSame =
    (system : PlainSystem) (formula : Formula) → IsClosedSystem system → IsPositive [] false formula →
    (s : ℕ) → s < system.states → Satisfies system [] (positive_form false formula) s ↔ Means system [] formula s

-- So in each product, the game that is built for a formula decides whether the formula holds in the product's system.
abbrev pub FormulaDecides : Type 0
FormulaDecides = (system : System Guard) (formula : Formula) (places : List Situation) (game : GuardedGame Guard) →
    IsClosedFamily system → IsPositive [] false formula → IsBuiltOf Even 0 system places game →
    (s v : ℕ) → s < system.states → v < length game → situation_at places v ≡ situation s (normal_form formula) [] →
    (set : List Bool) →
    IsDecided (Means (product_system (truth set) system) [] formula s) (product_game (truth set) game) v

-- Guards may be written otherwise. Games that differ in guards alone, each as true in each product of a diagram, are
-- the same game in each of these products.
abbrev pub AlikeGamesAreTheSame : Type 0
AlikeGamesAreTheSame = (lines : List Line) (game other : GuardedGame Guard) → IsAlikeGame (IsProduct lines) game other →
    (set : List Bool) → IsProduct lines set → product_game (truth set) other ≡ product_game (truth set) game
