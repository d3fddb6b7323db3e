-- The effects of retracting decisions. This project's own.
use Rattle.std.specs.Prelude.{◌≡◌, ℕ, suc, ◌+◌, ⊤, Bool, true, false, List, [], ◌∷◌, ◌++◌, drop, map, take, IsTrue}
use Rattle.vpg_diagram.specs.declared.clause.Literal.{Literal}
use Rattle.vpg_sides.specs.declared.which.Which.TheVariants.{Hopeful}
use Rattle.vpg_partial.specs.KnownLaws.{IsRemaining}
use Rattle.vpg_partial.specs.declared.decision.Decision.{Decision}
use Rattle.vpg_texts.specs.Scene.{Scene}
use Rattle.vpg_why.specs.Explained.{choices}
use Rattle.vpg_why.specs.Products.{MeetsIn, NoneMeetsIn}
use Rattle.vpg_why.specs.Suffices.{SufficeIn}
use Rattle.vpg_why.specs.declared.question.Aim.TheVariants as aims
use Rattle.vpg_why.specs.declared.question.Limits.{Limits}
use Rattle.vpg_why.specs.declared.question.Question.TheVariants as asks
use Rattle.vpg_looks.specs.declared.retracting.Effect.{Effect}
use Rattle.vpg_looks.specs.declared.retracting.Effect.TheVariants as effects
use Rattle.vpg_looks.specs.declared.retracting.Tried.{Tried}
use Rattle.vpg_looks.specs.Room.{SearchEnds}

-- a settled page of these choices alone has the vertex hopeless
abbrev pub IsHopelessBy : Scene → (vertex : ℕ) → List Literal → Type 0
IsHopelessBy scene vertex = SufficeIn scene.game scene.lines (asks.Verdict Hopeful vertex)

-- Even wins from the vertex in some product that agrees with these choices
abbrev pub HasWinner : Scene → (vertex : ℕ) → List Literal → Type 0
HasWinner scene vertex choices =
    (set : List Bool) × IsRemaining scene.lines choices set × MeetsIn scene.game (aims.Won Hopeful vertex) set

-- Even wins from it in none
abbrev pub IsLostBy : Scene → (vertex : ℕ) → List Literal → Type 0
IsLostBy scene vertex = NoneMeetsIn scene.game scene.lines (aims.Won Hopeful vertex)

-- The effect of a retraction on a vertex, by the choices that stay, and by whether the vertex was hopeless before. A
-- product is left that Even wins. Or there is none, and the verdict alone is possible then; or it does not change. Or
-- the limits leave no room.
abbrev pub IsEffect : Scene → Limits → (vertex : ℕ) → (was_hopeless : Bool) → List Literal → Effect → Type 0
IsEffect scene limits vertex was_hopeless choices effects.Won = HasWinner scene vertex choices
IsEffect scene limits vertex was_hopeless choices effects.Possible =
    IsLostBy scene vertex choices × IsTrue was_hopeless × ¬ (IsHopelessBy scene vertex choices)
IsEffect scene limits vertex was_hopeless choices effects.Nothing =
    IsLostBy scene vertex choices × (IsTrue was_hopeless → IsHopelessBy scene vertex choices)
IsEffect scene limits vertex was_hopeless choices effects.Unsettled =
    ¬ (SearchEnds scene limits (aims.Won Hopeful vertex) choices)

-- the decisions without the one at this place
abbrev pub without : ℕ → List Decision → List Decision
without place decisions = take place decisions ++ drop (place + 1) decisions

-- the effects of retracting each of these decisions alone, from this place on
abbrev pub HaveEffects : Scene → Limits → (vertex : ℕ) → (was_hopeless : Bool) → List Decision → (place : ℕ) →
    List Tried → Type 0
HaveEffects scene limits vertex was_hopeless decisions place [] = ⊤
HaveEffects scene limits vertex was_hopeless decisions place (t ∷ tried) =
    IsEffect scene limits vertex was_hopeless (choices (without place decisions)) t.effect
    × HaveEffects scene limits vertex was_hopeless decisions (suc place) tried

-- the first n decisions, each with the effect of retracting it alone
pub record AreTried (scene : Scene) (limits : Limits) (vertex : ℕ) (was_hopeless : Bool) (decisions : List Decision)
    (n : ℕ) (tried : List Tried) : Type 0 where
  pub each : map (λ t. t.decision) tried ≡ take n decisions
  pub effects : HaveEffects scene limits vertex was_hopeless decisions 0 tried

-- it leaves a product that Even wins
abbrev pub is_winning : Effect → Bool
is_winning effects.Won = true
is_winning effects.Possible = false
is_winning effects.Nothing = false
is_winning effects.Unsettled = false

-- no limit was met
abbrev pub is_shown : Effect → Bool
is_shown effects.Won = true
is_shown effects.Possible = true
is_shown effects.Nothing = true
is_shown effects.Unsettled = false

-- it is told
abbrev pub is_listed : Effect → Bool
is_listed effects.Won = true
is_listed effects.Possible = true
is_listed effects.Nothing = false
is_listed effects.Unsettled = true

-- the place of an effect: first come those that win, then those that were not settled
abbrev pub rank_of : Effect → ℕ
rank_of effects.Won = 0
rank_of effects.Unsettled = 1
rank_of effects.Possible = 2
rank_of effects.Nothing = 3
