-- Plans: Even's moves at a full and settled page.
use Rattle.std.specs.Prelude.{◌≡◌, ℕ, ◌<◌, Bool, Option, List, length, map, slice_index, ⊤}
use Rattle.vpg_guards.specs.declared.tri.Tri.{Tri}
use Rattle.vpg_guards.specs.Formula.{Formula, truth}
use Rattle.vpg_guards.specs.Known.{kleene, AreAllKnown}
use Rattle.vpg_sides.specs.declared.player.Player.{Player}
use Rattle.vpg_game.specs.Guarded.{GuardedGame}
use Rattle.vpg_hope.specs.Hope.{product_game}
use Rattle.vpg_hope.specs.Strategies.{Wins}
use Rattle.vpg_partial.specs.TableLaws.{IsOnlyRemaining}
use Rattle.vpg_measure.specs.Lifts.{AreChoices}
use Rattle.vpg_measure.specs.TwoGames.{top_for, levels_for, arena_for}
use Rattle.vpg_measure.specs.Views.{strategy_of}
use Rattle.vpg_trail.specs.Page.{Hopeful, Decision, literal_of}
use Rattle.vpg_texts.specs.declared.showing.plans.PlanFault.{PlanFault}
use Rattle.vpg_texts.specs.declared.showing.plans.PlanFault.TheVariants.{NotFull, NotSettled, Memory}
use Rattle.vpg_texts.specs.Text.{plan_text}
use Rattle.vpg_texts.specs.Scene.{Scene, UnderKnown, AreProgressTables}

-- at each vertex of Even that isn't hopeless the first kept successor of least `prog`, under what is known
abbrev pub AreChosen : List Tri → GuardedGame Formula → List ℕ → List (Option ℕ) → Type 0
AreChosen known game hopeful chosen =
    AreChoices (levels_for Hopeful game) (arena_for (kleene known) Hopeful game) hopeful chosen

-- Under these known features, each feature is known, both tables are progress tables, and the text has the choices of
-- the hopeful table.
pub record PlansUnder (scene : Scene) (known : List Tri) (hopeful dual text : List ℕ) : Type 0 where
  pub full : AreAllKnown (length known) known
  pub settled : AreProgressTables known scene.game hopeful dual
  pub chosen : List (Option ℕ)
  pub chosen_are : AreChosen known scene.game hopeful chosen
  pub text_is : text ≡ plan_text scene.identifiers scene.labels chosen

-- The text is the plan of these decisions and tables.
abbrev pub IsPlanned : Scene → List Decision → (hopeful dual text : List ℕ) → Type 0
IsPlanned scene decisions hopeful dual text =
    UnderKnown scene decisions (λ known. PlansUnder scene known hopeful dual text)

-- why there is none: some feature isn't known, or each is and some table is no progress table; out of memory says
-- nothing
abbrev pub IsPlanFault : Scene → List Decision → (hopeful dual : List ℕ) → PlanFault → Type 0
IsPlanFault scene decisions hopeful dual NotFull =
    UnderKnown scene decisions (λ known. ¬ (AreAllKnown (length known) known))
IsPlanFault scene decisions hopeful dual NotSettled =
    UnderKnown scene decisions
    (λ known. AreAllKnown (length known) known × ¬ (AreProgressTables known scene.game hopeful dual))
IsPlanFault scene decisions hopeful dual Memory = ⊤

-- In the one product that agrees with the decisions Even wins, by the choices of a plan, from each vertex that isn't
-- hopeless.
pub record PlanWins (scene : Scene) (decisions : List Decision) (hopeful : List ℕ) : Type 0 where
  pub product : List Bool
  pub only : IsOnlyRemaining scene.lines (map literal_of decisions) product
  pub wins : (chosen : List (Option ℕ)) →
      UnderKnown scene decisions (λ known. AreChosen known scene.game hopeful chosen) →
      (v : ℕ) → v < length scene.game → slice_index hopeful v < top_for Hopeful scene.game →
      Wins (product_game (truth product) scene.game) Player.Even (strategy_of chosen) v
