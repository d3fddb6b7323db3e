-- Pictures of the part of a game that decides a vertex. This project's own.
use Rattle.std.specs.Prelude.{◌≡◌, ℕ, ◌⊎◌, Bool, Option, Some, None, List, [], slice_index}
use Rattle.vpg_guards.specs.declared.tri.Tri.{Tri}
use Rattle.vpg_draw.specs.PartDrawing.{part_drawing}
use Rattle.vpg_sides.specs.declared.player.Player.{Player}
use Rattle.vpg_measure.specs.TwoGames.{top_for}
use Rattle.vpg_sides.specs.declared.which.Which.{Which}
use Rattle.vpg_sides.specs.declared.which.Which.TheVariants.{Hopeful, Dual}
use Rattle.vpg_why.specs.Moves.{AreWinning, ChoicesSettleInCaution}
use Rattle.vpg_why.specs.Reachable.{AreReachable}
use Rattle.vpg_partial.specs.TableLaws.{IsKnownTable}
use Rattle.vpg_partial.specs.declared.decision.Decision.{Decision}
use Rattle.vpg_texts.specs.Changed.{verdicts_by}
use Rattle.vpg_texts.specs.Picture.{named_game}
use Rattle.vpg_texts.specs.Scene.{Scene}
use Rattle.vpg_why.specs.Explained.{choices}
use Rattle.vpg_why.specs.Products.{loser}
use Rattle.vpg_why.specs.declared.question.Limits.{Limits}
use Rattle.vpg_looks.specs.Texts.{unsettled_line}

-- The text is the picture of the vertices that can be reached from this one, under the features that the decisions make
-- known. It follows each edge that may be there, and of the mover only the listed moves. Verdicts are those of the
-- tables, and names those that stand beside lines.
pub record IsPartDrawn (scene : Scene) (vertex : ℕ) (decisions : List Decision) (hopeful dual : List ℕ)
    (mover : Option Player) (moves : List (Option ℕ)) (text : List ℕ) : Type 0 where
  pub known : List Tri
  pub is_known : IsKnownTable scene.lines (choices decisions) known
  pub marks : List Bool
  pub reachable : AreReachable scene.game known mover moves vertex marks
  pub drawn : text ≡ part_drawing scene.names known (choices decisions) scene.labels
      (verdicts_by scene.game hopeful dual) (named_game scene) vertex marks mover moves

-- with no moves listed
abbrev pub IsAllDrawn : Scene → (vertex : ℕ) → List Decision → (hopeful dual text : List ℕ) → Type 0
IsAllDrawn scene vertex decisions hopeful dual text = IsPartDrawn scene vertex decisions hopeful dual None [] text

-- With moves that win in each product left; or the limits leave no room.
abbrev pub DrawsWinning : Scene → Limits → (mover : Which) → (vertex : ℕ) → List Decision →
    (hopeful dual text : List ℕ) → Type 0
DrawsWinning scene limits mover vertex decisions hopeful dual text =
    ((moves : List (Option ℕ)) × AreWinning scene.game scene.lines (choices decisions) mover vertex moves ×
    IsPartDrawn scene vertex decisions hopeful dual (Some (loser mover)) moves text)
    ⊎ (¬ (ChoicesSettleInCaution limits.rounds scene.game scene.lines (choices decisions) mover)
    × (text ≡ unsettled_line))

-- If the page has the vertex hopeless, with moves of Odd; else if it has it sure, with moves of Even; else with none
-- listed.
abbrev pub TellsPart : Scene → Limits → (vertex : ℕ) → List Decision → (hopeful dual text : List ℕ) → Type 0
TellsPart scene limits vertex decisions hopeful dual text =
    ((slice_index hopeful vertex ≡ top_for Hopeful scene.game)
    × DrawsWinning scene limits Dual vertex decisions hopeful dual text)
    ⊎ (¬ (slice_index hopeful vertex ≡ top_for Hopeful scene.game) × (slice_index dual vertex ≡ top_for Dual scene.game)
    × DrawsWinning scene limits Hopeful vertex decisions hopeful dual text)
    ⊎ (¬ (slice_index hopeful vertex ≡ top_for Hopeful scene.game)
    × ¬ (slice_index dual vertex ≡ top_for Dual scene.game) × IsAllDrawn scene vertex decisions hopeful dual text)
