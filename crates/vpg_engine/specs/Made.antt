-- How the harvests of lines were made: by how many sweeps, of how many lifters.
use Rattle.std.specs.Prelude.{◌≡◌, ℕ, ◌≤◌, List, ◌∷◌, ◌++◌, [], Option, Some, true, ⊤}
use Rattle.vpg_sides.specs.declared.which.Which.{Which}
use Rattle.vpg_measure.specs.Orders.{OrderView, HarvestView, order_table, harvest_table}
use Rattle.vpg_trail.specs.Page.{Decision}
use Rattle.vpg_desk.specs.Book.{Harvest, Call, Commit, Reply, Ordered}
use Rattle.vpg_desk.specs.Commit.{handed_in}
use Rattle.vpg_desk.specs.History.{Event}
use Rattle.vpg_desk.specs.Setting.{Setting}
use Rattle.vpg_desk.specs.State.{setting_between}
use Rattle.vpg_script.specs.Script as script
use Rattle.vpg_settle.specs.Sweeping.{Settles}
use Rattle.vpg_engine.specs.Answers.{most_sweeps, sweeps_of}
use Rattle.vpg_engine.specs.Held.{Held}

-- At most `most` sweeps, each by this many lifters, and certified guesses made the harvest of the order in the reply.
-- Without sweeps nothing is raised.
pub record IsMadeBy (setting : Setting) (lifters most : ℕ) (decisions : List Decision) (hopeful dual : List ℕ)
    (made : Harvest) : Type 0 where
  pub order : OrderView
  pub harvest : HarvestView
  pub sweeps : ℕ
  pub setting_is : setting_between order.game order.diagram ≡ setting
  pub decisions_are : order.decisions ≡ decisions
  pub hopeful_is : order.hopeful ≡ hopeful
  pub dual_is : order.dual ≡ dual
  pub made_is : made ≡ handed_in true harvest
  pub few : sweeps ≤ most
  pub settles : Settles lifters sweeps order harvest
  pub none : most ≡ 0 → (which : Which) → harvest_table which harvest ≡ order_table which order

-- a commit's harvest was made from the order in the reply
abbrev pub IsCommittedBy : Setting → ℕ → ℕ → Reply → Call → Type 0
IsCommittedBy setting lifters most (Ordered decisions hopeful dual) (Commit made) =
    IsMadeBy setting lifters most decisions hopeful dual made
IsCommittedBy setting lifters most _ _ = ⊤

-- the harvest that was kept last was made from the order in the reply
abbrev pub IsKeptBy : Setting → ℕ → ℕ → Reply → Held → Type 0
IsKeptBy setting lifters most (Ordered decisions hopeful dual) held =
    (before : List (Option Harvest)) × (made : Harvest) ×
    ((held.harvests ≡ before ++ Some made ∷ []) × IsMadeBy setting lifters most decisions hopeful dual made)
IsKeptBy setting lifters most _ held = ⊤

-- The harvest that a settle committed, and the one that a harvest kept, were made so. (Of other commands it says
-- nothing.)
abbrev pub AreMadeBy : Setting → ℕ → script.Command → List Event → Held → Type 0
AreMadeBy setting lifters (script.Settle n) (order ∷ commit ∷ calls) held =
    IsCommittedBy setting lifters (sweeps_of n) order.reply commit.call
AreMadeBy setting lifters script.Harvest (order ∷ calls) held = IsKeptBy setting lifters most_sweeps order.reply held
AreMadeBy setting lifters _ calls held = ⊤
