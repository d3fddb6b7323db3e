-- The meaning of the verdicts of a desk's pages for a requirement: the theorem on games made from systems and formulas,
-- joined with the desk's headline. This project's own.
use Rattle.std.specs.Prelude.{◌≡◌, ℕ, ◌<◌, List, [], length, Bool, slice_index}
use Rattle.vpg_guards.specs.declared.tri.Tri.{Tri}
use Rattle.vpg_guards.specs.Formula.{Formula as Guard, truth}
use Rattle.vpg_guards.specs.Known.{AreAllKnown}
use Rattle.vpg_diagram.specs.FeatureDiagram.{feature_count}
use Rattle.vpg_partial.specs.KnownLaws.{IsRemaining}
use Rattle.vpg_partial.specs.TableLaws.{IsKnownTable}
use Rattle.vpg_trail.specs.Page.{Hopeful, Dual, Entry, choices_of}
use Rattle.vpg_desk.specs.Book.{opened, IsSettledPage}
use Rattle.vpg_desk.specs.History.{Event, IsLegal, book_after}
use Rattle.vpg_desk.specs.Lawful.{EachPage, IsLawful, AllHandIn}
use Rattle.vpg_desk.specs.Setting.{Setting, IsSetting}
use Rattle.vpg_desk.specs.Desk.{family_of}
use Rattle.vpg_desk.specs.Headline.{IsTopAt}
use Rattle.vpg_requirement.specs.Systems.{System, product_system}
use Rattle.vpg_requirement.specs.Formulas.{Formula, Means}
use Rattle.vpg_model.specs.Laws.{IsModel}
use Rattle.vpg_checking.specs.Checking.{EntryHoldsIn, IsModelOfTexts}

-- The formula holds at this state of the system of the product that has these features.
abbrev pub HoldsIn : System Guard → Formula → ℕ → List Bool → Type 0
HoldsIn system formula s set = Means (product_system (truth set) system) [] formula s

-- The page leaves one product, and in it the requirement holds if the vertex is possible, and fails if it is unsure.
pub record Settles (setting : Setting) (Holds : List Bool → Type 0) (v : ℕ) (page : List Entry)
    (set : List Bool) : Type 0 where
  pub remaining : IsRemaining setting.lines (choices_of page) set
  pub only : (other : List Bool) → IsRemaining setting.lines (choices_of page) other → other ≡ set
  pub possible : ¬ (IsTopAt setting page Hopeful v) → Holds set
  pub unsure : ¬ (IsTopAt setting page Dual v) → Holds set → ⊥

-- The page's verdict at the vertex is true of the requirement: if it is hopeless the requirement holds in no product
-- left, and if sure in each. A full and settled page says which of the two is so.
pub record Promises (setting : Setting) (Holds : List Bool → Type 0) (v : ℕ) (page : List Entry) : Type 0 where
  pub hopeless : IsTopAt setting page Hopeful v → (set : List Bool) → IsRemaining setting.lines (choices_of page) set →
      Holds set → ⊥
  pub sure : IsTopAt setting page Dual v → (set : List Bool) → IsRemaining setting.lines (choices_of page) set →
      Holds set
  pub full : (known : List Tri) → IsKnownTable setting.lines (choices_of page) known →
      AreAllKnown (feature_count setting.lines) known → IsSettledPage (family_of setting) page →
      (set : List Bool) × Settles setting Holds v page set

-- Hopeless and sure speak of the formula on each page, present, past and future, of each legal history of a desk over a
-- game that is a model of it. Harvests that are handed in are lawful, as those of this project's lifters are.
abbrev pub VerdictsSpeakOfRequirements : Type 0
VerdictsSpeakOfRequirements = (setting : Setting) (history : List Event) → IsSetting setting →
    IsLegal (family_of setting) history → AllHandIn (IsLawful (family_of setting)) history →
    (system : System Guard) (formula : Formula) (s v : ℕ) →
    IsModel setting.lines setting.game system formula s v →
    EachPage (Promises setting (HoldsIn system formula s) v) (book_after (family_of setting) opened history)

-- As `VerdictsSpeakOfRequirements`, over the game of the texts of a system and of requirements. At an entry's vertex
-- hopeless and sure speak of the entry's requirement, as it is written, at the first state of the system.
abbrev pub VerdictsSpeakOfTexts : Type 0
VerdictsSpeakOfTexts = (setting : Setting) (history : List Event) → IsSetting setting →
    IsLegal (family_of setting) history → AllHandIn (IsLawful (family_of setting)) history →
    (names : List (List ℕ)) (system_text requirements_text : List ℕ) (roots : List ℕ)
    (made : IsModelOfTexts names setting.lines system_text requirements_text setting.game roots) →
    (n : ℕ) → n < length made.entries →
    EachPage (Promises setting (EntryHoldsIn made.system made.entries n) (slice_index roots n))
    (book_after (family_of setting) opened history)
