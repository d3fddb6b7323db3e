-- The laws of every legal history of a desk.
use Rattle.std.specs.Prelude.{◌≡◌, ◌↔◌, ◌⊎◌, ℕ, ◌<◌, Bool, Option, List, [], ◌∷◌, ◌++◌, length, map, IsTrue}
use Rattle.std.specs.Bool.{Decides}
use Rattle.vpg_measure.specs.Lifts.{AreChoices}
use Rattle.vpg_sides.specs.declared.player.Player.{Player}
use Rattle.vpg_guards.specs.declared.tri.Tri.{Tri}
use Rattle.vpg_hope.specs.Strategies.{Strategy, Wins}
use Rattle.vpg_hope.specs.Hope.{product_game}
use Rattle.vpg_measure.specs.Views.{strategy_of}
use Rattle.vpg_guards.specs.Formula.{truth}
use Rattle.vpg_guards.specs.Known.{kleene, AreAllKnown}
use Rattle.vpg_diagram.specs.FeatureDiagram.{feature_count}
use Rattle.vpg_partial.specs.KnownLaws.{IsRemaining}
use Rattle.vpg_partial.specs.TableLaws.{IsKnownTable}
use Rattle.vpg_trail.specs.Page.{Which, Hopeful, Dual, Entry, literal_of, choices_of, AllStand, value_at, table_of}
use Rattle.vpg_desk.specs.Book.{Harvest, opened, IsSettledPage, Verdict, VerdictIs, Settled, IsSettled}
use Rattle.vpg_desk.specs.History.{Event, IsLegal, book_after, page_after, IsBeforeLast, gives_undo, gives_redo, undo_of, redo_of}
use Rattle.vpg_desk.specs.Lawful.{EachPage, PageIsBelow, IsLawful, harvested, AllHandIn, IsMonotone}
use Rattle.vpg_desk.specs.Setting.{Setting, IsSetting, HasConflict}
use Rattle.vpg_measure.specs.TwoGames.{IsTableBelow, top_for, levels_for, arena_for}
use Rattle.vpg_determined.specs.Determined.{HasWin}
use Rattle.vpg_determined.specs.Plays.{WinsEachPlay}
use Rattle.vpg_desk.specs.Desk.{family_of, IsLeastUnder}

-- the value is the top
abbrev pub IsTopAt : Setting → List Entry → Which → ℕ → Type 0
IsTopAt setting page which v = value_at which v page ≡ top_for which setting.game

-- a positional strategy of the player wins from the vertex in the game of the product
abbrev pub WinsIn : Setting → List Bool → Player → Strategy → ℕ → Type 0
WinsIn setting set player strategy v = Wins (product_game (truth set) setting.game) player strategy v

-- no positional strategy of the player wins from the vertex in any product that agrees with the page's decisions
abbrev pub NeverWins : Setting → List Entry → Player → ℕ → Type 0
NeverWins setting page player v =
    (set : List Bool) → IsRemaining setting.lines (choices_of page) set → (strategy : Strategy) →
    WinsIn setting set player strategy v → ⊥

-- One positional strategy of the player wins from the vertex in every product that agrees with the page's decisions. It
-- wins there every play that it allows, whoever moves for the opponent and however.
pub record AlwaysWins (setting : Setting) (page : List Entry) (player : Player) (v : ℕ) : Type 0 where
  pub strategy : Strategy
  pub wins : (set : List Bool) → IsRemaining setting.lines (choices_of page) set → WinsIn setting set player strategy v
  pub plays : (set : List Bool) → IsRemaining setting.lines (choices_of page) set →
      WinsEachPlay (product_game (truth set) setting.game) player strategy v

-- The meaning of a verdict on the page: if the vertex is hopeless Odd wins in every product left, and if it is sure
-- Even does; it is never both.
pub record VerdictMeans (setting : Setting) (page : List Entry) (v : ℕ) (hopeless sure : Bool) : Type 0 where
  pub lost : IsTrue hopeless → AlwaysWins setting page Player.Odd v
  pub won : IsTrue sure → AlwaysWins setting page Player.Even v
  pub not_both : ¬ (IsTrue hopeless × IsTrue sure)

-- the choices made at the page's table
abbrev pub AreChoicesAt : Setting → List Tri → List Entry → Which → List (Option ℕ) → Type 0
AreChoicesAt setting known page which choices =
    AreChoices (levels_for which setting.game) (arena_for (kleene known) which setting.game)
    (table_of which page (length setting.game)) choices

-- the winners of a full and settled page in its one product
pub record Determines (setting : Setting) (page : List Entry) (known : List Tri) (set : List Bool) : Type 0 where
  pub remaining : IsRemaining setting.lines (choices_of page) set
  pub only : (other : List Bool) → IsRemaining setting.lines (choices_of page) other → other ≡ set
  -- Even wins from each possible vertex, by the choices of the hopeful table
  pub possible : (choices : List (Option ℕ)) → AreChoicesAt setting known page Hopeful choices →
      (v : ℕ) → v < length setting.game → ¬ (IsTopAt setting page Hopeful v) →
      WinsIn setting set Player.Even (strategy_of choices) v
  -- Odd wins from each unsure one, by those of the dual table
  pub unsure : (choices : List (Option ℕ)) → AreChoicesAt setting known page Dual choices →
      (v : ℕ) → v < length setting.game → ¬ (IsTopAt setting page Dual v) →
      WinsIn setting set Player.Odd (strategy_of choices) v
  -- so Even has a winning strategy from each possible vertex, and Odd from each unsure one
  pub even_wins : (v : ℕ) → v < length setting.game → ¬ (IsTopAt setting page Hopeful v) → (strategy : Strategy) ×
      WinsIn setting set Player.Even strategy v
  pub odd_wins : (v : ℕ) → v < length setting.game → ¬ (IsTopAt setting page Dual v) → (strategy : Strategy) ×
      WinsIn setting set Player.Odd strategy v
  -- and none is both
  pub not_both : (v : ℕ) → v < length setting.game → ¬ (IsTopAt setting page Hopeful v) →
      ¬ (IsTopAt setting page Dual v) → ⊥
  -- each vertex is hopeless or sure: hopeless exactly if Odd wins, sure exactly if Even does
  pub decided : (v : ℕ) → v < length setting.game → IsTopAt setting page Hopeful v ⊎ IsTopAt setting page Dual v
  pub hopeless : (v : ℕ) → v < length setting.game →
      IsTopAt setting page Hopeful v ↔ HasWin (product_game (truth set) setting.game) Player.Odd v
  pub sure : (v : ℕ) → v < length setting.game →
      IsTopAt setting page Dual v ↔ HasWin (product_game (truth set) setting.game) Player.Even v

-- the meaning of a page: its tables are below every progress table, a settled page's are the least, and hopeless and
-- sure name the winner
pub record Tells (setting : Setting) (page : List Entry) : Type 0 where
  pub consistent : ¬ (HasConflict setting (choices_of page))
  pub below : PageIsBelow (family_of setting) page
  -- its tables, which an order has too, are below every progress table of its two games
  pub tables : (known : List Tri) → IsKnownTable setting.lines (choices_of page) known → (which : Which) →
      IsTableBelow (kleene known) which setting.game (table_of which page (length setting.game))
  pub settled : IsSettledPage (family_of setting) page → (which : Which) →
      IsLeastUnder setting (choices_of page) which (table_of which page (length setting.game))
  pub hopeless : (v : ℕ) → v < length setting.game → IsTopAt setting page Hopeful v →
      NeverWins setting page Player.Even v
  pub sure : (v : ℕ) → v < length setting.game → IsTopAt setting page Dual v → NeverWins setting page Player.Odd v
  -- in every product left Odd wins from a hopeless vertex and Even from a sure one, settled or not
  pub lost : (v : ℕ) → v < length setting.game → IsTopAt setting page Hopeful v → AlwaysWins setting page Player.Odd v
  pub won : (v : ℕ) → v < length setting.game → IsTopAt setting page Dual v → AlwaysWins setting page Player.Even v
  -- no vertex is both, with products left or none
  pub not_both : (v : ℕ) → v < length setting.game → IsTopAt setting page Hopeful v → IsTopAt setting page Dual v → ⊥
  pub full : (known : List Tri) → IsKnownTable setting.lines (choices_of page) known →
      AreAllKnown (feature_count setting.lines) known → IsSettledPage (family_of setting) page →
      (set : List Bool) × Determines setting page known set

abbrev pub verdict_of : ℕ → ℕ → Bool → Bool → Event
verdict_of session v hopeless sure = record { session = session; call = Verdict v; reply = VerdictIs hopeless sure }

abbrev pub settled_of : ℕ → Bool → Event
settled_of session b = record { session = session; call = Settled; reply = IsSettled b }

-- The laws of a legal history with lawful harvests only.
pub record Headline (setting : Setting) (history : List Event) : Type 0 where
  -- each accepted undo of serial s leaves the page just before the last accepted decide, retract, reset or redo of s
  pub undo : (front rest : List Event) (session s : ℕ) → history ≡ front ++ undo_of session s ∷ rest →
      (before : List Event) ×
      (IsBeforeLast (gives_undo s) before front ×
      (page_after (family_of setting) (front ++ undo_of session s ∷ []) ≡ page_after (family_of setting) before))
  -- each accepted redo of serial s leaves the page just before the last accepted undo of s
  pub redo : (front rest : List Event) (session s : ℕ) → history ≡ front ++ redo_of session s ∷ rest →
      (before : List Event) ×
      (IsBeforeLast (gives_redo s) before front ×
      (page_after (family_of setting) (front ++ redo_of session s ∷ []) ≡ page_after (family_of setting) before))
  -- the tables and verdicts of the present and of each past and future page mean what they say
  pub pages : EachPage (Tells setting) (book_after (family_of setting) opened history)
  -- so each verdict in a reply is true of the page at that point, and `settled` says whether the page is settled
  pub verdicts : (front rest : List Event) (session v : ℕ) (hopeless sure : Bool) →
      history ≡ front ++ verdict_of session v hopeless sure ∷ rest → v < length setting.game →
      (IsTrue hopeless → NeverWins setting (page_after (family_of setting) front) Player.Even v) ×
      (IsTrue sure → NeverWins setting (page_after (family_of setting) front) Player.Odd v)
  -- and it names the winner in every product left
  pub winners : (front rest : List Event) (session v : ℕ) (hopeless sure : Bool) →
      history ≡ front ++ verdict_of session v hopeless sure ∷ rest → v < length setting.game →
      VerdictMeans setting (page_after (family_of setting) front) v hopeless sure
  pub settled : (front rest : List Event) (session : ℕ) (b : Bool) → history ≡ front ++ settled_of session b ∷ rest →
      Decides b (IsSettledPage (family_of setting) (page_after (family_of setting) front))
  -- settled tables are those of the surviving decisions alone: whatever history led to the same choices, they are equal
  pub alone : (other : List Event) → IsLegal (family_of setting) other →
      AllHandIn (IsLawful (family_of setting)) other →
      AllStand (choices_of (page_after (family_of setting) history))
      (choices_of (page_after (family_of setting) other)) →
      AllStand (choices_of (page_after (family_of setting) other))
      (choices_of (page_after (family_of setting) history)) →
      IsSettledPage (family_of setting) (page_after (family_of setting) history) →
      IsSettledPage (family_of setting) (page_after (family_of setting) other) →
      (which : Which) →
      table_of which (page_after (family_of setting) history) (length setting.game)
      ≡ table_of which (page_after (family_of setting) other) (length setting.game)
  -- and so are the verdicts
  pub same_verdicts : (other : List Event) → IsLegal (family_of setting) other →
      AllHandIn (IsLawful (family_of setting)) other →
      AllStand (choices_of (page_after (family_of setting) history))
      (choices_of (page_after (family_of setting) other)) →
      AllStand (choices_of (page_after (family_of setting) other))
      (choices_of (page_after (family_of setting) history)) →
      IsSettledPage (family_of setting) (page_after (family_of setting) history) →
      IsSettledPage (family_of setting) (page_after (family_of setting) other) →
      (which : Which) (v : ℕ) → v < length setting.game →
      IsTopAt setting (page_after (family_of setting) history) which v ↔
      IsTopAt setting (page_after (family_of setting) other) which v

-- A harvest is lawful if its tables are below every progress table of the two games that its own decisions give.
abbrev pub HarvestsAreLawful : Type 0
HarvestsAreLawful =
    (setting : Setting) (harvest : Harvest) (known : List Tri) → IsSetting setting →
    IsKnownTable setting.lines (map literal_of harvest.decisions) known →
    ((which : Which) → IsTableBelow (kleene known) which setting.game (harvested harvest which)) →
    IsLawful (family_of setting) harvest

-- The headline holds of every legal history with lawful harvests only.
abbrev pub HeadlineHolds : Type 0
HeadlineHolds =
    (setting : Setting) (history : List Event) → IsSetting setting → IsLegal (family_of setting) history →
    AllHandIn (IsLawful (family_of setting)) history → Headline setting history

-- A progress table of more decisions is one of fewer.
abbrev pub FamilyIsMonotone : Type 0
FamilyIsMonotone = (setting : Setting) → IsSetting setting → IsMonotone (family_of setting)
