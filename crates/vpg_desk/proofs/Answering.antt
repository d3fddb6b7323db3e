-- What the present page of a desk answers.
use Rattle.std.proofs.Common.{eqb-true, ◌≡◌, ℕ, ◌<◌, ◌==◌, ◌↔◌, Bool, false, List, length, slice_index, None, IsTrue, refl, sym, ◌∙◌, ap, subst}
use Rattle.std.specs.Arc.{arc_value}
use Rattle.std.specs.Bool.{Decides}
use Rattle.std.proofs.lemmas.Bool.{false≢true}
use Rattle.vpg_game.proofs.Graphs.{same_count}
use Rattle.vpg_game.specs.Game.{NamedGame, graph_of}
use Rattle.vpg_sides.specs.declared.player.Player.{Player}
use Rattle.vpg_game.specs.Levels.{top_of}
use Rattle.vpg_game.specs.declared.levels.Level.{Level}
use Rattle.vpg_guards.specs.Formula.{Formula}
use Rattle.vpg_guards.specs.Known.{kleene}
use Rattle.vpg_hope.specs.Games.{Game}
use Rattle.vpg_measure.specs.Lifts.{IsTableOf, IsProgressTable}
use Rattle.vpg_measure.specs.Games.{GamesView, games_levels, games_arena}
use Rattle.vpg_measure.specs.TwoGames.{levels_for, arena_for, top_for, IsProgressOf, IsTableBelow}
use Rattle.vpg_measure.proofs.TwoGames.{progress_earlier}
use Rattle.vpg_trail.specs.Page.{Which, Hopeful, Dual, choices_of, value_at, table_of}
use Rattle.vpg_trail.proofs.PageLemmas.{table_of-at, length-table_of}
use Rattle.vpg_desk.specs.Book.{IsSettledPage, Settled, IsSettled, Verdict, VerdictIs}
use Rattle.vpg_desk.specs.Desk.{family_of, IsProgressUnder}
use Rattle.vpg_desk.specs.DeskFields.{setting_in, book_in, desk_of, IsDesk}
use Rattle.vpg_desk.specs.Headline.{AlwaysWins, NeverWins, Tells}
use Rattle.vpg_desk.specs.State.{DeskState, Replies, setting_of}
use Rattle.vpg_desk.specs.declared.desk.Desk.TheInside.{Inside}
use Rattle.vpg_desk.proofs.Reaching.{reached_tells}
use Rattle.vpg_desk.proofs.Sound.{sound_of}

pub tells : (d : Inside) → IsDesk d → Tells (setting_in d) d.trail.entries
tells d i = (reached_tells (setting_in d) (book_in d) i.opened.is_setting i.reached).present

graph : Inside → NamedGame
graph d = arc_value d.game

module _ (d : Inside) (i : IsDesk d) (which : Which) (levels : List Level) (arena : Game) (values : List ℕ) (levels_are : levels ≡ levels_for which (graph_of (arc_value d.game)))
    (arena_is : arena ≡ arena_for (kleene (arc_value d.games).known) which (graph_of (arc_value d.game))) (values_are : values ≡ table_of which d.trail.entries d.trail.vertices) where
  pub present_table : values ≡ table_of which d.trail.entries (length (graph_of (arc_value d.game)))
  present_table = values_are ∙ ap (table_of which d.trail.entries) i.vertices

  below : IsTableBelow (kleene (arc_value d.games).known) which (graph_of (arc_value d.game)) (table_of which d.trail.entries (length (graph_of (arc_value d.game))))
  below = (tells d i).tables (arc_value d.games).known i.games.known which

  pub table_is : IsTableOf levels arena values
  table_is = coe 0 1 (k. IsTableOf (sym levels_are k) (sym arena_is k) (sym present_table k)) below.is_table

  pub progress_under : IsProgressTable levels arena values → IsProgressUnder (setting_in d) (choices_of d.trail.entries) which (table_of which d.trail.entries (length (graph_of (arc_value d.game))))
  progress_under p = ((arc_value d.games).known, (i.games.known, record { is_table = below.is_table; settled = coe 0 1 (k. IsProgressTable (levels_are k) (arena_is k) (present_table k)) p }))

  pub progress_back : IsProgressUnder (setting_in d) (choices_of d.trail.entries) which (table_of which d.trail.entries (length (graph_of (arc_value d.game)))) → IsProgressTable levels arena values
  progress_back p = coe 0 1 (k. IsProgressTable (sym levels_are k) (sym arena_is k) (sym present_table k)) here.settled
    where
      here : IsProgressOf (kleene (arc_value d.games).known) which (graph_of (arc_value d.game)) (table_of which d.trail.entries (length (graph_of (arc_value d.game))))
      here = progress_earlier Formula (kleene p.0) (kleene (arc_value d.games).known) (graph_of (arc_value d.game)) which _
          ((sound_of (setting_in d) i.opened.is_setting).grows (choices_of d.trail.entries) (choices_of d.trail.entries) (arc_value d.games).known p.0 (λ c s. s) i.games.known p.1.0) p.1.1

  pub value_told : (v top : ℕ) → v < length (arc_value d.game).vertices → top ≡ top_of levels → (v < length values) × ((slice_index values v ≡ value_at which v d.trail.entries) × (top ≡ top_for which (graph_of (arc_value d.game))))
  value_told v top h t =
      let g : v < length (graph_of (arc_value d.game)) = subst (λ (n : ℕ). v < n) (sym (same_count (arc_value d.game))) h in (
        subst (λ (n : ℕ). v < n) (sym (ap length present_table ∙ length-table_of which d.trail.entries (length (graph_of (arc_value d.game))))) g,
        (ap (λ (l : List ℕ). slice_index l v) present_table ∙ table_of-at which d.trail.entries (length (graph_of (arc_value d.game))) v g, t ∙ ap top_of levels_are),
      )

-- ---- settled

pub settled_page : (state : DeskState) (b : Bool) → Decides b (IsSettledPage (family_of (setting_of state)) state.book.present) → Replies state Settled (IsSettled b)
settled_page state b h = (None, (refl, (b, (h, refl))))

-- by its two tables
module _ (state : DeskState) where
  abbrev pub IsSettledTable : Which → Type 0
  IsSettledTable which = IsProgressUnder (setting_of state) (choices_of state.book.present) which (table_of which state.book.present (length (graph_of state.game)))

  pub by_second : (b : Bool) → IsSettledTable Hopeful → (IsTrue b ↔ IsSettledTable Dual) → Decides b (IsSettledPage (family_of (setting_of state)) state.book.present)
  by_second b h e = ((λ t. by_table h (e.0 t)), (λ s. e.1 (s Dual)))
    where
      by_table : IsSettledTable Hopeful → IsSettledTable Dual → (which : Which) → IsSettledTable which
      by_table h d Hopeful = h
      by_table h d Dual = d

  pub by_first : (b : Bool) → b ≡ false → (IsTrue b ↔ IsSettledTable Hopeful) → Decides b (IsSettledPage (family_of (setting_of state)) state.book.present)
  by_first b n e = ((λ t. absurd (false≢true (sym n ∙ t))), (λ s. e.1 (s Hopeful)))

-- one table, by what the desk keeps
module _ (d : Inside) (i : IsDesk d) (which : Which) (read : GamesView) (same : read ≡ arc_value d.games) where
  pub shape_told : (shape : List Level) → shape ≡ games_levels which read → shape ≡ levels_for which (graph_of (arc_value d.game))
  shape_told shape e = e ∙ ap (λ (g : GamesView). games_levels which g) same ∙ i.games.levels which

  pub arena_told : (arena : Game) → arena ≡ games_arena which read → arena ≡ arena_for (kleene (arc_value d.games).known) which (graph_of (arc_value d.game))
  arena_told arena e = e ∙ ap (λ (g : GamesView). games_arena which g) same ∙ i.games.arena which

values_told : (which w : Which) → which ≡ w → (d : Inside) (values : List ℕ) → values ≡ table_of w d.trail.entries d.trail.vertices → values ≡ table_of which d.trail.entries d.trail.vertices
values_told which w is d values e = e ∙ ap (λ (u : Which). table_of u d.trail.entries d.trail.vertices) (sym is)

module _ (d : Inside) (i : IsDesk d) (which w : Which) (is : which ≡ w) (shape : List Level) (arena : Game) (values : List ℕ)
    (levels_are : shape ≡ levels_for which (graph_of (arc_value d.game))) (arena_is : arena ≡ arena_for (kleene (arc_value d.games).known) which (graph_of (arc_value d.game)))
    (values_are : values ≡ table_of w d.trail.entries d.trail.vertices) where
  pub present_is_table : IsTableOf shape arena values
  present_is_table = table_is d i which shape arena values levels_are arena_is (values_told which w is d values values_are)

  pub tells_settled : (state : DeskState) → desk_of d ≡ state → (P : Type 0) → P ↔ IsProgressTable shape arena values → P ↔ IsSettledTable state which
  tells_settled state viewed P told = subst (λ (s : DeskState). P ↔ IsSettledTable s which) viewed (
    (λ t. progress_under d i which shape arena values levels_are arena_is (values_told which w is d values values_are) (told.0 t)),
    (λ p. told.1 (progress_back d i which shape arena values levels_are arena_is (values_told which w is d values values_are) p)),
  )

  pub settled_told : (state : DeskState) → desk_of d ≡ state → (b : Bool) → IsTrue b ↔ IsProgressTable shape arena values → IsTrue b ↔ IsSettledTable state which
  settled_told state viewed b told = tells_settled state viewed (IsTrue b) told

  -- where the table isn't settled the page isn't
  pub not_settled : (state : DeskState) → desk_of d ≡ state → ¬ (IsProgressTable shape arena values) → Replies state Settled (IsSettled false)
  not_settled state viewed unlike = settled_page state false (
    (λ t. absurd (false≢true t)),
    (λ page. absurd (unlike ((tells_settled state viewed (IsProgressTable shape arena values) ((λ p. p), (λ p. p))).1 (page which)))),
  )

-- ---- verdicts

pub verdict_replies : (d : Inside) (v x y s t : ℕ) → x ≡ value_at Hopeful v d.trail.entries → s ≡ top_for Hopeful (graph_of (arc_value d.game)) → y ≡ value_at Dual v d.trail.entries → t ≡ top_for Dual (graph_of (arc_value d.game)) →
    Replies (desk_of d) (Verdict v) (VerdictIs (x == s) (y == t))
verdict_replies d v x y s t p q r u = (None, (refl, λ k. VerdictIs (p k == q k) (r k == u k)))

pub vertex_viewed : (d : Inside) (s : DeskState) (v : ℕ) → desk_of d ≡ s → v < length s.game.vertices → v < length (arc_value d.game).vertices
vertex_viewed d s v e h = subst (λ (t : DeskState). v < length t.game.vertices) (sym e) h

module _ (d : Inside) (i : IsDesk d) where
  pub value_fits : (which : Which) (values : List ℕ) → values ≡ table_of which d.trail.entries d.trail.vertices → (v : ℕ) → v < length (arc_value d.game).vertices → v < length values
  value_fits which values e v h =
      (value_told d i which (levels_for which (graph_of (arc_value d.game))) (arena_for (kleene (arc_value d.games).known) which (graph_of (arc_value d.game))) values refl refl e v
      (top_of (levels_for which (graph_of (arc_value d.game)))) h refl).0

  -- a value of the present page, and the top of its table
  pub table_told : (which : Which) (games : GamesView) (same : games ≡ arc_value d.games) (levels : List Level) → levels ≡ games_levels which games → (values : List ℕ) → values ≡ table_of which d.trail.entries d.trail.vertices →
      (v top : ℕ) → v < length (arc_value d.game).vertices → top ≡ top_of levels →
      (v < length values) × ((slice_index values v ≡ value_at which v d.trail.entries) × (top ≡ top_for which (graph_of (arc_value d.game))))
  table_told which games same levels levels_are values e v top h t =
      value_told d i which levels (arena_for (kleene (arc_value d.games).known) which (graph_of (arc_value d.game))) values
      (levels_are ∙ ap (games_levels which) same ∙ i.games.levels which) refl e v top h t

  inside_graph : (v : ℕ) → v < length (arc_value d.game).vertices → v < length (graph_of (arc_value d.game))
  inside_graph v h = subst (λ (n : ℕ). v < n) (sym (same_count (arc_value d.game))) h

  pub hopeless_told : (v x s : ℕ) → v < length (arc_value d.game).vertices → x ≡ value_at Hopeful v d.trail.entries → s ≡ top_for Hopeful (graph_of (arc_value d.game)) → IsTrue (x == s) → NeverWins (setting_in d) d.trail.entries Player.Even v
  hopeless_told v x s h p q t = (tells d i).hopeless v (inside_graph v h) (sym p ∙ eqb-true x s t ∙ q)

  pub sure_told : (v x s : ℕ) → v < length (arc_value d.game).vertices → x ≡ value_at Dual v d.trail.entries → s ≡ top_for Dual (graph_of (arc_value d.game)) → IsTrue (x == s) → NeverWins (setting_in d) d.trail.entries Player.Odd v
  sure_told v x s h p q t = (tells d i).sure v (inside_graph v h) (sym p ∙ eqb-true x s t ∙ q)

  pub lost_told : (v x s : ℕ) → v < length (arc_value d.game).vertices → x ≡ value_at Hopeful v d.trail.entries → s ≡ top_for Hopeful (graph_of (arc_value d.game)) → IsTrue (x == s) → AlwaysWins (setting_in d) d.trail.entries Player.Odd v
  lost_told v x s h p q t = (tells d i).lost v (inside_graph v h) (sym p ∙ eqb-true x s t ∙ q)

  pub won_told : (v x s : ℕ) → v < length (arc_value d.game).vertices → x ≡ value_at Dual v d.trail.entries → s ≡ top_for Dual (graph_of (arc_value d.game)) → IsTrue (x == s) → AlwaysWins (setting_in d) d.trail.entries Player.Even v
  won_told v x s h p q t = (tells d i).won v (inside_graph v h) (sym p ∙ eqb-true x s t ∙ q)

  pub not_both_told : (v x s y r : ℕ) → v < length (arc_value d.game).vertices → x ≡ value_at Hopeful v d.trail.entries → s ≡ top_for Hopeful (graph_of (arc_value d.game)) →
      y ≡ value_at Dual v d.trail.entries → r ≡ top_for Dual (graph_of (arc_value d.game)) → IsTrue (x == s) × IsTrue (y == r) → ⊥
  not_both_told v x s y r h p q m n t = (tells d i).not_both v (inside_graph v h) (sym p ∙ eqb-true x s t.0 ∙ q) (sym m ∙ eqb-true y r t.1 ∙ n)
