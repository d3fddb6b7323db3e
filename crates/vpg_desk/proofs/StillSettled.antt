-- A decision more leaves both tables as they were; whether they are still progress tables.
use Rattle.std.proofs.Common.{◌≡◌, ℕ, zero, suc, ◌∷◌, ◌++◌, [], List, ap, ap₂, length, IsTrue, refl, sym, ◌∙◌, subst, arith}
use Rattle.std.specs.Arc.{arc_value}
use Rattle.vpg_game.specs.Game.{graph_of}
use Rattle.vpg_guards.specs.Known.{kleene}
use Rattle.vpg_measure.specs.Games.{GamesView, AreGamesOf, ArePageGames}
use Rattle.vpg_measure.specs.Still.{AreGamesOver, AreBothProgress}
use Rattle.vpg_measure.specs.TwoGames.{levels_for, arena_for, IsProgressOf}
use Rattle.vpg_trail.specs.Page.{Which, Hopeful, Dual, Decision, Entry, Decided, choices_of, value_at, table_of}
use Rattle.vpg_trail.proofs.PageLemmas.{value_at-append}
use Rattle.vpg_desk.specs.Book.{IsSettledPage}
use Rattle.vpg_desk.specs.Desk.{family_of}
use Rattle.vpg_desk.specs.DeskFields.{setting_in, IsDesk}
use Rattle.vpg_desk.specs.declared.desk.Desk.TheInside.{Inside}
use Rattle.vpg_desk.proofs.Answering.{table_is, progress_back}

table_decided : (which : Which) (page : List Entry) (made : Decision) (n : ℕ) → table_of which (page ++ Decided made ∷ []) n ≡ table_of which page n
table_decided which page made zero = refl
table_decided which page made (suc n) =
    let same : value_at which n (page ++ Decided made ∷ []) ≡ value_at which n page = omega (arith, value_at-append which n page (Decided made ∷ [])) in
    ap₂ (λ (t : List ℕ) (x : ℕ). t ++ x ∷ []) (table_decided which page made n) same

module _ (d : Inside) (i : IsDesk d) where
  -- other games of the desk's game
  pub games_over : (games : GamesView) → AreGamesOf (arc_value d.game) (arc_value d.diagram) games → AreGamesOver (arc_value d.game) games
  games_over games are = record { diagram = arc_value d.diagram; features = i.opened.features; are = are }

  progress_of : (which : Which) (values : List ℕ) → values ≡ table_of which d.trail.entries d.trail.vertices → IsSettledPage (family_of (setting_in d)) d.trail.entries →
      IsProgressOf (kleene (arc_value d.games).known) which (graph_of (arc_value d.game)) values
  progress_of which values e settled = record {
    is_table = table_is d i which (levels_for which (graph_of (arc_value d.game))) (arena_for (kleene (arc_value d.games).known) which (graph_of (arc_value d.game))) values refl refl e;
    settled = progress_back d i which (levels_for which (graph_of (arc_value d.game))) (arena_for (kleene (arc_value d.games).known) which (graph_of (arc_value d.game))) values refl refl e (settled which);
  }

  -- the present tables, where the page is known to be settled
  pub both_of : (hopeful dual : List ℕ) → hopeful ≡ table_of Hopeful d.trail.entries d.trail.vertices → dual ≡ table_of Dual d.trail.entries d.trail.vertices → IsTrue d.is_noted →
      AreBothProgress (kleene (arc_value d.games).known) (graph_of (arc_value d.game)) hopeful dual
  both_of hopeful dual h e noted = record { hopeful = progress_of Hopeful hopeful h (i.noted.present noted); dual = progress_of Dual dual e (i.noted.present noted) }

  -- as the present page's own
  pub present_of : (games : GamesView) (hopeful dual : List ℕ) → hopeful ≡ table_of Hopeful d.trail.entries d.trail.vertices → dual ≡ table_of Dual d.trail.entries d.trail.vertices →
      AreBothProgress (kleene games.known) (graph_of (arc_value d.game)) hopeful dual →
      (which : Which) → IsProgressOf (kleene games.known) which (graph_of (arc_value d.game)) (table_of which d.trail.entries (length (graph_of (arc_value d.game))))
  present_of games hopeful dual h e both Hopeful = subst (IsProgressOf (kleene games.known) Hopeful (graph_of (arc_value d.game))) (h ∙ ap (table_of Hopeful d.trail.entries) i.vertices) both.hopeful
  present_of games hopeful dual h e both Dual = subst (IsProgressOf (kleene games.known) Dual (graph_of (arc_value d.game))) (e ∙ ap (table_of Dual d.trail.entries) i.vertices) both.dual

  -- where they are so under the games that a decision more makes, the page with it is settled
  pub settled_with : (games : GamesView) (made : Decision) → ArePageGames (arc_value d.game) (arc_value d.diagram) (choices_of (d.trail.entries ++ Decided made ∷ [])) games →
      ((which : Which) → IsProgressOf (kleene games.known) which (graph_of (arc_value d.game)) (table_of which d.trail.entries (length (graph_of (arc_value d.game))))) →
      IsSettledPage (family_of (setting_in d)) (d.trail.entries ++ Decided made ∷ [])
  settled_with games made are both which =
      (games.known, (are.known, subst (IsProgressOf (kleene games.known) which (graph_of (arc_value d.game))) (sym (table_decided which d.trail.entries made (length (graph_of (arc_value d.game))))) (both which)))
