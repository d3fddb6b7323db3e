use Rattle.std.proofs.Common.{◌≡◌, List, length, sym, ap, ◌∙◌, subst}
use Rattle.std.specs.Arc.{arc_value}
use Rattle.vpg_measure.specs.Games.{ArePageGames}
use Rattle.vpg_game.specs.Game.{graph_of}
use Rattle.vpg_trail.specs.Page.{Hopeful, Dual, Entry, table_of, decisions_of, choices_of}
use Rattle.vpg_desk.specs.Book.{opened}
use Rattle.vpg_desk.specs.Desk.{family_of}
use Rattle.vpg_desk.specs.Headline.{Tells as PageTells}
use Rattle.vpg_desk.specs.History.{book_after}
use Rattle.vpg_desk.specs.Lawful.{PageIsBelow}
use Rattle.vpg_desk.specs.State.{setting_of}
use Rattle.vpg_office.specs.Fronts.{family_between}
use Rattle.vpg_office.specs.Made.{IsPage}
use Rattle.vpg_engine.proofs.client.Client.page_with_games.Goals as goal

pub returns-in-Ok : goal.returns-in-Ok
returns-in-Ok g c =
    let desk = c.args.self.now.desk in
    let both = c.in-Ok.both in
    let step = c.in-Ok.ensures.accepted.step in
    let gives = c.in-Ok.ensures.gives in
    let game = sym c.call.ensures.of.0 in
    let diagram = sym c.call.ensures.of.1 in
    let book : book_after (family_between g.L.Terms.game g.L.Terms.diagram) opened gives.0 ≡ desk.book =
    (λ k. book_after (family_between ((game ∙ sym step.game) k) ((diagram ∙ sym step.diagram) k)) opened gives.0) ∙ gives.1.1.0.leaves ∙ step.step.1 in
    let page : IsPage desk.game desk.diagram desk.book both.0.entries both.0.decisions both.0.hopeful both.0.dual (arc_value both.1) =
    coe 0 1 (k. IsPage (game k) (diagram k) (book k) both.0.entries both.0.decisions both.0.hopeful both.0.dual (arc_value both.1)) gives.1.1.1 in
    record {
      accepted = c.in-Ok.ensures.accepted;
      game = c.call.ensures.game;
      diagram = c.call.ensures.diagram;
      shown = page;
      decisions = page.decided ∙ ap decisions_of page.present;
      hopeful = page.hopeful_is ∙ ap (λ (p : List Entry). table_of Hopeful p (length (graph_of desk.game))) page.present;
      dual = page.dual_is ∙ ap (λ (p : List Entry). table_of Dual p (length (graph_of desk.game))) page.present;
      games = subst (λ (p : List Entry). ArePageGames desk.game desk.diagram (choices_of p) (arc_value both.1)) page.present page.are_games;
      below = subst (λ (p : List Entry). PageIsBelow (family_of (setting_of desk)) p) page.present page.below;
      tells = subst (λ (p : List Entry). PageTells (setting_of desk) p) page.present page.tells;
      setting = page.is_setting;
      reached = page.reached;
      fault = tt;
      astray = tt;
    }
