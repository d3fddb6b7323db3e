use Rattle.std.proofs.Common.{◌≡◌, ◌∙◌, None, length, map, refl, sym, ap, subst}
use Rattle.vpg_game.specs.Game.{graph_of}
use Rattle.vpg_measure.specs.Games.{ArePageGames}
use Rattle.vpg_measure.specs.Orders.{OrderView, IsOrder}
use Rattle.vpg_trail.specs.Page.{Hopeful, Dual, literal_of, decisions_of, choices_of, table_of}
use Rattle.vpg_desk.specs.Book.{Ordered}
use Rattle.vpg_desk.specs.State.{DeskState}
use Rattle.vpg_desk.proofs.Ordered.{named_told, opening_told, order_settled}
use Rattle.vpg_desk.proofs.Shared.{features_at}
use Rattle.vpg_desk.proofs.desk.Desk.order.Goals as goal
use Rattle.vpg_desk.proofs.desk.Desk.order.Goals.{In_ok-decisions}

choices : (c : In_ok-decisions) → map literal_of c.in_ok-decisions.decisions.items ≡ choices_of c.self.inside.trail.entries
choices c = ap (map literal_of) c.in_ok-decisions.ensures.decisions

pub over-requires-clause-named : goal.over-requires-clause-named
over-requires-clause-named c =
    named_told c.self.inside c.self.invariant _ _ _ c.in_ok-game.ensures.game c.in_ok-game.ensures.diagram (choices (goal.at.over-requires-clause-named c).In_ok-decisions)

pub over-requires-clause-hopeful : goal.over-requires-clause-hopeful
over-requires-clause-hopeful c =
    opening_told c.self.inside c.self.invariant _ _ _ c.in_ok-game.ensures.game c.in_ok-game.ensures.diagram (choices (goal.at.over-requires-clause-hopeful c).In_ok-decisions)
    Hopeful c.in_ok-decisions.hopeful c.in_ok-decisions.ensures.hopeful

pub over-requires-clause-dual : goal.over-requires-clause-dual
over-requires-clause-dual c =
    opening_told c.self.inside c.self.invariant _ _ _ c.in_ok-game.ensures.game c.in_ok-game.ensures.diagram (choices (goal.at.over-requires-clause-dual c).In_ok-decisions)
    Dual c.in_ok-decisions.dual c.in_ok-decisions.ensures.dual

pub with_note-requires : goal.with_note-requires
with_note-requires c noted =
    order_settled c.self.inside c.self.invariant c.in_ok-order.order c.in_ok-order.ensures.order
    (c.in_ok-order.ensures.game ∙ c.in_ok-game.ensures.game) (c.in_ok-order.ensures.diagram ∙ c.in_ok-game.ensures.diagram)
    (ap (map literal_of) c.in_ok-order.ensures.decisions ∙ choices (goal.at.with_note-requires c).In_ok-decisions)
    (c.in_ok-order.ensures.hopeful ∙ c.in_ok-decisions.ensures.hopeful) (c.in_ok-order.ensures.dual ∙ c.in_ok-decisions.ensures.dual)
    (c.self.invariant.noted.present noted)

pub over-requires-clause-features : goal.over-requires-clause-features
over-requires-clause-features c = features_at c.self.inside c.self.invariant _ _ c.in_ok-game.ensures.game c.in_ok-game.ensures.diagram

pub over-requires-clause-games : goal.over-requires-clause-games
over-requires-clause-games c =
    coe 1 0 (k. ArePageGames (c.in_ok-game.ensures.game k) (c.in_ok-game.ensures.diagram k) (choices (goal.at.over-requires-clause-games c).In_ok-decisions k) (c.in_ok-game.ensures.games k)) c.self.invariant.games

pub returns-clause-game : goal.returns-clause-game
returns-clause-game c = ap (λ (o : OrderView). o.game) c.with_note.ensures ∙ c.in_ok-order.ensures.game ∙ c.in_ok-game.ensures.game ∙ ap (λ (s : DeskState). s.game) c.self.view_is

pub returns-clause-diagram : goal.returns-clause-diagram
returns-clause-diagram c = ap (λ (o : OrderView). o.diagram) c.with_note.ensures ∙ c.in_ok-order.ensures.diagram ∙ c.in_ok-game.ensures.diagram ∙ ap (λ (s : DeskState). s.diagram) c.self.view_is

pub returns-clause-decisions : goal.returns-clause-decisions
returns-clause-decisions c =
    ap (λ (o : OrderView). o.decisions) c.with_note.ensures ∙ c.in_ok-order.ensures.decisions ∙ c.in_ok-decisions.ensures.decisions
    ∙ ap (λ (s : DeskState). decisions_of s.book.present) c.self.view_is

pub returns-clause-hopeful : goal.returns-clause-hopeful
returns-clause-hopeful c =
    ap (λ (o : OrderView). o.hopeful) c.with_note.ensures ∙ c.in_ok-order.ensures.hopeful ∙ c.in_ok-decisions.ensures.hopeful ∙ ap (table_of Hopeful c.self.inside.trail.entries) c.self.invariant.vertices
    ∙ ap (λ (s : DeskState). table_of Hopeful s.book.present (length (graph_of s.game))) c.self.view_is

pub returns-clause-dual : goal.returns-clause-dual
returns-clause-dual c =
    ap (λ (o : OrderView). o.dual) c.with_note.ensures ∙ c.in_ok-order.ensures.dual ∙ c.in_ok-decisions.ensures.dual ∙ ap (table_of Dual c.self.inside.trail.entries) c.self.invariant.vertices
    ∙ ap (λ (s : DeskState). table_of Dual s.book.present (length (graph_of s.game))) c.self.view_is

pub returns-clause-order : goal.returns-clause-order
returns-clause-order c = subst IsOrder (sym c.with_note.ensures) c.in_ok-order.ensures.order

pub returns-clause-reply : goal.returns-clause-reply
returns-clause-reply c = (None, (refl, λ k. Ordered (returns-clause-decisions c k) (returns-clause-hopeful c k) (returns-clause-dual c k)))
