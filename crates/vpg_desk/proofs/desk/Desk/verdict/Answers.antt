use Rattle.std.proofs.Common.{◌≡◌, ◌∙◌, ◌==◌, subst}
use Rattle.std.specs.Arc.{arc_value}
use Rattle.vpg_game.specs.Game.{graph_of}
use Rattle.vpg_sides.specs.declared.player.Player.{Player}
use Rattle.vpg_measure.specs.TwoGames.{top_for}
use Rattle.vpg_trail.specs.Page.{Hopeful, Dual, value_at}
use Rattle.vpg_desk.specs.Book.{Verdict, VerdictIs, IsReply}
use Rattle.vpg_desk.specs.Desk.{family_of}
use Rattle.vpg_desk.specs.Headline.{AlwaysWins, NeverWins}
use Rattle.vpg_desk.specs.State.{DeskState, setting_of}
use Rattle.vpg_desk.proofs.Answering.{verdict_replies, hopeless_told, sure_told, lost_told, won_told, not_both_told, table_told, value_fits, vertex_viewed}
use Rattle.vpg_desk.proofs.desk.Desk.verdict.Goals as goal
use Rattle.vpg_desk.proofs.desk.Desk.verdict.Goals.{After-hopeful, After-dual, After-top-2}

pub get-requires : goal.get-requires
get-requires c = (value_fits c.self.inside c.self.invariant Hopeful c.hopeful.result.now c.hopeful.ensures c.args.v (vertex_viewed c.self.inside c.args.self.now c.args.v c.self.view_is c.requires))

pub get-requires-2 : goal.get-requires-2
get-requires-2 c = (value_fits c.self.inside c.self.invariant Dual c.dual.result.now c.dual.ensures c.args.v (vertex_viewed c.self.inside c.args.self.now c.args.v c.self.view_is c.requires))

first : (c : After-top-2) → (c.get.result ≡ value_at Hopeful c.args.v c.self.inside.trail.entries) × (c.top.result ≡ top_for Hopeful (graph_of (arc_value c.self.inside.game)))
first c =
    let t = table_told c.self.inside c.self.invariant Hopeful c.deref.result.now c.deref.ensures c.shape.result.now c.shape.ensures c.hopeful.result.now c.hopeful.ensures c.args.v c.top.result (vertex_viewed c.self.inside c.args.self.now c.args.v c.self.view_is c.requires) c.top.ensures.top in
    (c.get.ensures ∙ t.1.0, t.1.1)

second : (c : After-top-2) → (c.get-2.result ≡ value_at Dual c.args.v c.self.inside.trail.entries) × (c.top-2.result ≡ top_for Dual (graph_of (arc_value c.self.inside.game)))
second c =
    let t = table_told c.self.inside c.self.invariant Dual c.deref-2.result.now c.deref-2.ensures c.shape-2.result.now c.shape-2.ensures c.dual.result.now c.dual.ensures c.args.v c.top-2.result (vertex_viewed c.self.inside c.args.self.now c.args.v c.self.view_is c.requires) c.top-2.ensures.top in
    (c.get-2.ensures ∙ t.1.0, t.1.1)

pub returns-clause-reply : goal.returns-clause-reply
returns-clause-reply c =
    subst (λ (s : DeskState). IsReply (family_of (setting_of s)) s.book (Verdict c.args.v) (VerdictIs (c.get.result == c.top.result) (c.get-2.result == c.top-2.result))) c.self.view_is
    (verdict_replies c.self.inside c.args.v c.get.result c.get-2.result c.top.result c.top-2.result (first c).0 (first c).1 (second c).0 (second c).1)

pub returns-clause-hopeless : goal.returns-clause-hopeless
returns-clause-hopeless c t =
    subst (λ (s : DeskState). NeverWins (setting_of s) s.book.present Player.Even c.args.v) c.self.view_is
    (hopeless_told c.self.inside c.self.invariant c.args.v c.get.result c.top.result (vertex_viewed c.self.inside c.args.self.now c.args.v c.self.view_is c.requires) (first c).0 (first c).1 t)

pub returns-clause-sure : goal.returns-clause-sure
returns-clause-sure c t =
    subst (λ (s : DeskState). NeverWins (setting_of s) s.book.present Player.Odd c.args.v) c.self.view_is
    (sure_told c.self.inside c.self.invariant c.args.v c.get-2.result c.top-2.result (vertex_viewed c.self.inside c.args.self.now c.args.v c.self.view_is c.requires) (second c).0 (second c).1 t)

pub returns-clause-lost : goal.returns-clause-lost
returns-clause-lost c t =
    subst (λ (s : DeskState). AlwaysWins (setting_of s) s.book.present Player.Odd c.args.v) c.self.view_is
    (lost_told c.self.inside c.self.invariant c.args.v c.get.result c.top.result (vertex_viewed c.self.inside c.args.self.now c.args.v c.self.view_is c.requires) (first c).0 (first c).1 t)

pub returns-clause-won : goal.returns-clause-won
returns-clause-won c t =
    subst (λ (s : DeskState). AlwaysWins (setting_of s) s.book.present Player.Even c.args.v) c.self.view_is
    (won_told c.self.inside c.self.invariant c.args.v c.get-2.result c.top-2.result (vertex_viewed c.self.inside c.args.self.now c.args.v c.self.view_is c.requires) (second c).0 (second c).1 t)

pub returns-clause-not_both : goal.returns-clause-not_both
returns-clause-not_both c t =
    not_both_told c.self.inside c.self.invariant c.args.v c.get.result c.top.result c.get-2.result c.top-2.result
    (vertex_viewed c.self.inside c.args.self.now c.args.v c.self.view_is c.requires) (first c).0 (first c).1 (second c).0 (second c).1 t
