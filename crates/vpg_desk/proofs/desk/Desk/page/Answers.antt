use Rattle.std.proofs.lemmas.Grind.{common_steps}
use Rattle.std.proofs.Common.{◌∙◌, length, ap, subst, arith}
use Rattle.vpg_game.specs.Game.{graph_of}
use Rattle.vpg_trail.specs.Page.{Hopeful, Dual, decisions_of, table_of}
use Rattle.vpg_desk.specs.Desk.{family_of}
use Rattle.vpg_desk.specs.Headline.{Tells}
use Rattle.vpg_desk.specs.Lawful.{PageIsBelow}
use Rattle.vpg_desk.specs.Setting.{IsSetting}
use Rattle.vpg_desk.specs.State.{DeskState, IsReached, setting_of}
use Rattle.vpg_desk.proofs.Answering.{tells}
use Rattle.vpg_desk.proofs.desk.Desk.page.Goals as goal

pub returns-clause-below : goal.returns-clause-below
returns-clause-below c = subst (λ (s : DeskState). PageIsBelow (family_of (setting_of s)) s.book.present) c.self.view_is (tells c.self.inside c.self.invariant).below

pub returns-clause-tells : goal.returns-clause-tells
returns-clause-tells c = subst (λ (s : DeskState). Tells (setting_of s) s.book.present) c.self.view_is (tells c.self.inside c.self.invariant)

pub returns-clause-setting : goal.returns-clause-setting
returns-clause-setting c = subst (λ (s : DeskState). IsSetting (setting_of s)) c.self.view_is c.self.invariant.opened.is_setting

pub returns-clause-reached : goal.returns-clause-reached
returns-clause-reached c = subst (λ (s : DeskState). IsReached (setting_of s) s.book) c.self.view_is c.self.invariant.reached

pub returns-clause-decisions : goal.returns-clause-decisions
returns-clause-decisions c = c.new.ensures ∙ c.in_ok-decisions.ensures.decisions ∙ ap (λ (s : DeskState). decisions_of s.book.present) c.self.view_is

pub returns-clause-hopeful : goal.returns-clause-hopeful
returns-clause-hopeful c =
    c.in_ok-decisions.ensures.hopeful ∙ ap (table_of Hopeful c.self.inside.trail.entries) c.self.invariant.vertices
    ∙ ap (λ (s : DeskState). table_of Hopeful s.book.present (length (graph_of s.game))) c.self.view_is

pub returns-clause-dual : goal.returns-clause-dual
returns-clause-dual c =
    c.in_ok-decisions.ensures.dual ∙ ap (table_of Dual c.self.inside.trail.entries) c.self.invariant.vertices
    ∙ ap (λ (s : DeskState). table_of Dual s.book.present (length (graph_of s.game))) c.self.view_is

pub returns-clause-reply : goal.returns-clause-reply
returns-clause-reply c = grind (arith, common_steps)
