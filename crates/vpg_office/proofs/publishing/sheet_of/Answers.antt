use Rattle.std.proofs.Common.{sym, ◌∙◌, subst}
use Rattle.std.specs.Arc.{arc_value}
use Rattle.vpg_watch.specs.Rule.{Belongs}
use Rattle.vpg_desk.specs.State.{DeskState}
use Rattle.vpg_office.specs.Sheets.{IsSheetOf}
use Rattle.vpg_office.specs.Told.{AreVerdictsOf}
use Rattle.vpg_office.proofs.Sheets.{sheet_is}
use Rattle.vpg_office.proofs.publishing.sheet_of.Goals as goal

pub returns-clause-belongs : goal.returns-clause-belongs
returns-clause-belongs g c =
    let game = g.L.Terms.game in
    let diagram = g.L.Terms.diagram in
    let verdicts = arc_value c.in_ok-verdicts.verdicts in
    let are : AreVerdictsOf c.args.desk.now verdicts = subst (λ (s : DeskState). AreVerdictsOf s verdicts) c.settled-settled.ensures.same c.in_ok-verdicts.ensures.are in
    subst (Belongs (IsSheetOf game diagram)) (sym (c.in_ok-new.ensures.ok ∙ c.of-sheet.ensures))
    (sheet_is game diagram c.args.desk.now c.args.front c.settled-settled.result verdicts c.requires.opens.is_setting c.requires.of.0 c.requires.of.1 c.requires.replay c.len-calls.ensures.history c.settled-settled.ensures.reply are.size are.each)

pub returns-clause-front : goal.returns-clause-front
returns-clause-front g c = λ k. ((c.in_ok-new.ensures.ok ∙ c.of-sheet.ensures) k).front
