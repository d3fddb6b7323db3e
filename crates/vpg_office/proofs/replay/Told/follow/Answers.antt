use Rattle.std.specs.Arc.{arc_value}
use Rattle.vpg_desk.specs.State.{setting_of}
use Rattle.vpg_office.specs.Told.{AreVerdictsOf}
use Rattle.vpg_office.proofs.Calling.{then_some}
use Rattle.vpg_office.proofs.Quiet.{alike_before, made_leads, still}
use Rattle.vpg_office.proofs.replay.Told.follow.Goals as goal

pub returns : goal.returns
returns c = λ game diagram old session made size told.
    let new = c.args.desk.now in
    let leads = made_leads made in
    let near = alike_before made told.1 in
    let agree = c.verdicts_stay.ensures c.if-not-verdicts_stay.false old.book c.args.answer.now leads size near in (
      then_some c.args.self.now.verdicts (λ v. AreVerdictsOf old (arc_value v)) (λ v. AreVerdictsOf new (arc_value v)) (λ v are. still made (arc_value v) agree are) told.0,
      c.after-self.ensures (setting_of new) old.book new.book c.args.asked.now leads agree near,
    )
