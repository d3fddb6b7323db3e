use Rattle.std.proofs.Common.{arith}
use Rattle.vpg_desk.specs.Desk.{family_of}
use Rattle.vpg_office.proofs.Agreeing.{changed_alike, kept_alike, redone_alike, undone_alike}
use Rattle.vpg_office.proofs.alike.Alike.after.Goals as goal

pub returns-in-Changed : goal.returns-in-Changed
returns-in-Changed c = λ setting old new asked leads agree near.
    changed_alike (family_of setting) old new asked c.args.answer.now leads c.args.self near agree c.in-Changed.is c.saturating_add.result (omega (arith, c.saturating_add.ensures))

pub returns-in-Undone : goal.returns-in-Undone
returns-in-Undone c = λ setting old new asked leads agree near.
    undone_alike (family_of setting) old new asked c.args.answer.now leads c.args.self near agree c.in-Undone.is c.saturating_sub.result c.saturating_add-in-Undone.result
    (omega (arith, c.saturating_sub.ensures)) (omega (arith, c.saturating_add-in-Undone.ensures))

pub returns-in-Redone : goal.returns-in-Redone
returns-in-Redone c = λ setting old new asked leads agree near.
    redone_alike (family_of setting) old new asked c.args.answer.now leads c.args.self near agree c.in-Redone.is c.saturating_add-in-Redone.result c.saturating_sub-in-Redone.result
    (omega (arith, c.saturating_add-in-Redone.ensures)) (omega (arith, c.saturating_sub-in-Redone.ensures))

pub returns-in_default : goal.returns-in_default
returns-in_default c = λ setting old new asked leads agree near.
    kept_alike (family_of setting) old new asked c.args.answer.now leads c.args.self near agree c.in_default.not-Changed c.in_default.not-Undone c.in_default.not-Redone
