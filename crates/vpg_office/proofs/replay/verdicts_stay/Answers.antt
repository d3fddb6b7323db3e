use Rattle.std.proofs.Common.{◌≡◌, false, length, drop, ap, sym, subst, arith, eqb-true}
use Rattle.std.proofs.lemmas.Bool.{not-true}
use Rattle.std.proofs.lemmas.List.{length-map}
use Rattle.std.specs.List.{list_any}
use Rattle.vpg_trail.specs.Shown.{entry_of}
use Rattle.vpg_desk.specs.Desk.{family_of}
use Rattle.vpg_desk.specs.State.{setting_of}
use Rattle.vpg_office.specs.Told.{raises_to_top}
use Rattle.vpg_office.proofs.Agreeing.{appends_else, retract_agrees}
use Rattle.vpg_office.proofs.Quiet.{none_of_last, put_agrees}
use Rattle.vpg_office.proofs.replay.verdicts_stay.Goals as goal

pub returns-in-Retract : goal.returns-in-Retract
returns-in-Retract c = λ t old answer leads size near.
    retract_agrees (family_of (setting_of c.args.desk.now)) old c.args.desk.now.book answer c.in-Retract.is leads
    (omega (arith, eqb-true _ _ t, size, length-map c.entries.result.now entry_of, ap length c.entries.ensures))

pub returns-in_default : goal.returns-in_default
returns-in_default c = λ t old answer leads size near.
    let family = family_of (setting_of c.args.desk.now) in
    let new = c.args.desk.now.book in
    let quiet : list_any (λ e. raises_to_top family (entry_of e)) (drop c.args.before c.entries-in_default.result.now) ≡ false =
    cc (c.one_raises_to_top.ensures, c.split_at.ensures.back, not-true c.one_raises_to_top.result t) in
    put_agrees family old new c.args.asked.now answer (appends_else c.args.asked.now c.in_default.not-Retract c.in_default.not-Reset c.in_default.not-Undo c.in_default.not-Redo) leads
    (subst (λ n. list_any (raises_to_top family) (drop n new.present) ≡ false) (sym size) (none_of_last family c.args.before c.entries-in_default.result.now new.present c.entries-in_default.ensures quiet))
