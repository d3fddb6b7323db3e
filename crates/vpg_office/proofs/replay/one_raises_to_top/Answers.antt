use Rattle.std.proofs.Common.{ap, sym, ◌∙◌}
use Rattle.std.proofs.lemmas.List.Folds.{list_any_at}
use Rattle.vpg_desk.specs.Desk.{family_of}
use Rattle.vpg_desk.specs.State.{setting_of}
use Rattle.vpg_trail.specs.Shown.{entry_of}
use Rattle.vpg_office.specs.Told.{raises_to_top}
use Rattle.vpg_trail.specs.declared.entry.Entry.{Entry as Written}
use Rattle.vpg_office.proofs.Quiet.{any_not_yet}
use Rattle.vpg_office.proofs.replay.one_raises_to_top.Goals as goal

pub returns-then-raises_to_top : goal.returns-then-raises_to_top
returns-then-raises_to_top c =
    let test = λ (e : Written). raises_to_top (family_of (setting_of c.args.desk.now)) (entry_of e) in
    sym (list_any_at test c.args.entries.now c.loop-entry.entry-index c.entry-item.result c.loop-entry-test.true (ap test (sym c.entry-item.is) ∙ sym c.raises_to_top.ensures ∙ c.if-raises_to_top.true))

pub loop-entry-preserved : goal.loop-entry-preserved
loop-entry-preserved c =
    any_not_yet (λ e. raises_to_top (family_of (setting_of c.args.desk.now)) (entry_of e)) c.args.entries.now c.loop-entry.entry-index c.entry-item.result c.loop-entry-test.true c.entry-item.is c.loop-entry.invariant (sym c.raises_to_top.ensures ∙ c.if-raises_to_top.false)
