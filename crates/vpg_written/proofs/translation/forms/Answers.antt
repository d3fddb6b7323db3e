use Rattle.std.proofs.Common.{◌≤◌, List, length, refl, arith}
use Rattle.vpg_parts.specs.declared.symbol.Symbol.{Symbol}
use Rattle.vpg_written.proofs.Whole.{no_forms, forms_more, more_holds}
use Rattle.std.proofs.lemmas.Grind.{common_steps}
use Rattle.vpg_written.proofs.translation.forms.Goals as goal

pub loop-entry-init : goal.loop-entry-init
loop-entry-init c = record { spelled = λ g terms. no_forms g _ c.new-forms.ensures.items; short = grind (arith, common_steps) }

pub loop-entry-preserved : goal.loop-entry-preserved
loop-entry-preserved c = record {
  spelled = λ g terms. forms_more g c.loop-entry.entry c.loop-entry.forms.items c.add.new.forms.items c.in-Ok.form (c.loop-entry.invariant.spelled g terms) (c.in-Ok.ensures.spelled g _ terms refl) c.in_ok-add-in-Ok.ensures;
  short = more_holds (λ (ss : List Symbol). length ss ≤ 65536) c.loop-entry.forms.items c.add.new.forms.items c.in-Ok.form c.loop-entry.invariant.short c.in-Ok.ensures.short c.in_ok-add-in-Ok.ensures;
}
