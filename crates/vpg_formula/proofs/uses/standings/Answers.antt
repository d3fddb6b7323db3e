use Rattle.std.proofs.Common.{◌-◌, ◌≤◌, take, length, sym, ◌∙◌, ap, arith}
use Rattle.std.proofs.lemmas.Grind.{common_steps}
use Rattle.vpg_formula.specs.declared.mark.Mark.{Mark}
use Rattle.vpg_formula.specs.EntryReading.{Visit, visit, step}
use Rattle.vpg_formula.specs.EntryCode.{visit_of, earlier_of}
use Rattle.vpg_formula.proofs.EntryCode.{visit_last}
use Rattle.vpg_formula.proofs.uses.standings.Goals as goal

pub loop-rest-preserved : goal.loop-rest-preserved
loop-rest-preserved c =
    let earlier = earlier_of c.args.entries.now in
    let rest = c.loop-rest.rest.now in
    let front = take (length rest - 1) rest in
    let before = visit_of c.loop-rest.visit in
    let short : length front ≤ length c.args.marks.now = grind (arith, common_steps, c.loop-rest.invariant.within) in
    record {
      within = short;
      visits = c.loop-rest.invariant.visits ∙ ap (λ (v : Visit). v.1) (visit_last earlier rest c.last-item.result before c.in-len1-up.len_at_least
          ∙ ap (λ (m : Mark). visit earlier front (step earlier m before)) (sym c.last-item.is)
          ∙ ap (visit earlier front) (sym c.in_ok-step.ensures));
    }
