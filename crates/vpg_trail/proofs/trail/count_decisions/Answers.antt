use Rattle.std.proofs.Common.{◌≡◌, ◌+◌, ◌∙◌, [], ◌∷◌, ap, arith, length, length-append, map, take}
use Rattle.vpg_trail.specs.Page.{decisions_of}
use Rattle.vpg_trail.specs.declared.entry.Entry.{Entry}
use Rattle.vpg_trail.specs.Shown.{entry_of}
use Rattle.vpg_trail.proofs.PageLemmas.{decisions_of-append}
use Rattle.vpg_trail.proofs.Places.{read_more}
use Rattle.vpg_trail.proofs.trail.count_decisions.Goals as goal
use Rattle.vpg_trail.proofs.trail.count_decisions.Goals.{in-Decide, in_default}

pub loop-entry-preserved : goal.loop-entry-preserved
loop-entry-preserved c =
    let before = map entry_of (take c.loop-entry.entry-index c.args.entries.now) in
    let more : length (decisions_of (map entry_of (take (c.loop-entry.entry-index + 1) c.args.entries.now))) ≡ length (decisions_of before) + length (decisions_of (entry_of c.entry-item.result ∷ [])) =
    ap length (ap decisions_of (read_more c.args.entries.now c.loop-entry.entry-index c.entry-item.result c.loop-entry-test.true c.entry-item.is) ∙ decisions_of-append before (entry_of c.entry-item.result ∷ [])) ∙ length-append (decisions_of before) (decisions_of (entry_of c.entry-item.result ∷ [])) in
    elim c.match-entry.branch [
      | in-Decide w ↦ record {
        count = omega (arith, w.count-is, c.loop-entry.invariant.count, more, ap (λ (e : Entry). length (decisions_of (entry_of e ∷ []))) w.in-Decide.is);
        few = omega (arith, w.count-is, c.loop-entry.invariant.few);
      }
      | in_default w ↦ record {
        count = omega (arith, w.count-is, c.loop-entry.invariant.count, more, ap (λ (e : Entry). length (decisions_of (entry_of e ∷ []))) w.in_default.is);
        few = omega (arith, w.count-is, c.loop-entry.invariant.few);
      }
    ]
