use Rattle.std.proofs.Common.{◌≡◌, ◌∙◌, ◌++◌, ◌∷◌, [], List, ap, map, take}
use Rattle.vpg_trail.specs.Page.{Decision, decisions_of}
use Rattle.vpg_trail.specs.declared.entry.Entry.{Entry}
use Rattle.vpg_trail.specs.Shown.{entry_of}
use Rattle.vpg_trail.proofs.PageLemmas.{decisions_of-append}
use Rattle.vpg_trail.proofs.Places.{read_more}
use Rattle.vpg_trail.proofs.page.first_decision.Goals as goal

pub loop-i-preserved : goal.loop-i-preserved
loop-i-preserved c =
    let read = c.index-entries-i.result in
    ap decisions_of (read_more c.args.entries.now c.loop-i.i read c.loop-i-test.true c.index-entries-i.is)
    ∙ decisions_of-append (map entry_of (take c.loop-i.i c.args.entries.now)) (entry_of read ∷ [])
    ∙ ap (λ (l : List Decision). l ++ decisions_of (entry_of c.index-entries-i.result ∷ [])) c.loop-i.invariant
    ∙ ap (λ (e : Entry). decisions_of (entry_of e ∷ [])) c.in_default.is
