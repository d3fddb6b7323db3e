use Rattle.std.proofs.Common.{◌≡◌, ◌+◌, ◌∙◌, [], ◌∷◌, ◌++◌, List, sym, ap, map, take, append-nil, Vec, Global}
use Rattle.vpg_trail.specs.Page.{Decision, decisions_of}
use Rattle.vpg_trail.specs.declared.entry.Entry.{Entry}
use Rattle.vpg_trail.specs.Shown.{entry_of}
use Rattle.vpg_trail.proofs.PageLemmas.{decisions_of-append}
use Rattle.vpg_trail.proofs.Places.{read_more}
use Rattle.vpg_trail.proofs.page.decisions_among.Goals as goal
use Rattle.vpg_trail.proofs.page.decisions_among.Goals.{in-Decide+in_ok-push, in_default}

pub loop-entry-preserved : goal.loop-entry-preserved
loop-entry-preserved c =
    let before = map entry_of (take c.loop-entry.entry-index c.args.entries.now) in
    let more : decisions_of (map entry_of (take (c.loop-entry.entry-index + 1) c.args.entries.now)) ≡ decisions_of before ++ decisions_of (entry_of c.entry-item.result ∷ []) =
    ap decisions_of (read_more c.args.entries.now c.loop-entry.entry-index c.entry-item.result c.loop-entry-test.true c.entry-item.is) ∙ decisions_of-append before (entry_of c.entry-item.result ∷ []) in
    elim c.match-entry.branch [
      | in-Decide+in_ok-push w ↦ ap (λ (v : Vec Decision Global). v.items) w.decisions-is ∙ w.in_ok-push.ensures.items ∙ ap (λ (l : List Decision). l ++ w.in-Decide.decision ∷ []) c.loop-entry.invariant
          ∙ sym (more ∙ ap (λ (e : Entry). decisions_of before ++ decisions_of (entry_of e ∷ [])) w.in-Decide.is)
      | in_default w ↦ ap (λ (v : Vec Decision Global). v.items) w.decisions-is ∙ c.loop-entry.invariant
          ∙ sym (more ∙ ap (λ (e : Entry). decisions_of before ++ decisions_of (entry_of e ∷ [])) w.in_default.is ∙ append-nil (decisions_of before))
    ]
