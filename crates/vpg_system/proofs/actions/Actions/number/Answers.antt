use Rattle.std.proofs.Common.{◌≡◌, ◌++◌, map, sym, ap, ap₂, ◌∙◌}
use Rattle.vpg_system.specs.SystemText.{place_with, with_name}
use Rattle.vpg_system.proofs.Names.{place_mapped, with_mapped}
use Rattle.vpg_system.proofs.Steps.{ok_holds, ok_err}
use Rattle.vpg_system.proofs.actions.Actions.number.Goals as goal
use Rattle.vpg_system.proofs.actions.Actions.number.Goals.{in-Ok, in-Err}

pub returns-clause-number : goal.returns-clause-number
returns-clause-number c =
    let copied = c.in_ok-extend_from_slice.ensures.items ∙ ap (λ xs. xs ++ c.args.name.now) c.new-copy.ensures.items in
    elim c.match-insert_full.branch [
      | in-Ok w ↦ ok_holds c.match-insert_full.result w.in-Ok.index (λ i. i ≡ place_with c.args.self.now c.args.name.now) w.result-is
          (w.in-Ok.ensures.index ∙ (sym (place_mapped (λ k. k.items) _ c.self.inside.set.keys) ∙ ap₂ (λ n ns. place_with ns n) copied c.self.view_is))
      | in-Err w ↦ ok_err c.match-insert_full.result _ _ w.result-is
    ]

pub returns-clause-names : goal.returns-clause-names
returns-clause-names c =
    let copied = c.in_ok-extend_from_slice.ensures.items ∙ ap (λ xs. xs ++ c.args.name.now) c.new-copy.ensures.items in
    elim c.match-insert_full.branch [
      | in-Ok w ↦ ok_holds c.match-insert_full.result w.in-Ok.index _ w.result-is
          (ap (λ ks. map (λ k. k.items) ks) w.in-Ok.ensures.keys ∙ (with_mapped (λ k. k.items) c.args.name.now _ c.self.inside.set.keys copied ∙ ap (λ ns. with_name ns c.args.name.now) c.self.view_is))
      | in-Err w ↦ ok_err c.match-insert_full.result _ _ w.result-is
    ]
