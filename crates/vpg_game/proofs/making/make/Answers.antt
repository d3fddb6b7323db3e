use Rattle.std.proofs.Common.{arith, ◌≡◌, ℕ, List, map, sym, ap, subst, ◌∙◌}
use Rattle.std.proofs.lemmas.Grind.{common_steps}
use Rattle.vpg_game.specs.Spelled.{SpelledEntry}
use Rattle.vpg_game.specs.Game.{NamedVertex, IsGame, vertex_of, vertex_ids, entry_ids, entry_priorities, priorities_of, top_in, dual_top_in}
use Rattle.vpg_game.proofs.Made.{is_made, same_ids, same_priorities}
use Rattle.vpg_game.proofs.making.make.Goals as goal

pub invariant_of-result : goal.invariant_of-result
invariant_of-result c =
    let es : List SpelledEntry = c.args.entries.items in
    let are : c.in_ok-ids.ids.keys ≡ entry_ids es = c.in_ok-ids.ensures.ok.0 ∙ ap entry_ids c.deref.ensures.value in
    let made = c.in-Ok.ensures in
    let vertices : c.in-Ok.field-0.vertices.items ≡ map (vertex_of (entry_ids es)) es = made.vertices in
    let ps : priorities_of c.in-Ok.field-0.vertices.items ≡ entry_priorities es = ap priorities_of vertices ∙ same_priorities (entry_ids es) es in (
      subst (λ (vs : List NamedVertex). IsGame (record { vertices = vs; features = c.args.features })) (sym vertices) (is_made c.args.features es c.requires made.sound),
      are ∙ sym (ap vertex_ids vertices ∙ same_ids (entry_ids es) es),
      ap (λ (t : ℕ × ℕ). t.0) made.tops ∙ ap top_in (sym ps),
      ap (λ (t : ℕ × ℕ). t.1) made.tops ∙ ap dual_top_in (sym ps),
      made.naming,
    )

pub returns-in-Ok-clause-ok : goal.returns-in-Ok-clause-ok
returns-in-Ok-clause-ok c = grind (arith, common_steps)
