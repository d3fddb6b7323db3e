use Rattle.std.proofs.Common.{sym, ap, ◌∙◌, arith, Some}
use Rattle.std.proofs.lemmas.Grind.{common_steps}
use Rattle.std.proofs.lemmas.Result.{err_from_is_err_and}
use Rattle.vpg_guards.specs.Reading.{◌>>=◌, after_sign}
use Rattle.vpg_sides.specs.declared.player.Player.{Player}
use Rattle.vpg_game.specs.Reading.{after_name, ended_entry}
use Rattle.vpg_game.proofs.Steps.{fails_within, fails_from, bind_is, within_some, behind_id, behind_priority, behind_owner, entry_end, entry_is, entry_has_id, entry_has_priority, entry_has_owner, entry_has_successors}
use Rattle.vpg_game.proofs.reading.entry.Goals as goal

pub returns-in_err-id-clause-gives : goal.returns-in_err-id-clause-gives
returns-in_err-id-clause-gives c =
    let p = err_from_is_err_and c.from_residual.result c.from_residual.ensures.1 in
    rw (p.1, p.2) (fails_within c.args.room c.in_err-id.field-0.0 _ (fails_from c.in_err-id.field-0.0 _ _ (behind_id c.args.names.now c.args.left) (entry_is c.args.names.now c.args.left c.args.text.now) c.in_err-id.ensures.gives))

pub returns-in_err-priority-clause-gives : goal.returns-in_err-priority-clause-gives
returns-in_err-priority-clause-gives c =
    let p = err_from_is_err_and c.from_residual-in_err-priority.result c.from_residual-in_err-priority.ensures.1 in
    let is = entry_has_id c.args.names.now c.args.left c.args.text.now _ _ c.in_ok-id.ensures.gives in
    rw (p.1, p.2) (fails_within c.args.room c.in_err-priority.field-0.0 _ (fails_from c.in_err-priority.field-0.0 _ _ (behind_priority c.args.names.now c.args.left c.in_ok-id.id) is c.in_err-priority.ensures.gives))

pub returns-in_err-owner-clause-gives : goal.returns-in_err-owner-clause-gives
returns-in_err-owner-clause-gives c =
    let p = err_from_is_err_and c.from_residual-in_err-owner.result c.from_residual-in_err-owner.ensures.1 in
    let is = entry_has_priority c.args.names.now c.args.left c.args.text.now _ _ _ _ c.in_ok-id.ensures.gives c.in_ok-priority.ensures.gives in
    rw (p.1, p.2) (fails_within c.args.room c.in_err-owner.field-0.0 _ (fails_from c.in_err-owner.field-0.0 _ _ (behind_owner c.args.names.now c.args.left c.in_ok-id.id c.in_ok-priority.priority) is c.in_err-owner.ensures.gives))

pub returns-in_err-successors-clause-gives : goal.returns-in_err-successors-clause-gives
returns-in_err-successors-clause-gives c =
    let p = err_from_is_err_and c.from_residual-in_err-successors.result c.from_residual-in_err-successors.ensures.1 in
    let is = entry_has_owner c.args.names.now c.args.left c.args.text.now _ _ _ _ _ _ c.in_ok-id.ensures.gives c.in_ok-priority.ensures.gives c.in_ok-owner.ensures.gives in
    rw (p.1, p.2) (fails_within c.args.room c.in_err-successors.field-0.0 _ (fails_from c.in_err-successors.field-0.0 _ _ (λ s. ended_entry c.in_ok-id.id c.in_ok-priority.priority c.in_ok-owner.owner s.0 s.1) is c.in_err-successors.ensures.gives))

pub returns-in_err-before_end-clause-gives : goal.returns-in_err-before_end-clause-gives
returns-in_err-before_end-clause-gives c =
    let p = err_from_is_err_and c.from_residual-in_err-before_end.result c.from_residual-in_err-before_end.ensures.1 in
    let is = entry_has_successors c.args.names.now c.args.left c.args.text.now _ _ _ _ _ _ _ _ c.in_ok-id.ensures.gives c.in_ok-priority.ensures.gives c.in_ok-owner.ensures.gives c.in_ok-successors.ensures.gives in
    rw (p.1, p.2) (fails_within c.args.room c.in_err-before_end.field-0.0 _ (fails_from c.in_err-before_end.field-0.0 _ _ (λ x. after_sign 59 x >>= entry_end c.in_ok-id.id c.in_ok-priority.priority c.in_ok-owner.owner c.in_ok-successors.successors.items) is c.in_err-before_end.ensures.gives))

pub returns-in_err-rest-clause-gives : goal.returns-in_err-rest-clause-gives
returns-in_err-rest-clause-gives c =
    let p = err_from_is_err_and c.from_residual-in_err-rest.result c.from_residual-in_err-rest.ensures.1 in
    let end = entry_end c.in_ok-id.id c.in_ok-priority.priority c.in_ok-owner.owner c.in_ok-successors.successors.items in
    let is = entry_has_successors c.args.names.now c.args.left c.args.text.now _ _ _ _ _ _ _ _ c.in_ok-id.ensures.gives c.in_ok-priority.ensures.gives c.in_ok-owner.ensures.gives c.in_ok-successors.ensures.gives
    ∙ bind_is (after_name c.in_ok-successors.behind_all.now) (λ x. after_sign 59 x >>= end) _ c.in_ok-before_end.ensures.gives in
    rw (p.1, p.2) (fails_within c.args.room c.in_err-rest.field-0.0 _ (fails_from c.in_err-rest.field-0.0 _ _ end is c.in_err-rest.ensures.gives))

pub returns-clause-gives : goal.returns-clause-gives
returns-clause-gives c =
    let end = entry_end c.in_ok-id.id c.in_ok-priority.priority c.in_ok-owner.owner c.in_ok-successors.successors.items in
    within_some c.args.room _ (omega arith)
    ∙ entry_has_successors c.args.names.now c.args.left c.args.text.now _ _ _ _ _ _ _ _ c.in_ok-id.ensures.gives c.in_ok-priority.ensures.gives c.in_ok-owner.ensures.gives c.in_ok-successors.ensures.gives
    ∙ bind_is (after_name c.in_ok-successors.behind_all.now) (λ x. after_sign 59 x >>= end) _ c.in_ok-before_end.ensures.gives
    ∙ bind_is (after_sign 59 c.in_ok-before_end.before_end.now) end _ c.in_ok-rest.ensures.gives
    ∙ ap (λ (p : Player). Some (record { id = c.in_ok-id.id; priority = c.in_ok-priority.priority; owner = p; successors = c.in_ok-successors.successors.items }, c.in_ok-rest.rest.now)) (sym c.player.ensures)

pub after_end-requires : goal.after_end-requires
after_end-requires c = grind (arith, common_steps)

pub successors-requires : goal.successors-requires
successors-requires c = grind (arith, common_steps)

pub overflow_cast-result : goal.overflow_cast-result
overflow_cast-result c = grind (arith, common_steps)

pub returns-clause-shorter : goal.returns-clause-shorter
returns-clause-shorter c = grind (arith, common_steps)

pub returns-then-room-eq0-clause-gives : goal.returns-then-room-eq0-clause-gives
returns-then-room-eq0-clause-gives c = grind (arith, common_steps)

pub place-at-requires-3 : goal.place-at-requires-3
place-at-requires-3 c = grind (arith, common_steps)

pub number-requires-3-clause-within : goal.number-requires-3-clause-within
number-requires-3-clause-within c = grind (arith, common_steps)

pub number-requires-2-clause-within : goal.number-requires-2-clause-within
number-requires-2-clause-within c = grind (arith, common_steps)

pub returns-clause-few : goal.returns-clause-few
returns-clause-few c = grind (arith, common_steps)

pub overflow_cast-result-2 : goal.overflow_cast-result-2
overflow_cast-result-2 c = grind (arith, common_steps)
