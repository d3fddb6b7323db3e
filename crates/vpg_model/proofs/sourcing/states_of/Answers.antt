use Rattle.std.proofs.Common.{List, take, slice_index_or, sym, subst, ap, ◌∙◌, arith}
use Rattle.vpg_system.specs.declared.transition.Transition as kept
use Rattle.vpg_system.specs.SystemText.{Transition as NamedTransition}
use Rattle.vpg_system.specs.SystemView.{transition_of, transitions_of}
use Rattle.vpg_model.specs.Sources.{departure_of, ArePlacedBySource}
use Rattle.vpg_model.proofs.Sourced.{one_placed, taken_more, is_transition}
use Rattle.vpg_model.proofs.sourcing.states_of.Goals as goal

pub departure-requires : goal.departure-requires
departure-requires c =
    let t = c.transition-item.result in
    let is = is_transition c.args.system.now c.transitions-transitions.result.now c.loop-transition.transition-index t c.transitions-transitions.ensures.system c.transitions-transitions.ensures.value c.loop-transition-test.true in
    omega (arith, is.action_below, ap (λ (t : kept.Transition). t.action) c.transition-item.is, c.actions-actions.ensures.count, c.actions-actions.ensures.few)

pub add-requires : goal.add-requires
add-requires c =
    let t = c.transition-item.result in
    let is = is_transition c.args.system.now c.transitions-transitions.result.now c.loop-transition.transition-index t c.transitions-transitions.ensures.system c.transitions-transitions.ensures.value c.loop-transition-test.true in
    omega (arith, is.source_below, ap (λ (t : kept.Transition). t.source) c.transition-item.is, c.loop-transition.invariant.count_is)

pub loop-transition-preserved : goal.loop-transition-preserved
loop-transition-preserved c =
    let t = c.transition-item.result in
    let ts = c.transitions-transitions.result.now in
    let i = c.loop-transition.transition-index in
    let is = is_transition c.args.system.now ts i t c.transitions-transitions.ensures.system c.transitions-transitions.ensures.value c.loop-transition-test.true in
    let same = ap (λ (t : kept.Transition). t.source) c.transition-item.is in
    subst (λ (xs : List NamedTransition). ArePlacedBySource c.args.system.now.states xs c.add.new.states.items) (sym (taken_more ts i t c.loop-transition-test.true))
    (one_placed c.args.system.now.states (transitions_of (take i ts)) c.loop-transition.states.items c.add.new.states.items (transition_of (slice_index_or ts i t)) t.source c.in_ok-departure.departure c.loop-transition.invariant same (omega (arith, is.source_below, same))
    (c.in_ok-departure.ensures ∙ ap (λ (t : kept.Transition). departure_of (transition_of t)) c.transition-item.is)
    c.in_ok-add.ensures)
