use Rattle.std.proofs.lemmas.Grind.{common_steps}
use Rattle.std.proofs.Common.{[], List, ap, arith, false, get_or, length, refl}
use Rattle.vpg_partial.specs.declared.decision.Decision.{Decision}
use Rattle.vpg_texts.specs.Scene.{scene_of}
use Rattle.vpg_looks.proofs.Trying.{all_tried, next_tried}
use Rattle.vpg_looks.proofs.retracting.tries.Goals as goal

abbrev no_decision : Decision
no_decision = record { serial = 0; session = 0; feature = 0; value = false }

pub trying-preserved : goal.trying-preserved
trying-preserved c =
    let order = c.args.order.now in
    rw (c.in_ok-push.ensures.items, c.decisions-decisions.ensures.decisions) (
      next_tried (scene_of [] order.game order.diagram) c.args.limits c.args.vertex c.args.was_hopeless order.decisions c.trying.place c.trying.tried.items
          (record { decision = get_or order.decisions c.trying.place no_decision; effect = c.in_ok-effect.effect }) no_decision
          (omega (arith, c.trying-test.true, ap (λ (ds : List Decision). length ds) c.decisions-decisions.ensures.decisions)) refl c.in_ok-effect.ensures c.trying.invariant.0,
      omega (arith, c.trying-test.true, ap (λ (ds : List Decision). length ds) c.decisions-decisions.ensures.decisions),
    )

pub trying-init : goal.trying-init
trying-init c = grind (arith, common_steps)

pub returns : goal.returns
returns c =
    let order = c.args.order.now in
    all_tried (scene_of [] order.game order.diagram) c.args.limits c.args.vertex c.args.was_hopeless order.decisions c.trying.place c.trying.tried.items
    (omega (arith, c.trying-test.false, ap (λ (ds : List Decision). length ds) c.decisions-decisions.ensures.decisions)) c.trying.invariant.1 c.trying.invariant.0
