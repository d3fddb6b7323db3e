use Rattle.std.proofs.Common.{◌≡◌, ◌∙◌, ◌++◌, ◌∷◌, [], false, get_or, refl, sym, arith, add-one}
use Rattle.vpg_why.specs.declared.question.Shown.{Shown}
use Rattle.vpg_why.specs.declared.question.Shown.TheVariants as shown
use Rattle.vpg_partial.specs.declared.decision.Decision.{Decision}
use Rattle.vpg_why.specs.Explained.{choices}
use Rattle.vpg_texts.specs.Scene.{scene_of}
use Rattle.vpg_looks.specs.Repairs.{IsLostBy}
use Rattle.vpg_why.proofs.KeepingOldest.{IsOwn, going_begun, kept_more, given_then, given_else, gone, more_among, more_named, one_own, own_named}
use Rattle.vpg_looks.proofs.retracting.give_up.Goals as goal
use Rattle.vpg_looks.proofs.retracting.give_up.Goals.{in-No, in_default+in_ok-push, then-sure, else-sure}

only_yes : (x : Shown) → (x ≡ shown.No → ⊥) → (x ≡ shown.Unsettled → ⊥) → x ≡ shown.Yes
only_yes shown.Yes a b = refl
only_yes shown.No a b = absurd (a refl)
only_yes shown.Unsettled a b = absurd (b refl)

abbrev no_decision : Decision
no_decision = record { serial = 0; session = 0; feature = 0; value = false }

pub lost-requires-clause-named : goal.lost-requires-clause-named
lost-requires-clause-named c =
    rw (c.deref-in-deciding.ensures.value, c.in_ok-more.ensures, c.deref.ensures.value)
    (more_named c.args.order.now.diagram.lines c.args.decisions.now c.deciding.kept.items c.deciding.d-index no_decision c.requires.named (omega (arith, c.deciding-test.true)) (own_named c.args.order.now.diagram.lines c.args.decisions.now (choices c.deciding.kept.items) c.deciding.invariant.0.named))

pub deciding-preserved : goal.deciding-preserved
deciding-preserved c = elim c.match-shown.branch [
  | in-No w ↦ rw (w.kept-is, w.given-is, w.sure-is, c.in_ok-more.ensures, c.deref.ensures.value, add-one) (
    kept_more (IsLostBy (scene_of [] c.args.order.now.game c.args.order.now.diagram) c.args.vertex) (IsOwn c.args.order.now.diagram.lines c.args.decisions.now) c.args.decisions.now c.deciding.kept.items c.deciding.given.items c.deciding.d-index c.deciding.sure
        c.deciding.invariant.0 (omega (arith, c.deciding-test.true)) no_decision
        ((rw (c.deref-in-deciding.ensures.value, c.in_ok-more.ensures, c.deref.ensures.value) at c.in_ok-shown.ensures.no) w.in-No.is)
        (one_own c.args.order.now.diagram.lines c.args.decisions.now c.deciding.d-index no_decision c.requires.named (omega (arith, c.deciding-test.true))),
    c.deciding.invariant.1,
  )
  | in_default+in_ok-push w ↦ elim w.if-sure.branch [
    | then-sure w' ↦ rw (w.kept-is, w.given-is, w.sure-is, w'.sure-is, w.in_ok-push.ensures.items, add-one) (
      given_then (IsLostBy (scene_of [] c.args.order.now.game c.args.order.now.diagram) c.args.vertex) (IsOwn c.args.order.now.diagram.lines c.args.decisions.now) c.args.decisions.now c.deciding.kept.items c.deciding.given.items c.deciding.d-index c.deciding.sure
          c.deciding.invariant.0 (omega (arith, c.deciding-test.true)) no_decision w'.is_yes-sure.result w'.if-sure.true
          (λ t. (rw (c.deref-in-deciding.ensures.value, c.in_ok-more.ensures, c.deref.ensures.value) at c.in_ok-shown.ensures.yes) (w'.is_yes-sure.ensures.0 t)),
      λ s. w'.is_yes-sure.ensures.1 (only_yes c.in_ok-shown.shown w.in_default.not-No ((rw (c.deref-in-deciding.ensures.value, c.in_ok-more.ensures, c.deref.ensures.value) at c.in_ok-shown.ensures.settled)
          (s (choices (c.deciding.kept.items ++ get_or c.args.decisions.now c.deciding.d-index no_decision ∷ []))
          (more_among c.args.order.now.diagram.lines c.args.decisions.now c.deciding.kept.items c.deciding.d-index no_decision c.requires.named (omega (arith, c.deciding-test.true)) c.deciding.invariant.0.named)))),
    )
    | else-sure w' ↦ rw (w.kept-is, w.given-is, w.sure-is, w'.sure-is, w.in_ok-push.ensures.items, add-one, w'.if-sure.false) (
      given_else (IsLostBy (scene_of [] c.args.order.now.game c.args.order.now.diagram) c.args.vertex) (IsOwn c.args.order.now.diagram.lines c.args.decisions.now) c.args.decisions.now c.deciding.kept.items c.deciding.given.items c.deciding.d-index c.deciding.sure
          c.deciding.invariant.0 (omega (arith, c.deciding-test.true)) no_decision w'.if-sure.false,
      λ s. sym w'.if-sure.false ∙ c.deciding.invariant.1 s,
    )
  ]
]

pub returns-clause-repair : goal.returns-clause-repair
returns-clause-repair c = gone (IsLostBy (scene_of [] c.args.order.now.game c.args.order.now.diagram) c.args.vertex) (IsOwn c.args.order.now.diagram.lines c.args.decisions.now) c.args.decisions.now c.deciding.kept.items c.deciding.given.items c.deciding.d-index c.deciding.sure
    (omega (arith, c.deciding-test.false)) c.deciding.invariant.0

pub returns-clause-settled : goal.returns-clause-settled
returns-clause-settled c = c.deciding.invariant.1

pub deciding-init : goal.deciding-init
deciding-init c = (
  going_begun (IsLostBy (scene_of [] c.args.order.now.game c.args.order.now.diagram) c.args.vertex) (IsOwn c.args.order.now.diagram.lines c.args.decisions.now) c.args.decisions.now c.new-kept.result.items c.new-given.result.items
      c.new-kept.ensures.items c.new-given.ensures.items c.requires.winner,
  λ s. refl,
)
