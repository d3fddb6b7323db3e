use Rattle.vpg_why.proofs.Ahead.{only_conflict}
use Rattle.vpg_why.proofs.foreseeing.foresee.Goals as goal

pub conflict_shown-requires-clause-named : goal.conflict_shown-requires-clause-named
conflict_shown-requires-clause-named c = rw c.decisions-decisions.ensures.decisions c.decisions-decisions.ensures.order.named

pub side_after-requires-2-clause-spared : goal.side_after-requires-2-clause-spared
side_after-requires-2-clause-spared c = rw c.deref-2.ensures.value c.requires.spared.unsure

pub returns-in_default-clause-foreseen : goal.returns-in_default-clause-foreseen
returns-in_default-clause-foreseen c =
    (rw c.decisions-decisions.ensures.decisions at c.in_ok-conflict_shown.ensures.yes)
    (only_conflict _ c.in_default.not-No c.in_ok-conflict_shown.ensures.settled)

pub returns-clause-foreseen : goal.returns-clause-foreseen
returns-clause-foreseen c = (
  (rw c.decisions-decisions.ensures.decisions at c.in_ok-conflict_shown.ensures.no) c.in-No.is,
  c.in_ok-even.ensures.side,
  c.in_ok-odd.ensures.side,
)
