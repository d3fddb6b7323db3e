use Rattle.std.proofs.lemmas.Grind.{common_steps}
use Rattle.std.proofs.Common.{◌++◌, ◌∷◌, [], map, refl, arith}
use Rattle.vpg_partial.specs.Known.{literal_of}
use Rattle.vpg_why.specs.Suffices.{choice}
use Rattle.vpg_why.proofs.Monotone.{no_conflict}
use Rattle.vpg_why.proofs.Distinct.{yes_no, yes_unsettled, no_yes, no_unsettled}
use Rattle.vpg_why.proofs.asking.conflict_shown.Goals as goal

pub returns-in-Some-clause-no : goal.returns-in-Some-clause-no
returns-in-Some-clause-no c e h =
    no_conflict c.args.order.now.diagram.lines (map literal_of c.args.decisions.now ++ choice c.args.feature c.args.value ∷ []) c.in-Some.field-0
    (rw (c.in-Some.is, c.deref.ensures.value, c.in_ok-more.ensures) at c.in_ok-closed.ensures.known) h

pub returns-clause-yes : goal.returns-clause-yes
returns-clause-yes c e = (rw (c.in-None.is, c.deref.ensures.value, c.in_ok-more.ensures) at c.in_ok-closed.ensures.conflict) refl

pub returns-in-Some-clause-yes : goal.returns-in-Some-clause-yes
returns-in-Some-clause-yes c e = absurd (no_yes e)

pub closed-requires : goal.closed-requires
closed-requires c = grind (arith, common_steps)

pub returns-in-Some-clause-settled : goal.returns-in-Some-clause-settled
returns-in-Some-clause-settled c e = no_unsettled e

pub returns-clause-no : goal.returns-clause-no
returns-clause-no c e = absurd (yes_no e)

pub returns-clause-settled : goal.returns-clause-settled
returns-clause-settled c e = yes_unsettled e
