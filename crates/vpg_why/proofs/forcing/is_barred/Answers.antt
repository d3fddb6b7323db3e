use Rattle.std.proofs.Common.{◌≡◌, true, false, sym, ◌∙◌}
use Rattle.vpg_why.specs.Explained.{choices}
use Rattle.vpg_why.specs.Suffices.{choice}
use Rattle.vpg_why.proofs.Rooms.{settled_more}
use Rattle.vpg_why.proofs.Sought.{one_more, otherwise, sought_with}
use Rattle.vpg_why.proofs.Distinct.{yes_no, yes_unsettled, no_yes, no_unsettled, unsettled_yes, unsettled_no}
use Rattle.vpg_why.proofs.forcing.is_barred.Goals as goal

clash : false ≡ true → ⊥
clash e = cc

pub returns-then-not-all_have-clause-no : goal.returns-then-not-all_have-clause-no
returns-then-not-all_have-clause-no c e lost =
    let order = c.args.order.now in
    clash (sym c.if-not-all_have.true
    ∙ c.all_have.ensures.1 (rw c.deref.ensures.value (otherwise order.game order.diagram c.args.aim (choices order.decisions) c.args.feature c.args.value c.args.found.now.items c.requires.found lost)))

pub returns-in_ok-push-in-Product-clause-found : goal.returns-in_ok-push-in-Product-clause-found
returns-in_ok-push-in-Product-clause-found c =
    let order = c.args.order.now in
    rw c.in_ok-push-in-Product.ensures.items
    (one_more order.game order.diagram c.args.aim (choices order.decisions) c.args.found.now.items c.in-Product.example c.requires.found
    (sought_with order.game order.diagram c.args.aim (choices order.decisions) c.args.feature c.args.value c.in-Product.example
    (rw c.in-Product.is at c.in_ok-example.ensures.found)))

pub returns-in_ok-push-in-Product-clause-no : goal.returns-in_ok-push-in-Product-clause-no
returns-in_ok-push-in-Product-clause-no c e lost = let f = rw c.in-Product.is at c.in_ok-example.ensures.found in lost c.in-Product.example.features.items f.0 f.1

pub returns-in_ok-push-in-Product-clause-yes : goal.returns-in_ok-push-in-Product-clause-yes
returns-in_ok-push-in-Product-clause-yes c e = absurd (no_yes e)

pub returns-in_ok-push-in-Product-clause-settled : goal.returns-in_ok-push-in-Product-clause-settled
returns-in_ok-push-in-Product-clause-settled c s e = no_unsettled e

pub returns-in-Nothing-clause-yes : goal.returns-in-Nothing-clause-yes
returns-in-Nothing-clause-yes c e = rw c.in-Nothing.is at c.in_ok-example.ensures.found

pub returns-in-Unsettled-clause-yes : goal.returns-in-Unsettled-clause-yes
returns-in-Unsettled-clause-yes c e = absurd (unsettled_yes e)

pub returns-in-Unsettled-clause-no : goal.returns-in-Unsettled-clause-no
returns-in-Unsettled-clause-no c e = absurd (unsettled_no e)

pub returns-in-Nothing-clause-no : goal.returns-in-Nothing-clause-no
returns-in-Nothing-clause-no c e = absurd (yes_no e)

pub returns-in-Nothing-clause-settled : goal.returns-in-Nothing-clause-settled
returns-in-Nothing-clause-settled c s e = yes_unsettled e

pub returns-in-Unsettled-clause-settled : goal.returns-in-Unsettled-clause-settled
returns-in-Unsettled-clause-settled c s e =
    let order = c.args.order.now in
    c.in_ok-example.ensures.settled (c.requires.small s.1)
    (settled_more order.game order.diagram c.args.limits c.args.aim (choices order.decisions) (choice c.args.feature c.args.value) c.game-order.ensures.order.diagram c.game-order.ensures.order.named s) c.in-Unsettled.is

pub returns-then-not-all_have-clause-yes : goal.returns-then-not-all_have-clause-yes
returns-then-not-all_have-clause-yes c e = absurd (no_yes e)

pub returns-then-not-all_have-clause-settled : goal.returns-then-not-all_have-clause-settled
returns-then-not-all_have-clause-settled c s e = no_unsettled e
