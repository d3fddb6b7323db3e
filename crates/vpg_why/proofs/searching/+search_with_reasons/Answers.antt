use Rattle.std.proofs.lemmas.Grind.{common_steps}
use Rattle.std.proofs.Common.{true, false, ◌-◌, ◌+◌, [], ◌≡◌, ℕ, Bool, List, not, slice_index_or, arith, ap, sym, ◌∙◌, subst}
use Rattle.vpg_why.specs.Explained.{choices}
use Rattle.vpg_why.specs.Reasons.{IsReasoned}
use Rattle.vpg_why.specs.declared.question.Aim.{Aim}
use Rattle.vpg_why.proofs.Eased.{eased_aim, eased_settles, reasoned_eased}
use Rattle.vpg_why.proofs.First.{found_here}
use Rattle.vpg_why.proofs.Reasons.{taken_less, taken_left}
use Rattle.vpg_why.proofs.Rooms.{one_less, child_room, child_settles, enough_kept, left_after_half, one_spent, open_spent, room_trials, settles_here, spent}
use Rattle.vpg_why.proofs.searching.+search_with_reasons.Goals as goal

-- with no product to be avoided a feature is tried in first
tried : (avoided : List Bool) (f : ℕ) (b : Bool) → b ≡ slice_index_or avoided f false → avoided ≡ [] → not b ≡ true
tried avoided f b e none = ap not (e ∙ ap (λ (bs : List Bool). slice_index_or bs f false) none)

pub returns-in-Met-clause-found : goal.returns-in-Met-clause-found
returns-in-Met-clause-found t c =
    let o = rw c.in-Met.is at c.in_ok-seen.ensures.outlook in
    found_here c.args.order.now.game c.args.order.now.diagram c.args.aim (choices c.args.decisions.now) c.in-Met.features.items o.0 o.1

pub returns-in-Unsettled-clause-spent : goal.returns-in-Unsettled-clause-spent
returns-in-Unsettled-clause-spent t c =
    spent c.args.depth (c.args.depth - 1) c.args.trials.now (c.args.trials.now - 1) (c.args.trials.now - 1) (one_less c.args.depth c.if-depth-eq0.false) (omega arith) (omega arith)

pub returns-in-Met-clause-spent : goal.returns-in-Met-clause-spent
returns-in-Met-clause-spent t c =
    spent c.args.depth (c.args.depth - 1) c.args.trials.now (c.args.trials.now - 1) (c.args.trials.now - 1) (one_less c.args.depth c.if-depth-eq0.false) (omega arith) (omega arith)

pub returns-in-Lost-clause-spent : goal.returns-in-Lost-clause-spent
returns-in-Lost-clause-spent t c =
    spent c.args.depth (c.args.depth - 1) c.args.trials.now (c.args.trials.now - 1) (c.args.trials.now - 1) (one_less c.args.depth c.if-depth-eq0.false) (omega arith) (omega arith)

pub returns-in-Unsettled-clause-settled : goal.returns-in-Unsettled-clause-settled
returns-in-Unsettled-clause-settled t c small room settles =
    (rw c.in-Unsettled.is at c.in_ok-seen.ensures.settled) (settles_here c.args.limits.rounds c.args.order.now.game c.args.order.now.diagram c.args.aim (choices c.args.decisions.now) settles)

pub returns-in-Unsettled-clause-fewer : goal.returns-in-Unsettled-clause-fewer
returns-in-Unsettled-clause-fewer t c most up = one_spent most c.args.trials.now (c.args.trials.now - 1) (omega arith)

pub returns-in-Met-clause-fewer : goal.returns-in-Met-clause-fewer
returns-in-Met-clause-fewer t c most up = one_spent most c.args.trials.now (c.args.trials.now - 1) (omega arith)

pub returns-in-Lost-clause-fewer : goal.returns-in-Lost-clause-fewer
returns-in-Lost-clause-fewer t c most up = one_spent most c.args.trials.now (c.args.trials.now - 1) (omega arith)

pub search_with_reasons-requires : goal.search_with_reasons-requires
search_with_reasons-requires t c = let a = eased_aim c.args.order.now.game c.args.order.now.diagram (choices c.args.decisions.now) c.args.aim c.in_ok-seen.seen.aim c.in_ok-seen.ensures.eased c.requires.aim in grind (arith, common_steps, a)

pub search_with_reasons-requires-2 : goal.search_with_reasons-requires-2
search_with_reasons-requires-2 t c = let a = eased_aim c.args.order.now.game c.args.order.now.diagram (choices c.args.decisions.now) c.args.aim c.in_ok-seen.seen.aim c.in_ok-seen.ensures.eased c.requires.aim in grind (arith, common_steps, a)

-- ---- the first half is the result

pub returns-in-Ends-clause-found : goal.returns-in-Ends-clause-found
returns-in-Ends-clause-found t c = reasoned_eased c.args.order.now.game c.args.order.now.diagram (choices c.args.decisions.now) c.args.aim c.in_ok-seen.seen.aim c.in-Ends.found c.in_ok-seen.ensures.eased
    (rw c.in-Ends.is at (c.first_half.ensures.found c.args.order.now.game c.args.order.now.diagram c.in_ok-seen.seen.aim (choices c.args.decisions.now) c.in-Open.feature (rw c.in-Open.is at c.in_ok-seen.ensures.outlook).agree (rw (c.deref.ensures.value, c.in_ok-more.ensures) at c.in_ok-one.ensures.found)))

pub returns-in-Ends-clause-taken : goal.returns-in-Ends-clause-taken
returns-in-Ends-clause-taken t c = taken_less c.args.trials.now (c.search_with_reasons.new.trials + c.reserve-kept.result) c.in-Ends.found
    (let s = taken_left ((c.args.trials.now - 1) - c.reserve-kept.result) c.search_with_reasons.new.trials _ c.in_ok-one.ensures.taken in let k = c.reserve-kept.ensures in omega (arith, s, k))

pub returns-in-Ends-clause-spent : goal.returns-in-Ends-clause-spent
returns-in-Ends-clause-spent t c =
    let s = c.in_ok-one.ensures.spent in let k = c.reserve-kept.ensures in
    spent c.args.depth (c.args.depth - 1) c.args.trials.now (c.args.trials.now - 1) (c.search_with_reasons.new.trials + c.reserve-kept.result) (one_less c.args.depth c.if-depth-eq0.false) (omega arith) (omega (arith, s, k))

pub returns-in-Ends-clause-fewer : goal.returns-in-Ends-clause-fewer
returns-in-Ends-clause-fewer t c most up =
    let s = left_after_half c.args.order.now.diagram (choices c.args.decisions.now) c.in-Open.feature (not c.has-value.result) (rw c.in-Open.is at c.in_ok-seen.ensures.outlook) most ((c.args.trials.now - 1) - c.reserve-kept.result) c.search_with_reasons.new.trials up (rw (c.deref.ensures.value, c.in_ok-more.ensures) at c.in_ok-one.ensures.fewer) in let k = c.reserve-kept.ensures in
    open_spent most c.args.trials.now (c.args.trials.now - 1) (c.search_with_reasons.new.trials + c.reserve-kept.result) (omega arith) (omega (arith, s, k))

pub returns-in-Ends-clause-settled : goal.returns-in-Ends-clause-settled
returns-in-Ends-clause-settled t c small room settles =
    rw c.in-Ends.is at (c.first_half.ensures.exact c.args.avoided.now (λ none. tried c.args.avoided.now c.in-Open.feature c.has-value.result c.has-value.ensures none)
    ((rw (c.deref.ensures.value, c.in_ok-more.ensures) at c.in_ok-one.ensures.settled) small (child_room c.args.order.now.diagram (choices c.args.decisions.now) c.in-Open.feature (not c.has-value.result) (rw c.in-Open.is at c.in_ok-seen.ensures.outlook) c.args.depth (c.args.depth - 1) c.args.trials.now ((c.args.trials.now - 1) - c.reserve-kept.result) (one_less c.args.depth c.if-depth-eq0.false) room (let r = room_trials c.args.order.now.diagram (choices c.args.decisions.now) c.args.depth c.args.trials.now room in enough_kept room.most c.args.trials.now c.reserve-kept.result r c.reserve-kept.ensures)) (eased_settles c.args.order.now.game c.args.order.now.diagram (choices c.args.decisions.now) c.args.aim c.in_ok-seen.seen.aim c.args.limits.rounds _ c.in_ok-seen.ensures.eased (child_settles c.args.order.now.diagram (choices c.args.decisions.now) c.in-Open.feature (not c.has-value.result) (rw c.in-Open.is at c.in_ok-seen.ensures.outlook) c.args.limits.rounds c.args.order.now.game c.args.aim settles))))

-- ---- the second half is searched too

pub returns-clause-found : goal.returns-clause-found
returns-clause-found t c = reasoned_eased c.args.order.now.game c.args.order.now.diagram (choices c.args.decisions.now) c.args.aim c.in_ok-seen.seen.aim c.in_ok-found.found c.in_ok-seen.ensures.eased
    (c.in_ok-found.ensures.found c.args.order.now.game c.args.order.now.diagram c.in_ok-seen.seen.aim (choices c.args.decisions.now) c.in-Open.feature
    (rw c.in-GoesOn.is at (c.first_half.ensures.found c.args.order.now.game c.args.order.now.diagram c.in_ok-seen.seen.aim (choices c.args.decisions.now) c.in-Open.feature (rw c.in-Open.is at c.in_ok-seen.ensures.outlook).agree (rw (c.deref.ensures.value, c.in_ok-more.ensures) at c.in_ok-one.ensures.found)))
    (rw (c.deref-2.ensures.value, c.in_ok-more-2.ensures) at c.in_ok-other.ensures.found))

pub returns-clause-taken : goal.returns-clause-taken
returns-clause-taken t c = taken_less c.args.trials.now c.search_with_reasons-2.new.trials c.in_ok-found.found
    (let s = taken_left ((c.args.trials.now - 1) - c.reserve-kept.result) c.search_with_reasons.new.trials _ c.in_ok-one.ensures.taken in
    let u = taken_left (c.search_with_reasons.new.trials + c.reserve-kept.result) c.search_with_reasons-2.new.trials _ c.in_ok-other.ensures.taken in
    let k = c.reserve-kept.ensures in omega (arith, s, u, k))

pub returns-clause-spent : goal.returns-clause-spent
returns-clause-spent t c =
    let s = c.in_ok-one.ensures.spent in let u = c.in_ok-other.ensures.spent in let k = c.reserve-kept.ensures in
    spent c.args.depth (c.args.depth - 1) c.args.trials.now (c.args.trials.now - 1) c.search_with_reasons-2.new.trials (one_less c.args.depth c.if-depth-eq0.false) (omega arith) (omega (arith, s, u, k))

pub returns-clause-fewer : goal.returns-clause-fewer
returns-clause-fewer t c most up =
    let s = left_after_half c.args.order.now.diagram (choices c.args.decisions.now) c.in-Open.feature (not c.has-value.result) (rw c.in-Open.is at c.in_ok-seen.ensures.outlook) most ((c.args.trials.now - 1) - c.reserve-kept.result) c.search_with_reasons.new.trials up (rw (c.deref.ensures.value, c.in_ok-more.ensures) at c.in_ok-one.ensures.fewer) in
    let u = left_after_half c.args.order.now.diagram (choices c.args.decisions.now) c.in-Open.feature (not (not c.has-value.result)) (rw c.in-Open.is at c.in_ok-seen.ensures.outlook) most (c.search_with_reasons.new.trials + c.reserve-kept.result) c.search_with_reasons-2.new.trials up (rw (c.deref-2.ensures.value, c.in_ok-more-2.ensures) at c.in_ok-other.ensures.fewer) in
    let k = c.reserve-kept.ensures in
    open_spent most c.args.trials.now (c.args.trials.now - 1) c.search_with_reasons-2.new.trials (omega arith) (omega (arith, s, u, k))

pub returns-clause-settled : goal.returns-clause-settled
returns-clause-settled t c small room settles = c.in_ok-found.ensures.exact c.args.avoided.now (λ none. tried c.args.avoided.now c.in-Open.feature c.has-value.result c.has-value.ensures none)
    (rw c.in-GoesOn.is at (c.first_half.ensures.exact c.args.avoided.now (λ none. tried c.args.avoided.now c.in-Open.feature c.has-value.result c.has-value.ensures none) ((rw (c.deref.ensures.value, c.in_ok-more.ensures) at c.in_ok-one.ensures.settled) small (child_room c.args.order.now.diagram (choices c.args.decisions.now) c.in-Open.feature (not c.has-value.result) (rw c.in-Open.is at c.in_ok-seen.ensures.outlook) c.args.depth (c.args.depth - 1) c.args.trials.now ((c.args.trials.now - 1) - c.reserve-kept.result) (one_less c.args.depth c.if-depth-eq0.false) room (let r = room_trials c.args.order.now.diagram (choices c.args.decisions.now) c.args.depth c.args.trials.now room in enough_kept room.most c.args.trials.now c.reserve-kept.result r c.reserve-kept.ensures)) (eased_settles c.args.order.now.game c.args.order.now.diagram (choices c.args.decisions.now) c.args.aim c.in_ok-seen.seen.aim c.args.limits.rounds _ c.in_ok-seen.ensures.eased (child_settles c.args.order.now.diagram (choices c.args.decisions.now) c.in-Open.feature (not c.has-value.result) (rw c.in-Open.is at c.in_ok-seen.ensures.outlook) c.args.limits.rounds c.args.order.now.game c.args.aim settles)))))
    ((rw (c.deref-2.ensures.value, c.in_ok-more-2.ensures) at c.in_ok-other.ensures.settled) small
    (child_room c.args.order.now.diagram (choices c.args.decisions.now) c.in-Open.feature (not (not c.has-value.result)) (rw c.in-Open.is at c.in_ok-seen.ensures.outlook) c.args.depth (c.args.depth - 1) c.args.trials.now (c.search_with_reasons.new.trials + c.reserve-kept.result) (one_less c.args.depth c.if-depth-eq0.false) room
    (let r = room_trials c.args.order.now.diagram (choices c.args.decisions.now) c.args.depth c.args.trials.now room in
    let s = left_after_half c.args.order.now.diagram (choices c.args.decisions.now) c.in-Open.feature (not c.has-value.result) (rw c.in-Open.is at c.in_ok-seen.ensures.outlook) room.most ((c.args.trials.now - 1) - c.reserve-kept.result) c.search_with_reasons.new.trials room.are_open (rw (c.deref.ensures.value, c.in_ok-more.ensures) at c.in_ok-one.ensures.fewer) in
    let k = c.reserve-kept.ensures in omega (arith, r, s, k)))
    (eased_settles c.args.order.now.game c.args.order.now.diagram (choices c.args.decisions.now) c.args.aim c.in_ok-seen.seen.aim c.args.limits.rounds _ c.in_ok-seen.ensures.eased (child_settles c.args.order.now.diagram (choices c.args.decisions.now) c.in-Open.feature (not (not c.has-value.result)) (rw c.in-Open.is at c.in_ok-seen.ensures.outlook) c.args.limits.rounds c.args.order.now.game c.args.aim settles)))

-- ---- any product

pub returns-in-Any-clause-found : goal.returns-in-Any-clause-found
returns-in-Any-clause-found t c =
    subst (λ (a : Aim). IsReasoned c.args.order.now.game c.args.order.now.diagram a (choices c.args.decisions.now) c.in_ok-sought.sought) (sym c.in-Any.is) c.in_ok-sought.ensures.found

pub returns-in-Any-clause-settled : goal.returns-in-Any-clause-settled
returns-in-Any-clause-settled t c small room settles = c.in_ok-sought.ensures.settled room
