use Rattle.std.proofs.lemmas.Grind.{common_steps}
use Rattle.std.proofs.Common.{◌≡◌, ℕ, suc, ◌+◌, ◌-◌, ◌<◌, ◌≤◌, Bool, true, false, not, List, [], ◌∷◌, ◌++◌, count_by, length, take, slice_index_or, sym, ap, ◌∙◌, subst, arith}
use Rattle.vpg_diagram.specs.declared.clause.Literal.{Literal}
use Rattle.vpg_partial.specs.declared.decision.Decision.{Decision}
use Rattle.vpg_partial.specs.TableLaws.{AreChoicesOf}
use Rattle.vpg_products.specs.Growing.{AreShown}
use Rattle.vpg_why.specs.declared.question.Aim.TheVariants as aims
use Rattle.vpg_why.specs.Explained.{choices}
use Rattle.vpg_why.specs.Glances.{IsFirstOpen}
use Rattle.vpg_why.specs.Reasons.{IsReasonedExact}
use Rattle.vpg_why.specs.Suffices.{choice, is_open, most_trials}
use Rattle.vpg_why.proofs.First.{found_here}
use Rattle.vpg_why.proofs.Rooms.{one_less, spent}
use Rattle.vpg_why.proofs.ByFeatures.{base_stays, begun_stays, both_take, child_fewer, child_shown, grown_fewer, half_room, half_takes, marks_of, named_more, one_takes, other_room}
use Rattle.vpg_why.proofs.features.+search_on.Goals as goal

-- with no product to be avoided a feature is tried in first
tried : (avoided : List Bool) (f : ℕ) (b : Bool) → b ≡ slice_index_or avoided f false → avoided ≡ [] → not b ≡ true
tried avoided f b e none = ap not (e ∙ ap (λ (bs : List Bool). slice_index_or bs f false) none)

pub returns-in-Lost-clause-found : goal.returns-in-Lost-clause-found
returns-in-Lost-clause-found t c =
    rw c.in-Lost.is at c.in_ok-seen.ensures.glance

pub returns-in-Met-clause-found : goal.returns-in-Met-clause-found
returns-in-Met-clause-found t c =
    λ game. found_here game c.args.diagram.now aims.Any (choices c.args.decisions.now) c.in-Met.features.items (rw c.in-Met.is at c.in_ok-seen.ensures.glance) tt

pub returns-in-Lost-clause-spent : goal.returns-in-Lost-clause-spent
returns-in-Lost-clause-spent t c =
    spent c.args.depth (c.args.depth - 1) c.args.trials.now c.charge.new.trials c.charge.new.trials (one_less c.args.depth c.if-depth-eq0.false) (omega (arith, c.charge.ensures.one)) (omega arith)

pub returns-in-Lost-clause-fewer : goal.returns-in-Lost-clause-fewer
returns-in-Lost-clause-fewer t c =
    one_takes c.args.trials.now (count_by is_open c.args.known.now) c.charge.new.trials (omega (arith, c.charge.ensures.one))

pub returns-in-Met-clause-spent : goal.returns-in-Met-clause-spent
returns-in-Met-clause-spent t c =
    spent c.args.depth (c.args.depth - 1) c.args.trials.now c.charge.new.trials c.charge.new.trials (one_less c.args.depth c.if-depth-eq0.false) (omega (arith, c.charge.ensures.one)) (omega arith)

pub returns-in-Met-clause-fewer : goal.returns-in-Met-clause-fewer
returns-in-Met-clause-fewer t c =
    one_takes c.args.trials.now (count_by is_open c.args.known.now) c.charge.new.trials (omega (arith, c.charge.ensures.one))

pub search_on-requires : goal.search_on-requires
search_on-requires t c =
    let fo : IsFirstOpen c.args.diagram.now (choices c.args.decisions.now) c.glance_on.new.known c.in-Open.feature = (rw c.in-Open.is at c.in_ok-seen.ensures.glance) in
    let e : choices c.deref.result.now ≡ choices c.args.decisions.now ++ choice c.in-Open.feature (not c.has-value.result) ∷ [] = ap (λ (ds : List Decision). choices ds) c.deref.ensures.value ∙ c.in_ok-more.ensures in
    let named : AreChoicesOf c.args.diagram.now.lines (choices c.deref.result.now) = named_more c.args.diagram.now.lines c.args.decisions.now c.deref.result.now c.in-Open.feature (not c.has-value.result) c.requires.named (subst (λ n. c.in-Open.feature < n) c.in_ok-seen.ensures.shown.length_is fo.within) e in
    let begun : c.args.begun ≤ length c.deref.result.now = begun_stays c.args.decisions.now c.deref.result.now (choice c.in-Open.feature (not c.has-value.result)) c.args.begun c.requires.begun e in
    let base : AreShown c.args.diagram.now.lines (take c.args.begun (choices c.deref.result.now)) c.args.base.now = base_stays c.args.diagram.now.lines c.args.decisions.now c.deref.result.now (choice c.in-Open.feature (not c.has-value.result)) c.args.begun c.args.base.now c.requires.begun e c.requires.base in
    let shown : AreShown c.args.diagram.now.lines (choices c.deref.result.now) c.deref_mut.result.now = subst (λ (cs : List Literal). AreShown c.args.diagram.now.lines cs c.deref_mut.result.now) (sym e) (child_shown c.args.diagram.now.lines (choices c.args.decisions.now) c.glance_on.new.known c.deref_mut.result.now c.in-Open.feature (not c.has-value.result) c.in_ok-seen.ensures.shown fo.within (c.deref_mut.ensures.value ∙ c.in_ok-half.ensures)) in
    let smaller = one_less c.args.depth c.if-depth-eq0.false in
    grind (arith, common_steps, named, begun, base, shown, smaller)

pub search_on-requires-2 : goal.search_on-requires-2
search_on-requires-2 t c =
    let fo : IsFirstOpen c.args.diagram.now (choices c.args.decisions.now) c.glance_on.new.known c.in-Open.feature = (rw c.in-Open.is at c.in_ok-seen.ensures.glance) in
    let e : choices c.deref-2.result.now ≡ choices c.args.decisions.now ++ choice c.in-Open.feature (not (not c.has-value.result)) ∷ [] = ap (λ (ds : List Decision). choices ds) c.deref-2.ensures.value ∙ c.in_ok-more-2.ensures in
    let named : AreChoicesOf c.args.diagram.now.lines (choices c.deref-2.result.now) = named_more c.args.diagram.now.lines c.args.decisions.now c.deref-2.result.now c.in-Open.feature (not (not c.has-value.result)) c.requires.named (subst (λ n. c.in-Open.feature < n) c.in_ok-seen.ensures.shown.length_is fo.within) e in
    let begun : c.args.begun ≤ length c.deref-2.result.now = begun_stays c.args.decisions.now c.deref-2.result.now (choice c.in-Open.feature (not (not c.has-value.result))) c.args.begun c.requires.begun e in
    let base : AreShown c.args.diagram.now.lines (take c.args.begun (choices c.deref-2.result.now)) c.args.base.now = base_stays c.args.diagram.now.lines c.args.decisions.now c.deref-2.result.now (choice c.in-Open.feature (not (not c.has-value.result))) c.args.begun c.args.base.now c.requires.begun e c.requires.base in
    let shown : AreShown c.args.diagram.now.lines (choices c.deref-2.result.now) c.deref_mut-2.result.now = subst (λ (cs : List Literal). AreShown c.args.diagram.now.lines cs c.deref_mut-2.result.now) (sym e) (child_shown c.args.diagram.now.lines (choices c.args.decisions.now) c.glance_on.new.known c.deref_mut-2.result.now c.in-Open.feature (not (not c.has-value.result)) c.in_ok-seen.ensures.shown fo.within (c.deref_mut-2.ensures.value ∙ c.in_ok-half-2.ensures)) in
    let smaller = one_less c.args.depth c.if-depth-eq0.false in
    grind (arith, common_steps, named, begun, base, shown, smaller)

pub returns-in-Ends-clause-found : goal.returns-in-Ends-clause-found
returns-in-Ends-clause-found t c =
    λ game.
    let fo : IsFirstOpen c.args.diagram.now (choices c.args.decisions.now) c.glance_on.new.known c.in-Open.feature = (rw c.in-Open.is at c.in_ok-seen.ensures.glance) in
    rw c.in-Ends.is at (c.first_half.ensures.found game c.args.diagram.now aims.Any (choices c.args.decisions.now) c.in-Open.feature fo.agree (rw (c.deref.ensures.value, c.in_ok-more.ensures) at (c.in_ok-one.ensures.found game)))

pub returns-in-Ends-clause-left : goal.returns-in-Ends-clause-left
returns-in-Ends-clause-left t c =
    let k = c.reserve-kept.ensures in
    let s = c.in_ok-one.ensures.left in omega (arith, s, k, c.charge.ensures.fewer)

pub returns-in-Ends-clause-spent : goal.returns-in-Ends-clause-spent
returns-in-Ends-clause-spent t c =
    let k = c.reserve-kept.ensures in
    let s = c.in_ok-one.ensures.spent in
    spent c.args.depth (c.args.depth - 1) c.args.trials.now c.charge.new.trials (c.search_on.new.trials + c.reserve-kept.result) (one_less c.args.depth c.if-depth-eq0.false) (omega (arith, c.charge.ensures.one)) (omega (arith, s, k))

pub returns-in-Ends-clause-fewer : goal.returns-in-Ends-clause-fewer
returns-in-Ends-clause-fewer t c =
    let fo : IsFirstOpen c.args.diagram.now (choices c.args.decisions.now) c.glance_on.new.known c.in-Open.feature = (rw c.in-Open.is at c.in_ok-seen.ensures.glance) in
    let le : (count_by is_open c.glance_on.new.known) ≤ (count_by is_open c.args.known.now) = grown_fewer c.args.known.now c.glance_on.new.known (c.in_ok-seen.ensures.shown.length_is ∙ sym c.requires.shown.length_is) c.in_ok-seen.ensures.finer in
    let l1 : suc (count_by is_open c.in_ok-half.half.items) ≤ (count_by is_open c.glance_on.new.known) = child_fewer c.args.diagram.now.lines c.glance_on.new.known c.in_ok-half.half.items c.in-Open.feature (not c.has-value.result) fo.within fo.unknown c.in_ok-half.ensures in
    let k = c.reserve-kept.ensures in
    let one : c.args.trials.now ≤ suc c.charge.new.trials = omega (arith, c.charge.ensures.one) in
    let t1 : (c.charge.new.trials - c.reserve-kept.result) ≤ c.search_on.new.trials + most_trials ((count_by is_open c.in_ok-half.half.items) + 1) = rw c.deref_mut.ensures.value at c.in_ok-one.ensures.fewer in
    let m1 = half_takes (c.charge.new.trials - c.reserve-kept.result) c.search_on.new.trials (count_by is_open c.in_ok-half.half.items) (count_by is_open c.glance_on.new.known) l1 t1 in
    both_take c.args.trials.now (count_by is_open c.args.known.now) c.charge.new.trials (c.search_on.new.trials + c.reserve-kept.result) (count_by is_open c.glance_on.new.known) le one (omega (arith, m1, k))

pub returns-in-Ends-clause-settled : goal.returns-in-Ends-clause-settled
returns-in-Ends-clause-settled t c =
    λ deep enough.
    let fo : IsFirstOpen c.args.diagram.now (choices c.args.decisions.now) c.glance_on.new.known c.in-Open.feature = (rw c.in-Open.is at c.in_ok-seen.ensures.glance) in
    let le : (count_by is_open c.glance_on.new.known) ≤ (count_by is_open c.args.known.now) = grown_fewer c.args.known.now c.glance_on.new.known (c.in_ok-seen.ensures.shown.length_is ∙ sym c.requires.shown.length_is) c.in_ok-seen.ensures.finer in
    let l1 : suc (count_by is_open c.in_ok-half.half.items) ≤ (count_by is_open c.glance_on.new.known) = child_fewer c.args.diagram.now.lines c.glance_on.new.known c.in_ok-half.half.items c.in-Open.feature (not c.has-value.result) fo.within fo.unknown c.in_ok-half.ensures in
    let k = c.reserve-kept.ensures in
    let one : c.args.trials.now ≤ suc c.charge.new.trials = omega (arith, c.charge.ensures.one) in
    let s1 : (count_by is_open c.in_ok-half.half.items) < c.args.depth - 1 → most_trials ((count_by is_open c.in_ok-half.half.items) + 1) ≤ c.charge.new.trials - c.reserve-kept.result → IsReasonedExact c.args.avoided.now c.in_ok-one.one = rw c.deref_mut.ensures.value at c.in_ok-one.ensures.settled in
    let d1 : (count_by is_open c.in_ok-half.half.items) < c.args.depth - 1 = omega (arith, le, l1, deep, (one_less c.args.depth c.if-depth-eq0.false)) in
    let r1 : most_trials ((count_by is_open c.in_ok-half.half.items) + 1) ≤ c.charge.new.trials - c.reserve-kept.result = half_room c.args.trials.now (count_by is_open c.args.known.now) c.charge.new.trials c.reserve-kept.result (count_by is_open c.in_ok-half.half.items) (omega (arith, le, l1)) one k enough in
    rw c.in-Ends.is at (c.first_half.ensures.exact c.args.avoided.now (λ none. tried c.args.avoided.now c.in-Open.feature c.has-value.result c.has-value.ensures none) (s1 d1 r1))

pub returns-clause-found : goal.returns-clause-found
returns-clause-found t c =
    λ game.
    let fo : IsFirstOpen c.args.diagram.now (choices c.args.decisions.now) c.glance_on.new.known c.in-Open.feature = (rw c.in-Open.is at c.in_ok-seen.ensures.glance) in
    c.in_ok-found.ensures.found game c.args.diagram.now aims.Any (choices c.args.decisions.now) c.in-Open.feature (rw c.in-GoesOn.is at (c.first_half.ensures.found game c.args.diagram.now aims.Any (choices c.args.decisions.now) c.in-Open.feature fo.agree (rw (c.deref.ensures.value, c.in_ok-more.ensures) at (c.in_ok-one.ensures.found game)))) (rw (c.deref-2.ensures.value, c.in_ok-more-2.ensures) at (c.in_ok-other.ensures.found game))

pub returns-clause-left : goal.returns-clause-left
returns-clause-left t c =
    let k = c.reserve-kept.ensures in
    let s = c.in_ok-one.ensures.left in let u = c.in_ok-other.ensures.left in omega (arith, s, u, k, c.charge.ensures.fewer)

pub returns-clause-spent : goal.returns-clause-spent
returns-clause-spent t c =
    let k = c.reserve-kept.ensures in
    let s = c.in_ok-one.ensures.spent in let u = c.in_ok-other.ensures.spent in
    spent c.args.depth (c.args.depth - 1) c.args.trials.now c.charge.new.trials c.search_on-2.new.trials (one_less c.args.depth c.if-depth-eq0.false) (omega (arith, c.charge.ensures.one)) (omega (arith, s, u, k))

pub returns-clause-fewer : goal.returns-clause-fewer
returns-clause-fewer t c =
    let fo : IsFirstOpen c.args.diagram.now (choices c.args.decisions.now) c.glance_on.new.known c.in-Open.feature = (rw c.in-Open.is at c.in_ok-seen.ensures.glance) in
    let le : (count_by is_open c.glance_on.new.known) ≤ (count_by is_open c.args.known.now) = grown_fewer c.args.known.now c.glance_on.new.known (c.in_ok-seen.ensures.shown.length_is ∙ sym c.requires.shown.length_is) c.in_ok-seen.ensures.finer in
    let l1 : suc (count_by is_open c.in_ok-half.half.items) ≤ (count_by is_open c.glance_on.new.known) = child_fewer c.args.diagram.now.lines c.glance_on.new.known c.in_ok-half.half.items c.in-Open.feature (not c.has-value.result) fo.within fo.unknown c.in_ok-half.ensures in
    let l2 : suc (count_by is_open c.in_ok-half-2.half.items) ≤ (count_by is_open c.glance_on.new.known) = child_fewer c.args.diagram.now.lines c.glance_on.new.known c.in_ok-half-2.half.items c.in-Open.feature (not (not c.has-value.result)) fo.within fo.unknown c.in_ok-half-2.ensures in
    let k = c.reserve-kept.ensures in
    let one : c.args.trials.now ≤ suc c.charge.new.trials = omega (arith, c.charge.ensures.one) in
    let t1 : (c.charge.new.trials - c.reserve-kept.result) ≤ c.search_on.new.trials + most_trials ((count_by is_open c.in_ok-half.half.items) + 1) = rw c.deref_mut.ensures.value at c.in_ok-one.ensures.fewer in
    let t2 : (c.search_on.new.trials + c.reserve-kept.result) ≤ c.search_on-2.new.trials + most_trials ((count_by is_open c.in_ok-half-2.half.items) + 1) = rw c.deref_mut-2.ensures.value at c.in_ok-other.ensures.fewer in
    let m1 = half_takes (c.charge.new.trials - c.reserve-kept.result) c.search_on.new.trials (count_by is_open c.in_ok-half.half.items) (count_by is_open c.glance_on.new.known) l1 t1 in
    let m2 = half_takes (c.search_on.new.trials + c.reserve-kept.result) c.search_on-2.new.trials (count_by is_open c.in_ok-half-2.half.items) (count_by is_open c.glance_on.new.known) l2 t2 in
    both_take c.args.trials.now (count_by is_open c.args.known.now) c.charge.new.trials c.search_on-2.new.trials (count_by is_open c.glance_on.new.known) le one (omega (arith, m1, m2, k))

pub returns-clause-settled : goal.returns-clause-settled
returns-clause-settled t c =
    λ deep enough.
    let fo : IsFirstOpen c.args.diagram.now (choices c.args.decisions.now) c.glance_on.new.known c.in-Open.feature = (rw c.in-Open.is at c.in_ok-seen.ensures.glance) in
    let le : (count_by is_open c.glance_on.new.known) ≤ (count_by is_open c.args.known.now) = grown_fewer c.args.known.now c.glance_on.new.known (c.in_ok-seen.ensures.shown.length_is ∙ sym c.requires.shown.length_is) c.in_ok-seen.ensures.finer in
    let l1 : suc (count_by is_open c.in_ok-half.half.items) ≤ (count_by is_open c.glance_on.new.known) = child_fewer c.args.diagram.now.lines c.glance_on.new.known c.in_ok-half.half.items c.in-Open.feature (not c.has-value.result) fo.within fo.unknown c.in_ok-half.ensures in
    let l2 : suc (count_by is_open c.in_ok-half-2.half.items) ≤ (count_by is_open c.glance_on.new.known) = child_fewer c.args.diagram.now.lines c.glance_on.new.known c.in_ok-half-2.half.items c.in-Open.feature (not (not c.has-value.result)) fo.within fo.unknown c.in_ok-half-2.ensures in
    let k = c.reserve-kept.ensures in
    let one : c.args.trials.now ≤ suc c.charge.new.trials = omega (arith, c.charge.ensures.one) in
    let t1 : (c.charge.new.trials - c.reserve-kept.result) ≤ c.search_on.new.trials + most_trials ((count_by is_open c.in_ok-half.half.items) + 1) = rw c.deref_mut.ensures.value at c.in_ok-one.ensures.fewer in
    let s1 : (count_by is_open c.in_ok-half.half.items) < c.args.depth - 1 → most_trials ((count_by is_open c.in_ok-half.half.items) + 1) ≤ c.charge.new.trials - c.reserve-kept.result → IsReasonedExact c.args.avoided.now c.in_ok-one.one = rw c.deref_mut.ensures.value at c.in_ok-one.ensures.settled in
    let d1 : (count_by is_open c.in_ok-half.half.items) < c.args.depth - 1 = omega (arith, le, l1, deep, (one_less c.args.depth c.if-depth-eq0.false)) in
    let r1 : most_trials ((count_by is_open c.in_ok-half.half.items) + 1) ≤ c.charge.new.trials - c.reserve-kept.result = half_room c.args.trials.now (count_by is_open c.args.known.now) c.charge.new.trials c.reserve-kept.result (count_by is_open c.in_ok-half.half.items) (omega (arith, le, l1)) one k enough in
    let s2 : (count_by is_open c.in_ok-half-2.half.items) < c.args.depth - 1 → most_trials ((count_by is_open c.in_ok-half-2.half.items) + 1) ≤ c.search_on.new.trials + c.reserve-kept.result → IsReasonedExact c.args.avoided.now c.in_ok-other.other = rw c.deref_mut-2.ensures.value at c.in_ok-other.ensures.settled in
    let d2 : (count_by is_open c.in_ok-half-2.half.items) < c.args.depth - 1 = omega (arith, le, l2, deep, (one_less c.args.depth c.if-depth-eq0.false)) in
    let r2 : most_trials ((count_by is_open c.in_ok-half-2.half.items) + 1) ≤ c.search_on.new.trials + c.reserve-kept.result = other_room c.args.trials.now (count_by is_open c.args.known.now) c.charge.new.trials c.reserve-kept.result c.search_on.new.trials (count_by is_open c.in_ok-half.half.items) (count_by is_open c.in_ok-half-2.half.items) (omega (arith, le, l1)) (omega (arith, le, l2)) one (omega (arith, k)) t1 enough in
    c.in_ok-found.ensures.exact c.args.avoided.now (λ none. tried c.args.avoided.now c.in-Open.feature c.has-value.result c.has-value.ensures none) (rw c.in-GoesOn.is at (c.first_half.ensures.exact c.args.avoided.now (λ none. tried c.args.avoided.now c.in-Open.feature c.has-value.result c.has-value.ensures none) (s1 d1 r1))) (s2 d2 r2)

pub first_half-requires : goal.first_half-requires
first_half-requires t c =
    marks_of c.args.diagram.now c.args.decisions.now c.deref.result.now (choice c.in-Open.feature (not c.has-value.result)) c.in_ok-one.one (ap (λ (ds : List Decision). choices ds) c.deref.ensures.value ∙ c.in_ok-more.ensures) c.in_ok-one.ensures.found

pub both-requires-clause-second : goal.both-requires-clause-second
both-requires-clause-second t c =
    marks_of c.args.diagram.now c.args.decisions.now c.deref-2.result.now (choice c.in-Open.feature (not (not c.has-value.result))) c.in_ok-other.other (ap (λ (ds : List Decision). choices ds) c.deref-2.ensures.value ∙ c.in_ok-more-2.ensures) c.in_ok-other.ensures.found
