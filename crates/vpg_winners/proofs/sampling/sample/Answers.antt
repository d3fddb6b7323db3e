use Rattle.std.proofs.Common.{◌≡◌, ◌∙◌, Bool, true, length, sym}
use Rattle.std.specs.Global.{Vec}
use Rattle.std.proofs.lemmas.List.Elements.{All-weaker}
use Rattle.vpg_partial.specs.KnownLaws.{IsRemaining}
use Rattle.vpg_sides.specs.declared.which.Which.TheVariants.{Hopeful, Dual}
use Rattle.vpg_sets.specs.Sets.{has}
use Rattle.vpg_why.specs.Explained.{choices}
use Rattle.vpg_why.specs.declared.question.Aim.TheVariants as aims
use Rattle.vpg_winners.proofs.Samples.{all_left, is_first_left, lost_some, won_some}
use Rattle.vpg_winners.proofs.sampling.sample.Goals as goal
use Rattle.vpg_zielonka.specs.Winners.{lists_of}

pub by_list-requires-clause-long : goal.by_list-requires-clause-long
by_list-requires-clause-long c =
    let arena = c.remaining.new.sets in
    All-weaker (λ (p : Vec Bool). (length p.items ≡ arena.features) × (has arena c.in_ok-left.left p.items ≡ true))
    (λ (p : Vec Bool). length p.items ≡ c.features-features.result)
    (λ p both. both.0 ∙ (c.in_ok-left.ensures.features ∙ c.in_ok-sets.ensures.features)) c.in_ok-products.products.items
    c.in_ok-products.ensures.each

pub returns-clause-won : goal.returns-clause-won
returns-clause-won c =
    let order = c.args.order.now in
    let part = c.args.part.now in
    let arena = c.remaining.new.sets in
    let solved = c.in_ok-solved.solved in
    let left = rw (c.deref-2.ensures, c.diagram-2.ensures.diagram, c.decisions.ensures.decisions) at
    c.in_ok-left.ensures.products in
    let features = rw (c.deref.ensures, c.diagram.ensures.diagram) at c.features-features.ensures.count in
    let first = rw c.in-Some.is at c.in_ok-first.ensures.some in
    let long = c.in_ok-left.ensures.features ∙ c.in_ok-sets.ensures.features in
    let count = sym (c.in_ok-solved.ensures.features ∙ features) in
    let own = sym (c.in_ok-left.ensures.features ∙ (c.in_ok-sets.ensures.features ∙ features)) in
    let listed = all_left (IsRemaining order.diagram.lines (choices order.decisions)) (has arena c.in_ok-left.left)
    arena.features c.in_ok-products.products.items c.in_ok-products.ensures.each left in
    c.in_ok-won.ensures order.game order.diagram (aims.Won Hopeful c.args.vertex) (choices order.decisions)
    (won_some order c.args.vertex part.game part.vertex c.requires solved.sets c.in-Some-division.two
    (lists_of c.in_ok-products.products.items) count listed (rw c.in-Some-division.is at c.in_ok-solved.ensures.divided))
    (rw c.deref-3.ensures.value (first.features ∙ (long ∙ sym c.in_ok-solved.ensures.features)))
    (rw c.deref-3.ensures.value (is_first_left order.diagram (choices order.decisions) arena c.in_ok-left.left
    c.in-Some.first.items own left first))

pub returns-clause-lost : goal.returns-clause-lost
returns-clause-lost c =
    let order = c.args.order.now in
    let part = c.args.part.now in
    let arena = c.remaining.new.sets in
    let solved = c.in_ok-solved.solved in
    let left = rw (c.deref-2.ensures, c.diagram-2.ensures.diagram, c.decisions.ensures.decisions) at
    c.in_ok-left.ensures.products in
    let features = rw (c.deref.ensures, c.diagram.ensures.diagram) at c.features-features.ensures.count in
    let first = rw c.in-Some.is at c.in_ok-first.ensures.some in
    let long = c.in_ok-left.ensures.features ∙ c.in_ok-sets.ensures.features in
    let count = sym (c.in_ok-solved.ensures.features ∙ features) in
    let own = sym (c.in_ok-left.ensures.features ∙ (c.in_ok-sets.ensures.features ∙ features)) in
    let listed = all_left (IsRemaining order.diagram.lines (choices order.decisions)) (has arena c.in_ok-left.left)
    arena.features c.in_ok-products.products.items c.in_ok-products.ensures.each left in
    c.in_ok-lost.ensures order.game order.diagram (aims.Won Dual c.args.vertex) (choices order.decisions)
    (lost_some order c.args.vertex part.game part.vertex c.requires solved.sets c.in-Some-division.two
    (lists_of c.in_ok-products.products.items) count listed (rw c.in-Some-division.is at c.in_ok-solved.ensures.divided))
    (rw c.deref-4.ensures.value (first.features ∙ (long ∙ sym c.in_ok-solved.ensures.features)))
    (rw c.deref-4.ensures.value (is_first_left order.diagram (choices order.decisions) arena c.in_ok-left.left
    c.in-Some.first.items own left first))
