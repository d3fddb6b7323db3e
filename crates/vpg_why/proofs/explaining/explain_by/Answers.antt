use Rattle.std.proofs.lemmas.Grind.{common_steps}
use Rattle.std.proofs.Common.{◌≡◌, ◌&&◌, Bool, true, false, List, IsTrue, refl, sym, subst, arith}
use Rattle.vpg_diagram.specs.declared.clause.Literal.{Literal}
use Rattle.vpg_partial.specs.declared.decision.Decision.{Decision}
use Rattle.vpg_why.specs.Suffices.{Suffice, EachIsSettled}
use Rattle.vpg_why.specs.Explained.{choices}
use Rattle.vpg_why.proofs.Fronts.{choices_with}
use Rattle.vpg_why.proofs.Listing.{among_named}
use Rattle.vpg_why.proofs.Next.{IsListed, first_listed, next_listed, last_listed, explained}
use Rattle.vpg_why.proofs.explaining.explain_by.Goals as goal

abbrev no_decision : Decision
no_decision = record { serial = 0; session = 0; feature = 0; value = false }

pub listing-init : goal.listing-init
listing-init c = (
  first_listed c.args.order.now.game c.args.order.now.diagram c.args.limits c.args.question c.args.decisions.now c.args.is_small c.game-order.ensures.order.diagram c.requires.named c.new-kept.result.items c.new-kept.ensures.items c.requires.enough,
  omega arith,
  omega arith,
)

pub last_needed-requires-clause-kept_named : goal.last_needed-requires-clause-kept_named
last_needed-requires-clause-kept_named c =
    rw c.deref.ensures.value (among_named c.args.order.now.diagram.lines (choices c.listing.kept.items) (choices c.args.decisions.now) c.listing.invariant.0.listing.among c.requires.named)

pub last_needed-requires-clause-enough : goal.last_needed-requires-clause-enough
last_needed-requires-clause-enough c =
    rw c.deref.ensures.value (subst (λ (cs : List Literal). Suffice c.args.order.now.game c.args.order.now.diagram c.args.question cs)
    (sym (choices_with c.listing.most c.args.decisions.now c.listing.kept.items)) c.listing.invariant.0.listing.enough)

pub listing-preserved-then-exact : goal.listing-preserved-then-exact
listing-preserved-then-exact c = (
  subst (λ (b : Bool). IsListed (Suffice c.args.order.now.game c.args.order.now.diagram c.args.question) (IsTrue c.args.is_small × EachIsSettled c.args.order.now.game c.args.order.now.diagram c.args.limits c.args.question (choices c.args.decisions.now)) c.args.decisions.now c.insert.new.self.items c.in-Some.last.place (b && c.in-Some.last.exact)) c.if-exact.true
      (next_listed c.args.order.now.game c.args.order.now.diagram c.args.limits c.args.question c.args.decisions.now c.args.is_small c.game-order.ensures.order.diagram c.requires.named c.listing.kept.items c.insert.new.self.items
      c.listing.most c.in-Some.last.place c.listing.exact c.in-Some.last.exact no_decision c.listing.invariant.0 (rw (c.in-Some.is, c.deref.ensures.value) at c.in_ok-found.ensures.some) (rw (c.in-Some.is, c.deref.ensures.value) at c.in_ok-found.ensures.settled) c.in_ok-insert-in-Some.ensures.items),
  (let l = c.in_ok-found.ensures.looks in let n = c.listing.invariant.1 in omega (arith, l, n)),
  (let l = c.in_ok-found.ensures.left in let n = c.listing.invariant.2 in omega (arith, l, n)),
)

pub listing-preserved-else-exact : goal.listing-preserved-else-exact
listing-preserved-else-exact c = (
  subst (λ (b : Bool). IsListed (Suffice c.args.order.now.game c.args.order.now.diagram c.args.question) (IsTrue c.args.is_small × EachIsSettled c.args.order.now.game c.args.order.now.diagram c.args.limits c.args.question (choices c.args.decisions.now)) c.args.decisions.now c.insert.new.self.items c.in-Some.last.place b) (and_false c.listing.exact c.in-Some.last.exact c.if-exact.false)
      (next_listed c.args.order.now.game c.args.order.now.diagram c.args.limits c.args.question c.args.decisions.now c.args.is_small c.game-order.ensures.order.diagram c.requires.named c.listing.kept.items c.insert.new.self.items
      c.listing.most c.in-Some.last.place c.listing.exact c.in-Some.last.exact no_decision c.listing.invariant.0 (rw (c.in-Some.is, c.deref.ensures.value) at c.in_ok-found.ensures.some) (rw (c.in-Some.is, c.deref.ensures.value) at c.in_ok-found.ensures.settled) c.in_ok-insert-in-Some.ensures.items),
  (let l = c.in_ok-found.ensures.looks in let n = c.listing.invariant.1 in omega (arith, l, n)),
  (let l = c.in_ok-found.ensures.left in let n = c.listing.invariant.2 in omega (arith, l, n)),
)
  where
    and_false : (a b : Bool) → a ≡ false → (a && b) ≡ a
    and_false true b e = absurd (clash e)
      where
        clash : true ≡ false → ⊥
        clash x = cc
    and_false false b e = refl

pub listing-preserved : goal.listing-preserved
listing-preserved c = (
  last_listed c.args.order.now.game c.args.order.now.diagram c.args.limits c.args.question c.args.decisions.now c.args.is_small c.game-order.ensures.order.diagram c.requires.named c.listing.kept.items c.listing.most c.listing.exact
      c.listing.invariant.0 ((rw (c.in-None.is, c.deref.ensures.value) at c.in_ok-found.ensures.none) refl),
  (let l = c.in_ok-found.ensures.looks in let n = c.listing.invariant.1 in omega (arith, l, n)),
  (let l = c.in_ok-found.ensures.left in let n = c.listing.invariant.2 in omega (arith, l, n)),
)

pub returns : goal.returns
returns c = record {
  explains = explained c.args.order.now.game c.args.order.now.diagram c.args.limits c.args.question c.args.decisions.now c.args.is_small c.game-order.ensures.order.diagram c.requires.named c.listing.kept.items c.listing.most c.listing.exact
      (omega (arith, c.listing-test.false)) c.listing.invariant.0;
  settled = λ small each. c.listing.invariant.0.settled (small, each);
  looks = c.listing.invariant.1;
  left = c.listing.invariant.2;
}

pub bounds-decisions-last : goal.bounds-decisions-last
bounds-decisions-last c = grind (arith, common_steps)

pub offset_bounds-decisions-last : goal.offset_bounds-decisions-last
offset_bounds-decisions-last c = grind (arith, common_steps)

pub last_needed-requires-clause-within : goal.last_needed-requires-clause-within
last_needed-requires-clause-within c = grind (arith, common_steps)

pub listing-smaller-then-exact : goal.listing-smaller-then-exact
listing-smaller-then-exact c = grind (arith, common_steps)

pub listing-smaller-else-exact : goal.listing-smaller-else-exact
listing-smaller-else-exact c = grind (arith, common_steps)
