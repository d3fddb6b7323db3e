use Rattle.std.proofs.lemmas.Grind.{common_steps}
use Rattle.std.proofs.Common.{◌≡◌, ℕ, true, false, sym, subst, refl, arith}
use Rattle.vpg_guards.specs.Known.{AreAllKnown}
use Rattle.vpg_why.specs.Explained.{choices}
use Rattle.vpg_why.specs.declared.question.Shown.{Shown}
use Rattle.vpg_why.specs.declared.question.Shown.TheVariants as shown
use Rattle.vpg_why.proofs.Examples.{met_where_full}
use Rattle.vpg_why.proofs.First.{agree_below}
use Rattle.vpg_why.proofs.Losing.{barred_loses}
use Rattle.vpg_why.proofs.searching.outlook_under.Goals as goal
use Rattle.vpg_why.proofs.searching.outlook_under.Goals.{in-No+in_ok-product+in_default-2, in_default-shown}

pub returns-in-Yes-clause-outlook : goal.returns-in-Yes-clause-outlook
returns-in-Yes-clause-outlook c =
    barred_loses c.args.order.now.game c.args.order.now.diagram c.args.aim (choices c.args.decisions.now) c.args.known.now c.diagram.ensures.order.game c.diagram.ensures.order.diagram c.requires.named c.requires.aim
    c.requires.known (c.requires.yes c.in-Yes.is)

pub returns-in-Some : goal.returns-in-Some
returns-in-Some c = record {
  outlook = record {
    within = rw (c.features-features.ensures.count, c.deref.ensures, c.diagram.ensures.diagram) at c.in-Some.ensures.within;
    agree = agree_below c.args.order.now.diagram (choices c.args.decisions.now) c.args.known.now c.in-Some.feature c.diagram.ensures.order.diagram c.requires.known c.in-Some.ensures.below;
    known = c.args.known.now;
    is_table = c.requires.known;
    unknown = c.in-Some.ensures.open;
    below = c.in-Some.ensures.below;
  };
  settled = λ s. tt;
}

pub returns-in-Some-2 : goal.returns-in-Some-2
returns-in-Some-2 c =
    let only = rw c.in-Some-2.is at (c.in_ok-product.ensures.product c.args.order.now.diagram.lines (choices c.args.decisions.now) c.diagram.ensures.order.diagram.diagram c.requires.named c.requires.known) in
    record {
      outlook = (
        only,
        met_where_full c.args.order.now.game c.args.order.now.diagram c.args.aim (choices c.args.decisions.now) c.args.known.now c.in-Some-2.product.items c.diagram.ensures.order.game c.diagram.ensures.order.diagram c.diagram.ensures.order.features c.requires.known
            (rw (c.features-features.ensures.count, c.deref.ensures, c.diagram.ensures.diagram) at (c.in_default-open_feature.ensures.none refl)) only.remaining c.requires.aim (c.requires.no c.in-No.is),
      );
      settled = λ s. tt;
    }

pub returns : goal.returns
returns c = record {
  outlook = tt;
  settled = λ s. elim c.match-shown-2.branch [
    | in-No+in_ok-product+in_default-2 w ↦
        let all = rw (c.features-features.ensures.count, c.deref.ensures, c.diagram.ensures.diagram) at (c.in_default-open_feature.ensures.none refl) in
        clash (rw w.in_default-2.is at (w.in_ok-product.ensures.full.1 (subst (λ (n : ℕ). AreAllKnown n c.args.known.now) (sym c.requires.known.length_is) all)))
    | in_default-shown w ↦ shown_one c.args.shown c.in_default.not-Yes w.in_default-shown.not-No s
  ];
}
  where
    clash : false ≡ true → ⊥
    clash x = cc

    shown_one : (x : Shown) → (x ≡ shown.Yes → ⊥) → (x ≡ shown.No → ⊥) → (x ≡ shown.Unsettled → ⊥) → ⊥
    shown_one shown.Yes a b d = a refl
    shown_one shown.No a b d = b refl
    shown_one shown.Unsettled a b d = d refl

pub open_feature-requires : goal.open_feature-requires
open_feature-requires c = grind (arith, common_steps)
