use Rattle.std.proofs.lemmas.Grind.{common_steps}
use Rattle.std.proofs.Common.{arith, ◌<◌, Contains, ◌∙◌, ◌++◌, ◌∷◌, [], List, false, slice_index_or, refl, sym, ap, subst}
use Rattle.vpg_guards.specs.declared.tri.Tri.{Tri}
use Rattle.vpg_diagram.specs.FeatureDiagram.{feature_count}
use Rattle.vpg_diagram.specs.declared.clause.Literal.{Literal}
use Rattle.vpg_diagram.proofs.Lists.{All-from_contained}
use Rattle.vpg_measure.specs.Games.{GamesView}
use Rattle.vpg_partial.specs.TableLaws.{IsKnownTable}
use Rattle.vpg_why.specs.declared.question.Question.TheVariants as asks
use Rattle.vpg_why.specs.Explained.{choices}
use Rattle.vpg_why.specs.Suffices.{choice, IsSettled}
use Rattle.vpg_why.proofs.Rooms.{page_trials}
use Rattle.vpg_why.proofs.OpenFeatures.{all_forced, known_next, forced_next, free_next, unshown_next}
use Rattle.vpg_why.proofs.forcing.list_forced.Goals as goal
use Rattle.vpg_why.proofs.forcing.list_forced.Goals.{in-Unknown+in_ok-is_barred+in-Yes+in_ok-push-in-Yes, in-Unknown+in_ok-is_barred+in-No, in-Unknown+in_ok-is_barred+in-Unsettled, in_default}

pub forcing-preserved : goal.forcing-preserved
forcing-preserved c = elim c.match-tri.branch [
  | in-Unknown+in_ok-is_barred+in-Yes+in_ok-push-in-Yes w ↦ (
    rw (w.literals-is, w.exact-is, w.in_ok-push-in-Yes.ensures.items, w.has-value.ensures)
        (forced_next (IsSettled c.args.order.now.game c.args.order.now.diagram c.args.limits (asks.Lost c.args.aim) (choices c.args.order.now.decisions)) c.args.order.now.game c.args.order.now.diagram c.args.aim (choices c.args.order.now.decisions) c.args.product.now c.requires.remaining c.requires.meets c.forcing.literals.items c.forcing.feature c.forcing.exact c.forcing.invariant.0
        c.known-known.result.now (subst (λ (k : List Tri). IsKnownTable c.args.order.now.diagram.lines (choices c.args.order.now.decisions) k) (sym (c.known-known.ensures ∙ ap (λ (g : GamesView). g.known) c.deref.ensures)) c.games.ensures.known)
        (sym c.value-tri.ensures ∙ w.in-Unknown.is)
        (c.forcing.literals.items ++ choice c.forcing.feature (slice_index_or c.args.product.now c.forcing.feature false) ∷ []) refl (rw w.has-value.ensures at (w.in_ok-is_barred.ensures.yes w.in-Yes.is))),
    rw w.found-is w.in_ok-is_barred.ensures.found,
    rw w.trials-is (let l = w.in_ok-is_barred.ensures.left in let n = c.forcing.invariant.2 in omega (arith, l, n)),
    rw w.looks-is (let l = w.in_ok-is_barred.ensures.looks in let n = c.forcing.invariant.3 in omega (arith, l, n)),
  )
  | in-Unknown+in_ok-is_barred+in-No w ↦ (
    rw (w.literals-is, w.exact-is)
        (free_next (IsSettled c.args.order.now.game c.args.order.now.diagram c.args.limits (asks.Lost c.args.aim) (choices c.args.order.now.decisions)) c.args.order.now.game c.args.order.now.diagram c.args.aim (choices c.args.order.now.decisions) c.args.product.now c.requires.remaining c.requires.meets c.forcing.literals.items c.forcing.feature c.forcing.exact c.forcing.invariant.0
        (rw w.has-value.ensures at (w.in_ok-is_barred.ensures.no w.in-No.is))),
    rw w.found-is w.in_ok-is_barred.ensures.found,
    rw w.trials-is (let l = w.in_ok-is_barred.ensures.left in let n = c.forcing.invariant.2 in omega (arith, l, n)),
    rw w.looks-is (let l = w.in_ok-is_barred.ensures.looks in let n = c.forcing.invariant.3 in omega (arith, l, n)),
  )
  | in-Unknown+in_ok-is_barred+in-Unsettled w ↦ (
    rw (w.literals-is, w.exact-is)
        (unshown_next (IsSettled c.args.order.now.game c.args.order.now.diagram c.args.limits (asks.Lost c.args.aim) (choices c.args.order.now.decisions)) c.args.order.now.game c.args.order.now.diagram c.args.aim (choices c.args.order.now.decisions) c.args.product.now c.requires.remaining c.requires.meets c.forcing.literals.items c.forcing.feature c.forcing.exact c.forcing.invariant.0
        (λ s. w.in_ok-is_barred.ensures.settled s w.in-Unsettled.is)),
    rw w.found-is w.in_ok-is_barred.ensures.found,
    rw w.trials-is (let l = w.in_ok-is_barred.ensures.left in let n = c.forcing.invariant.2 in omega (arith, l, n)),
    rw w.looks-is (let l = w.in_ok-is_barred.ensures.looks in let n = c.forcing.invariant.3 in omega (arith, l, n)),
  )
  | in_default w ↦ (
    rw (w.literals-is, w.exact-is)
        (known_next (IsSettled c.args.order.now.game c.args.order.now.diagram c.args.limits (asks.Lost c.args.aim) (choices c.args.order.now.decisions)) c.args.order.now.game c.args.order.now.diagram c.args.aim (choices c.args.order.now.decisions) c.args.product.now c.requires.remaining c.requires.meets c.forcing.literals.items c.forcing.feature c.forcing.exact c.forcing.invariant.0
        c.known-known.result.now c.games.ensures.is_diagram (subst (λ (k : List Tri). IsKnownTable c.args.order.now.diagram.lines (choices c.args.order.now.decisions) k) (sym (c.known-known.ensures ∙ ap (λ (g : GamesView). g.known) c.deref.ensures)) c.games.ensures.known)
        (λ e. w.in_default.not-Unknown (c.value-tri.ensures ∙ e))),
    rw w.found-is c.forcing.invariant.1,
    rw w.trials-is c.forcing.invariant.2,
    rw w.looks-is c.forcing.invariant.3,
  )
]

pub returns-clause-needs : goal.returns-clause-needs
returns-clause-needs c =
    let order = c.args.order.now in
    all_forced (IsSettled order.game order.diagram c.args.limits (asks.Lost c.args.aim) (choices order.decisions)) order.game order.diagram c.args.aim (choices order.decisions) c.forcing.literals.items
    c.forcing.feature c.forcing.exact
    (omega (
      arith,
      rw (c.features-features.ensures.count, c.deref-2.ensures, c.diagram.ensures.diagram) at c.forcing-test.false,
      rw (c.features-features.ensures.count, c.deref-2.ensures, c.diagram.ensures.diagram) at c.forcing.auto.feature-end,
    )) c.forcing.invariant.0

pub forcing-init : goal.forcing-init
forcing-init c = grind (arith, common_steps)

pub is_barred-requires-clause-feature : goal.is_barred-requires-clause-feature
is_barred-requires-clause-feature c = grind (arith, common_steps)

pub value-tri-requires : goal.value-tri-requires
value-tri-requires c = grind (arith, common_steps)

pub is_barred-requires-clause-small : goal.is_barred-requires-clause-small
is_barred-requires-clause-small c has = c.has_trials-is_small.ensures (page_trials c.args.order.now.diagram.lines (choices c.args.order.now.decisions) c.known-known.result.now c.args.limits.trials
    (subst (λ (k : List Tri). IsKnownTable c.args.order.now.diagram.lines (choices c.args.order.now.decisions) k) (sym (c.known-known.ensures ∙ ap (λ (g : GamesView). g.known) c.deref.ensures)) c.games.ensures.known) has)

pub returns-clause-left : goal.returns-clause-left
returns-clause-left c = c.forcing.invariant.2

pub returns-clause-looks : goal.returns-clause-looks
returns-clause-looks c = c.forcing.invariant.3

pub is_barred-requires-clause-named : goal.is_barred-requires-clause-named
is_barred-requires-clause-named c =
    let n = feature_count c.args.order.now.diagram.lines in
    let less : c.forcing.feature < n = grind (arith, common_steps) in
    All-from_contained (λ (l : Literal). l.feature < n) c.deref-in-Unknown.result.now (λ l h.
    let b = c.forcing.invariant.0.below l (subst (λ (ls : List Literal). Contains ls l) c.deref-in-Unknown.ensures.value h) in omega (arith, b, less))

pub is_barred-requires-clause-forced : goal.is_barred-requires-clause-forced
is_barred-requires-clause-forced c l h = c.forcing.invariant.0.forced l (subst (λ (ls : List Literal). Contains ls l) c.deref-in-Unknown.ensures.value h)
